-- No other count is one of mismatches. Assumes nothing.
use mathlib.Core.Path.{◌≡◌, refl, sym}
use mathlib.Core.Bool.{Bool, true, false, not}
use Prim.Native.Nat.{ℕ, zero, suc, ◌+◌, ◌^◌, ◌<◌}
use native.Mathlib.Omega.{arith}
use borrow.Author.Tests.{not-true}
use lib.Bits.{bit_or}
use Rattle.laws.specs.Below.{any_below}
use Rattle.laws.proofs.Below.{and_true, any_found, any_none}
use Rattle.donation.specs.Compatibility.{entries, has}
use Rattle.donation.specs.Promises.{Covered, CountsMismatches, NoOtherCount}
use Rattle.donation.specs.Weight.{mismatches}
use Rattle.donation.proofs.Bits.{set_there, set_elsewhere}
use Rattle.donation.proofs.Mismatched.{lacked, had, mismatches-counted}

-- ## No other count

module _ (count : ℕ → ℕ → ℕ) (c : CountsMismatches count) (donor : ℕ) where
  -- m antigens are lacked; the patient is given one of them
  alike : (m patient : ℕ) → mismatches donor patient ≡ m → count donor patient ≡ m
  alike zero patient e = (c.none donor patient).1 ((mismatches-counted.none donor patient).0 e)
  alike (suc m) patient e = go (alike m) (any_below entries (lacked donor patient)) refl
    where
      go : ((q : ℕ) → mismatches donor q ≡ m → count donor q ≡ m) → (t : Bool) → any_below entries (lacked donor patient) ≡ t
          → count donor patient ≡ suc m
      go r true h =
          let found = any_found entries (lacked donor patient) h in
          let k = found.0 in
          let w = and_true (has donor k) (not (has patient k)) found.2 in
          let lacks = not-true (has patient k) w.1 in
          let q = bit_or patient (2 ^ k) in
          let others : (j : ℕ) → j < entries → (j ≡ k → ⊥) → has donor j ≡ true → has patient j ≡ has q j =
          λ j l n d. sym (set_elsewhere patient k j n) in
          let fewer : (f : ℕ → ℕ → ℕ) → CountsMismatches f → f donor patient ≡ f donor q + 1 =
          λ f s. s.each donor patient q k found.1 w.0 lacks (set_there patient k) others in
          omega (arith, r q (omega (arith, e, fewer mismatches mismatches-counted)), fewer count c)
      go r false h =
          let covered : Covered donor patient = λ k l. had (has donor k) (has patient k) (any_none entries (lacked donor patient) h k l) in
          absurd (omega (arith, e, (mismatches-counted.none donor patient).1 covered))

pub no_other_count : NoOtherCount
no_other_count count c donor patient = alike count c donor (mismatches donor patient) patient refl
