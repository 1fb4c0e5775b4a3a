-- Laws of `Put`: texts that are put one after another, and the turns of the loops that put them. Assumes nothing.
use mathlib.Core.Path.{◌≡◌, refl, sym, ap, ◌∙◌, subst}
use mathlib.Core.List.{List, [], ◌∷◌, ◌++◌}
use Prim.Native.Nat.{ℕ, ◌+◌, ◌/◌, ◌%◌, ◌≤◌, ◌<◌}
use native.Mathlib.Numerals.{add-one}
use native.Mathlib.Omega.{arith}
use lib.ListN.{length, set, length-append}
use lib.Seq.{set_split}
use Rattle.laws.specs.Lent.{stored}
use Rattle.laws.proofs.Lent.{stored_none, length-stored, stored_then}
use Rattle.text.specs.Text.{space, digit, decimal, following}
use Rattle.text.specs.Put.{Put}
use Rattle.text.proofs.Decimal.{decimal_small, decimal_large, length_large}

-- ## Put

pub put_none : {at end : ℕ} (old : List ℕ) → end ≡ at → Put at [] old old end
put_none {at} old e = record { holds = sym (stored_none at old); ends = omega arith }

pub put_byte : {at end : ℕ} (y : ℕ) (old : List ℕ) → end ≡ at + 1 → at < length old → Put at (y ∷ []) old (set old at y) end
unfolding stored
put_byte {at} y old e l = record { holds = set_split old at y l ∙ rw (← add-one at); ends = e }

-- a second text goes where the first one ends
pub put_then : {at mid end : ℕ} {s t old between new : List ℕ} → at + length s ≤ length old → Put at s old between mid → Put mid t between new end
    → Put at (s ++ t) old new end
put_then {at} {mid} {end} {s} {t} {old} {between} {new} l p q =
    record {
      holds =
          stored_then at (length s) s t old between new refl l p.holds
          (q.holds ∙ ap (λ (k : ℕ). stored k t between) p.ends);
      ends = simp length-append (omega (arith, p.ends, q.ends));
    }

pub length_put : {at end : ℕ} {s old new : List ℕ} → at + length s ≤ length old → Put at s old new end → length new ≡ length old
length_put {at} {end} {s} {old} l p = ap length p.holds ∙ length-stored at s old l

-- the same text, said otherwise
pub put_as : {at end : ℕ} {s t old new : List ℕ} → s ≡ t → Put at s old new end → Put at t old new end
put_as {at} {end} {s} {t} {old} {new} e p = subst (λ (x : List ℕ). Put at x old new end) e p

-- a space, and the text after it
pub put_following : (at : ℕ) {end : ℕ} (word : List ℕ) (old : List ℕ) {new : List ℕ} → at < length old → Put (at + 1) word (set old at space) new end
    → Put at (following word) old new end
put_following at word old l p = put_then (omega arith) (put_byte space old refl l) p

-- ## A number: its only digit, or its higher digits and then the last one

module _ (at x d : ℕ) (old : List ℕ) where
  pub put_only : x < 10 → d ≡ digit x → at < length old → Put at (decimal x) old (set old at d) (at + 1)
  put_only s e l = put_as (ap (λ (c : ℕ). c ∷ []) e ∙ sym (decimal_small x s)) (put_byte d old refl l)

  pub put_last : {mid : ℕ} {between : List ℕ} → 10 ≤ x → d ≡ digit (x % 10) → at + length (decimal x) ≤ length old
      → Put at (decimal (x / 10)) old between mid → Put at (decimal x) old (set between mid d) (mid + 1)
  put_last {mid} {between} s e l p =
      let k = length_large x s in
      let h : at + length (decimal (x / 10)) ≤ length old = omega arith in
      put_as (ap (λ (c : ℕ). decimal (x / 10) ++ (c ∷ [])) e ∙ sym (decimal_large x s))
      (put_then h p (put_byte d between refl (omega (arith, p.ends, length_put h p))))
