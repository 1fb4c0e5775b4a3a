-- A test over 0, 1, .., n - 1, by `any`, is `any_below`. Assumes nothing.
use denote.Param.Members.{Mut}
use mathlib.Core.Path.{◌≡◌, refl, sym}
use mathlib.Core.Bool.{Bool, true, false}
use mathlib.Core.List.{List}
use Prim.Native.Nat.{ℕ, ◌<◌}
use native.Mathlib.Nat.{zero-add}
use native.Mathlib.Omega.{arith}
use lib.ListN.{length, get_or}
use Rattle.std.specs.declared.ops.Range.{Range}
use Rattle.std.specs.Bool.{MatchBool}
use Rattle.std.specs.Fn.{Called}
use Rattle.std.specs.Iterator.{YieldsThen}
use Rattle.std.specs.List.{range_with_len, FoldsTo, HoldsAt, AllWithin}
use Rattle.std.specs.Prelude.{Option}
use Rattle.std.specs.Option.{MatchOption}
use Rattle.std.proofs.iter.Yields.{nat_range_steps}
use Rattle.std.proofs.lemmas.Iterator.{cases_from_any, YieldsList-from_range}
use Rattle.std.proofs.lemmas.List.FromFn.{length-range_with_len, get_or-range_with_len}
use Rattle.laws.specs.Below.{any_below}
use Rattle.laws.proofs.Below.{any_hit, none_any}

item : (n k : ℕ) → k < n → get_or (range_with_len 0 n) k 0 ≡ k
item n k l = rw (get_or-range_with_len 0 n k 0 l) (zero-add k)

by_cases : (n : ℕ) (p : ℕ → Bool) (r : Bool)
    → MatchBool r ((k : ℕ) × (k < length (range_with_len 0 n)) × HoldsAt (λ x. p x ≡ true) (range_with_len 0 n) k)
    (AllWithin (λ x. p x ≡ false) (range_with_len 0 n) 0 (length (range_with_len 0 n)))
    → r ≡ any_below n p
by_cases n p true h =
    let l : h.0 < n = omega (arith, length-range_with_len 0 n, h.1) in
    sym (any_hit n p h.0 l (rw (item n h.0 l) at (h.2 0)))
by_cases n p false h = sym (none_any n p (λ i l. rw (item n i l) at (h i 0 (omega arith) (omega (arith, length-range_with_len 0 n)))))

-- of a call over `0..n`: its clause `ran`, and what the closure's answers mean
pub any_is_below : {F : Type 0} {g : Mut F (ℕ × Unit {0}) Bool} {u : Range ℕ} {f : F} {r : Bool} (n : ℕ) (p : ℕ → Bool)
    → (xs : List ℕ) × (o : Option ℕ) × (j : F)
    × YieldsThen nat_range_steps (record { start = 0; end = n }) xs o u
    × FoldsTo (λ p x q. Called g p (x, tt) false q) f xs j
    × MatchOption o (r ≡ false) (λ x. (r ≡ true) × ((h : F) × Called g j (x, tt) true h))
    → ((x : ℕ) (q : F) → Called g f (x, tt) true q → p x ≡ true)
    → ((x : ℕ) (q : F) → Called g f (x, tt) false q → (q ≡ f) × (p x ≡ false))
    → r ≡ any_below n p
any_is_below {F} {g} {u} {f} {r} n p ran found missed =
    by_cases n p r (cases_from_any u f r (λ x. p x ≡ true) (λ x. p x ≡ false) ran (YieldsList-from_range 0 n n refl (omega arith)) found missed)
