-- A mismatch is a donor antigen that the patient does not have. Assumes nothing.
use mathlib.Core.Path.{◌≡◌, refl, sym, ap, ◌∙◌}
use mathlib.Core.Bool.{Bool, true, false, not, ◌&&◌}
use Prim.Native.Nat.{ℕ, zero, suc, ◌+◌, ◌<◌}
use native.Mathlib.Omega.{arith}
use native.Mathlib.Decide.{dec_lt}
use Rattle.laws.specs.Below.{one, count_below}
use Rattle.laws.proofs.Below.{true_false, count_cong, count_none, none_count}
use Rattle.donation.specs.Compatibility.{entries, has}
use Rattle.donation.specs.Promises.{OneSided, MismatchesCounted, MismatchesComeOut}
use Rattle.donation.specs.Weight.{mismatches}

-- an antigen that counts
abbrev pub lacked : ℕ → ℕ → ℕ → Bool
lacked donor patient k = has donor k && not (has patient k)

-- ## What only the patient has

same : (d p q : Bool) → (d ≡ true → p ≡ q) → (d && not p) ≡ (d && not q)
same true p q h = ap not (h refl)
same false p q h = refl

pub one_sided : OneSided
unfolding mismatches
one_sided donor p q h = count_cong entries (lacked donor p) (lacked donor q) (λ k l. same (has donor k) (has p k) (has q k) (h k l))

-- ## None, and one more

pub had : (d p : Bool) → (d && not p) ≡ false → d ≡ true → p ≡ true
had true true e h = refl
had true false e h = sym e
had false p e h = true_false h refl

not_lacked : (d p : Bool) → (d ≡ true → p ≡ true) → (d && not p) ≡ false
not_lacked true p h = ap not (h refl)
not_lacked false p h = refl

-- two tests that differ at k alone
count_one_more : (n : ℕ) (f g : ℕ → Bool) (k : ℕ) → k < n → f k ≡ true → g k ≡ false → ((j : ℕ) → j < n → (j ≡ k → ⊥) → f j ≡ g j)
    → count_below n f ≡ count_below n g + 1
unfolding count_below one
count_one_more zero f g k l a b h = absurd (omega arith)
count_one_more (suc n) f g k l a b h = go (count_one_more n f g k) (dec_lt k n)
  where
    go : (k < n → f k ≡ true → g k ≡ false → ((j : ℕ) → j < n → (j ≡ k → ⊥) → f j ≡ g j) → count_below n f ≡ count_below n g + 1)
        → Dec (k < n) → count_below n f + one (f n) ≡ count_below n g + one (g n) + 1
    go r (yes m) = omega (arith, r m a b (λ j i. h j (omega arith)), ap one (h n (omega arith) (λ e. omega arith)))
    go r (no m) =
        let e : k ≡ n = omega arith in
        let there : f n ≡ true = ap f (sym e) ∙ a in
        let gone : g n ≡ false = ap g (sym e) ∙ b in
        rw (there, gone) (omega (arith, count_cong n f g (λ j i. h j (omega arith) (λ z. omega arith))))

pub mismatches-counted : MismatchesCounted
unfolding mismatches
mismatches-counted =
    record {
      none =
          λ donor patient. (
            λ e k l. had (has donor k) (has patient k) (none_count entries (lacked donor patient) e k l),
            λ c. count_none entries (lacked donor patient) (λ k l. not_lacked (has donor k) (has patient k) (c k l)),
          );
      each =
          λ donor p q k l d a b h.
          count_one_more entries (lacked donor p) (lacked donor q) k l (rw (d, a)) (rw (d, b))
          (λ j m w. same (has donor j) (has p j) (has q j) (h j m w));
    }

-- ## Computed

pub mismatches_come_out : MismatchesComeOut
unfolding mismatches has count_below one
mismatches_come_out = refl
