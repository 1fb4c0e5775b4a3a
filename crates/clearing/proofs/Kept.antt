-- One subset after the choice. Assumes nothing.
use Prim.Native.Nat.{ℕ, ◌-◌, ◌*◌, ◌^◌, ◌≤◌, ◌<◌}
use mathlib.Core.Bool.{Bool, true, false, cond}
use mathlib.Core.List.{List, [], ◌∷◌}
use mathlib.Core.Path.{◌≡◌, refl, sym, ap, ◌∙◌}
use native.Mathlib.Nat.{mul-zero, mul-one}
use native.Mathlib.Omega.{arith}
use borrow.Author.Tests.{ne_eqb, ltb-false}
use lib.Dec.{eqb, ltb}
use lib.ListN.{length}
use Rattle.laws.specs.Below.{either, one}
use Rattle.greedy.specs.Tally.{Tally, raise}
use Rattle.greedy.specs.Places.{among, meets}
use Rattle.greedy.specs.Rounds.{clearing_tally}
use Rattle.cursor.specs.Cursor.{OnSubset, below, subset_at}
use Rattle.cursor.specs.declared.Places.{Places}
use Rattle.cursor.proofs.Standing.{range_two, range_triple}

-- ## Is a place in the choice?

-- a place below n is among those below n where it is among all
among_on : (n p q : ℕ) (s t : List ℕ) → p < n → (b : Bool) → ltb q n ≡ b → among p t ≡ among p s → among p (cond b (q ∷ t) t) ≡ either (eqb p q) (among p s)
unfolding among either
among_on n p q s t h true e ih = ap (either (eqb p q)) ih
among_on n p q s t h false e ih = rw (ne_eqb p q (λ d. omega (arith, ltb-false q n e))) ih

among_below : (n p : ℕ) (s : List ℕ) → p < n → among p (below n s) ≡ among p s
unfolding among below
among_below n p [] h = refl
among_below n p (q ∷ s) h = among_on n p q s (below n s) h (ltb q n) refl (among_below n p s h)

-- what the readout at a place below n keeps
kept : (n p : ℕ) (c : Places) (k : ℕ) → p < n → k ≡ 1 - one (among p (c.u ∷ c.v ∷ c.w ∷ [])) → k ≡ 1 - one (among p (subset_at n c))
unfolding subset_at
kept n p c k h e = e ∙ ap (λ (b : Bool). 1 - one b) (sym (among_below n p (c.u ∷ c.v ∷ c.w ∷ []) h))

-- ## A weight times what each place keeps

times : (x : ℕ) (b : Bool) → x * (1 - one b) ≡ cond b 0 x
unfolding one
times x true = mul-zero x
times x false = mul-one x

then_times : (x : ℕ) (a b : Bool) → cond b 0 (cond a 0 x) ≡ cond (either a b) 0 x
unfolding either
then_times x true true = refl
then_times x true false = refl
then_times x false true = refl
then_times x false false = refl

either_none : (b : Bool) → either b false ≡ b
unfolding either
either_none true = refl
either_none false = refl

either_assoc : (a b c : Bool) → either (either a b) c ≡ either a (either b c)
unfolding either
either_assoc true b c = refl
either_assoc false b c = refl

cond_le : (b : Bool) (x : ℕ) → cond b 0 x ≤ x
cond_le true x = omega arith
cond_le false x = omega arith

-- the product with what place a keeps
module _ (n x : ℕ) (p c : Places) (range : OnSubset n p) (small : x < 2 ^ 32) where
  in_u : p.u < n
  in_u = omega (arith, range.uv, range.vw, range.wn)

  in_v : p.v < n
  in_v = omega (arith, range.vw, range.wn)

  module _ (k₁ : ℕ) (e₁ : k₁ ≡ 1 - one (among p.u (c.u ∷ c.v ∷ c.w ∷ []))) where
    a : Bool
    a = among p.u (subset_at n c)

    first_is : x * k₁ ≡ cond a 0 x
    unfolding a
    first_is = ap (λ (k : ℕ). x * k) (kept n p.u c k₁ in_u e₁) ∙ times x a

    module _ (y : ℕ) (ey : y ≡ x * k₁) (k₂ : ℕ) (e₂ : k₂ ≡ 1 - one (among p.v (c.u ∷ c.v ∷ c.w ∷ []))) where
      b : Bool
      b = among p.v (subset_at n c)

      second_is : y * k₂ ≡ cond (either a b) 0 x
      unfolding b
      second_is =
          ap (λ (k : ℕ). k * k₂) (ey ∙ first_is) ∙ ap (λ (k : ℕ). cond a 0 x * k) (kept n p.v c k₂ in_v e₂) ∙ times (cond a 0 x) b ∙ then_times x a b

      pub two_cleared : p.w ≡ n → (r : ℕ) → r ≡ y * k₂ → r ≡ cond (meets (subset_at n p) (subset_at n c)) 0 x
      unfolding a b meets
      two_cleared e r er =
          er ∙ second_is
          ∙ sym (ap (λ (s : List ℕ). cond (meets s (subset_at n c)) 0 x) (range_two n p range e) ∙ ap (λ (t : Bool). cond (either a t) 0 x) (either_none b))

      module _ (z : ℕ) (ez : z ≡ y * k₂) (k₃ : ℕ) (e₃ : k₃ ≡ 1 - one (among p.w (c.u ∷ c.v ∷ c.w ∷ []))) (e : p.w ≡ n → ⊥) where
        d : Bool
        d = among p.w (subset_at n c)

        third_is : z * k₃ ≡ cond (either (either a b) d) 0 x
        unfolding d
        third_is =
            ap (λ (k : ℕ). k * k₃) (ez ∙ second_is) ∙ ap (λ (k : ℕ). cond (either a b) 0 x * k) (kept n p.w c k₃ (omega (arith, range.wn)) e₃)
            ∙ times (cond (either a b) 0 x) d ∙ then_times x (either a b) d

        pub triple_cleared : (r : ℕ) → r ≡ z * k₃ → r ≡ cond (meets (subset_at n p) (subset_at n c)) 0 x
        unfolding a b d meets
        triple_cleared r er =
            er ∙ third_is
            ∙ sym (
            ap (λ (s : List ℕ). cond (meets s (subset_at n c)) 0 x) (range_triple n p range e)
            ∙ ap (λ (t : Bool). cond (either a (either b t)) 0 x) (either_none d)
            ∙ ap (λ (t : Bool). cond t 0 x) (sym (either_assoc a b d))
            )

-- ## The tally of one subset

clearing_one : (s : List ℕ) (t : Tally) → clearing_tally (s ∷ []) t ≡ raise 0 (length s) t
unfolding clearing_tally
clearing_one s t = refl

module _ (n : ℕ) (p : Places) (range : OnSubset n p) (t : Tally) where
  pub tally_two : p.w ≡ n → raise 0 2 t ≡ clearing_tally (subset_at n p ∷ []) t
  tally_two e = sym (ap (λ (s : List ℕ). clearing_tally (s ∷ []) t) (range_two n p range e) ∙ clearing_one (p.u ∷ p.v ∷ []) t)

  pub tally_triple : (p.w ≡ n → ⊥) → raise 0 3 t ≡ clearing_tally (subset_at n p ∷ []) t
  tally_triple e = sym (ap (λ (s : List ℕ). clearing_tally (s ∷ []) t) (range_triple n p range e) ∙ clearing_one (p.u ∷ p.v ∷ p.w ∷ []) t)
