-- The tally of planning has the closed form of demand 3. Assumes nothing.
use Prim.Native.Nat.{ℕ, zero, suc, ◌+◌, ◌-◌, ◌*◌, ◌≤◌, ◌<◌}
use mathlib.Core.List.{List, [], ◌∷◌, map}
use mathlib.Core.Logic.{◌⊎◌, inl, inr}
use mathlib.Core.Path.{◌≡◌, refl, ap, ◌∙◌}
use native.Mathlib.Omega.{arith}
use native.Mathlib.Decide.{dec_le}
use lib.Dec.{eqb}
use lib.ListN.{length, length-map}
use borrow.Author.Tests.{eq-eqb, ne_eqb}
use Rattle.laws.specs.Below.{one}
use Rattle.greedy.specs.Tally.{Tally, tally, raise}
use Rattle.greedy.specs.Rounds.{rounds}
use Rattle.greedy.proofs.Choosing.{same_tally}
use Rattle.greedy.proofs.Tallied.{sizes, after, rounds-tally}
use Rattle.exchange.specs.Subsets.{ascending, subsets, up_to_three, subset_weight, evaluation_tally}
use Rattle.exchange.specs.Input.{input_with}
use Rattle.exchange.specs.Planning.{round_count, left_by}
use Rattle.exchange.specs.Promises.{how_many, products_due, tally_due, TallyOf}
use Rattle.exchange.specs.Rivals.{Each}
use Rattle.exchange.proofs.Ordered.{Subset, subsets_all, each_mono}
use Rattle.exchange.proofs.Counted.{twos, count_triples, count_twos, twos_are, triples_are}

-- ---- twos and triples

-- a two or a triple
abbrev Sized : List ℕ → Type 0
Sized s = (length s ≡ 2) ⊎ (length s ≡ 3)

sized : (n : ℕ) → Each Sized (subsets 3 n)
sized n = each_mono (Subset 3 n) Sized (λ s h. go s h (dec_le (length s) 2)) (subsets 3 n) (subsets_all 3 n)
  where
    go : (s : List ℕ) → Subset 3 n s → Dec (length s ≤ 2) → Sized s
    go s h (yes k) = inl (omega (arith, h.least))
    go s h (no k) = inr (omega (arith, h.most))

one_two : (s : List ℕ) → length s ≡ 2 → (one (eqb (length s) 2) ≡ 1) × (one (eqb (length s) 3) ≡ 0)
unfolding one
one_two s e = (rw e, rw e)

one_three : (s : List ℕ) → length s ≡ 3 → (one (eqb (length s) 2) ≡ 0) × (one (eqb (length s) 3) ≡ 1)
unfolding one
one_three s e = (rw e, rw e)

all_sized : (ss : List (List ℕ)) → Each Sized ss → length ss ≡ how_many 3 ss + how_many 2 ss
unfolding how_many
all_sized [] h = refl
all_sized (s ∷ ss) h = elim h.0 [
  | inl e ↦ omega (arith, all_sized ss h.1, (one_two s e).0, (one_two s e).1)
  | inr e ↦ omega (arith, all_sized ss h.1, (one_three s e).0, (one_three s e).1)
]

sizes_sized : (ss : List (List ℕ)) → Each Sized ss → sizes ss ≡ 2 * how_many 2 ss + 3 * how_many 3 ss
unfolding how_many sizes
sizes_sized [] h = refl
sizes_sized (s ∷ ss) h = elim h.0 [
  | inl e ↦ omega (arith, sizes_sized ss h.1, (one_two s e).0, (one_two s e).1)
  | inr e ↦ omega (arith, sizes_sized ss h.1, (one_three s e).0, (one_three s e).1)
]

evaluating_two : (s : List ℕ) (ss : List (List ℕ)) (t : Tally) → length s ≡ 2 → evaluation_tally (s ∷ ss) t ≡ evaluation_tally ss (raise 0 2 t)
unfolding evaluation_tally
evaluating_two s ss t e = rw (eq-eqb (length s) 2 e)

evaluating_three : (s : List ℕ) (ss : List (List ℕ)) (t : Tally) → length s ≡ 3 → evaluation_tally (s ∷ ss) t ≡ evaluation_tally ss (raise 1 7 t)
unfolding evaluation_tally
evaluating_three s ss t e = rw (ne_eqb (length s) 2 (omega arith))

evaluating_sized : (ss : List (List ℕ)) → Each Sized ss → (t : Tally) → evaluation_tally ss t ≡ raise (how_many 3 ss) (2 * how_many 2 ss + 7 * how_many 3 ss) t
unfolding how_many evaluation_tally raise
evaluating_sized [] h t = same_tally _ _ (omega arith) (omega arith) refl
evaluating_sized (s ∷ ss) h t = elim h.0 [
  | inl e ↦ evaluating_two s ss t e ∙ evaluating_sized ss h.1 (raise 0 2 t)
      ∙ same_tally _ _ (omega (arith, (one_two s e).0, (one_two s e).1)) (omega (arith, (one_two s e).0, (one_two s e).1)) refl
  | inr e ↦ evaluating_three s ss t e ∙ evaluating_sized ss h.1 (raise 1 7 t)
      ∙ same_tally _ _ (omega (arith, (one_three s e).0, (one_three s e).1)) (omega (arith, (one_three s e).0, (one_three s e).1)) refl
]

-- ---- the closed form

due_none : (T P : ℕ) → (T ≡ 0) × (P ≡ 0) → raise T (2 * P + 7 * T) (tally 0 0 0) ≡ tally_due T P 0
unfolding raise tally_due products_due
due_none T P e = same_tally _ _ (omega arith) (omega arith) refl

due_after : (T P R : ℕ) → (R ≡ 0 → (T ≡ 0) × (P ≡ 0)) → after R (T + P) (2 * P + 3 * T) (raise T (2 * P + 7 * T) (tally 0 0 0)) ≡ tally_due T P R
unfolding after raise tally_due products_due
due_after T P zero h = let e = h refl in same_tally _ _ (omega arith) (omega arith) (omega arith)
due_after T P (suc r) h = same_tally _ _ (omega arith) (products (5 * (T + P) - 1)) (omega arith)
  where
    products : (q : ℕ) → 0 + (2 * P + 7 * T) + suc r * q + (suc r - 1) * (2 * P + 3 * T) ≡ 2 * P + 7 * T + suc r * q + r * (2 * P + 3 * T)
    products q = let e : suc r - 1 ≡ r = omega arith in rw e (omega arith)

module _ (f n : ℕ) (m w : ℕ → ℕ → ℕ) (s : List ℕ) where
  T : ℕ
  T = how_many 3 (subsets 3 n)

  P : ℕ
  P = how_many 2 (subsets 3 n)

  start : evaluation_tally (subsets 3 n) (tally 0 0 0) ≡ raise T (2 * P + 7 * T) (tally 0 0 0)
  unfolding T P
  start = evaluating_sized (subsets 3 n) (sized n) (tally 0 0 0)

  long : length (map (subset_weight m w s) (subsets 3 n)) ≡ T + P
  unfolding T P
  long = length-map (subsets 3 n) (subset_weight m w s) ∙ all_sized (subsets 3 n) (sized n)

  -- where there is a round, there is a subset
  some : 0 < round_count n → 0 < T + P
  unfolding T P
  some h = elim (dec_le n 1) [
    | yes k ↦ absurd (omega arith)
    | no k ↦ omega (arith, count_twos n, twos n, square n (omega arith))
  ]
    where
      square : (k : ℕ) → 2 ≤ k → k < k * k
      square k h = omega (arith, native.Mathlib.Nat.mul-le-mul_left k h)

  none : round_count n ≡ 0 → (T ≡ 0) × (P ≡ 0)
  unfolding T P how_many subsets ascending
  none h = few n (omega arith)
    where
      few : (k : ℕ) → k < 2 → (how_many 3 (subsets 3 k) ≡ 0) × (how_many 2 (subsets 3 k) ≡ 0)
      few zero h = (refl, refl)
      few (suc zero) h = (refl, refl)
      few (suc (suc k)) h = absurd (omega arith)

  left-tally : (left_by (input_with f 3 n m w s)).tally ≡ tally_due T P (round_count n)
  unfolding left_by T P rounds
  left-tally = go (round_count n) none some
    where
      ss : List (List ℕ)
      ss = subsets 3 n

      ws : List ℕ
      ws = map (subset_weight m w s) ss

      t : Tally
      t = evaluation_tally ss (tally 0 0 0)

      go : (R : ℕ) → (R ≡ 0 → (T ≡ 0) × (P ≡ 0)) → (0 < R → 0 < T + P) → (rounds f R ss ws t).tally ≡ tally_due T P R
      go zero h k = start ∙ due_none T P (h refl)
      go (suc r) h k =
          rounds-tally f (suc r) ss ws t (omega (arith, long, k (omega arith)))
          ∙ (rw (long, sizes_sized ss (sized n), start) (due_after T P (suc r) h))

  pub tallied : TallyOf (up_to_three n) (left_by (input_with f 3 n m w s)).tally
  unfolding T P
  tallied = record {
    sums = left-tally;
    triples = ap (λ (x : ℕ). 6 * x) (count_triples n) ∙ triples_are n;
    twos = ap (λ (x : ℕ). 2 * x) (count_twos n) ∙ twos_are n;
    all = all_sized (subsets 3 n) (sized n);
  }
