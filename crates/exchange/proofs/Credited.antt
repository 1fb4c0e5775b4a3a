-- The planned cycles' sum that credits the twos: the bound, and the sum a second and a third time. Assumes nothing.
use Prim.Native.Nat.{ℕ, zero, suc, ◌+◌, ◌*◌, ◌≤◌, ◌<◌}
use mathlib.Core.List.{List, [], ◌∷◌}
use mathlib.Core.Logic.{inl, inr}
use mathlib.Core.Path.{◌≡◌, refl, sym, ap}
use native.Mathlib.Omega.{arith}
use native.Mathlib.Nat.{eq-zero-or-pos, mul-le-mul_left, mul_comm, add-mul, zero-mul}
use lib.ListN.{length}
use borrow.Author.Tests.{eq-eqb, ne_eqb, le-leb}
use Rattle.greedy.proofs.Counts.{times, total as countsBelow, NoneTwice, AllBelow, same, other, same?, times_append, length-total, among_times}
use Rattle.exchange.specs.Subsets.{weigh}
use Rattle.exchange.specs.Resolution.{total}
use Rattle.exchange.specs.Input.{input_with}
use Rattle.exchange.specs.Planning.{planned_by}
use Rattle.exchange.specs.Rivals.{Each, Exchange}
use Rattle.exchange.specs.Credit.{credited, twos_of, weight_of_pair, sum_below, CreditsTwos}
use Rattle.exchange.specs.Promises.{ExecutableWeighs}
use Rattle.exchange.proofs.Inverse.{Invertible}
use Rattle.exchange.proofs.Charged.{joined, planned_apart}
use Rattle.exchange.proofs.Sets.{none_among}
use Rattle.exchange.proofs.Planned.{planned-set, planned_heavy, planned_below, rival_credit}

-- ---- by the sizes

module _ (l n : ℕ) (m w : ℕ → ℕ → ℕ) where
  credited-most : (cs : List (List ℕ)) → Each (Exchange l n m) cs → credited m w cs ≤ l * total m w cs
  unfolding credited total
  credited-most [] h = omega arith
  credited-most (c ∷ cs) h = omega (arith, credited-most cs h.1, mul-le-mul_left (weigh m w c) h.0.most)

  -- of two or three pairs: what a two's weight times its number of pairs lacks of three times its weight is its weight
  credited_by_twos : l ≤ 3 → (cs : List (List ℕ)) → Each (Exchange l n m) cs → credited m w cs + total m w (twos_of cs) ≡ 3 * total m w cs
  unfolding credited total twos_of
  credited_by_twos small [] h = refl
  credited_by_twos small (c ∷ cs) h =
      let ih = credited_by_twos small cs h.1 in
      elim (same? (length c) 2) [
        | same e z ↦ rw (eq-eqb (length c) 2 e) (omega (arith, ih, ap (λ (k : ℕ). weigh m w c * k) e))
        | other e z ↦
            let three : length c ≡ 3 = omega (arith, h.0.least, h.0.most) in
            rw (ne_eqb (length c) 2 e) (omega (arith, ih, ap (λ (k : ℕ). weigh m w c * k) three))
      ]

-- where every cycle weighs something, twos do
twos_heavy : (f : ℕ) (m w : ℕ → ℕ → ℕ) (cs : List (List ℕ)) → Each (λ (c : List ℕ). f < weigh m w c) cs → 0 < length (twos_of cs) → 0 < total m w (twos_of cs)
unfolding total twos_of
twos_heavy f m w [] h k = absurd (omega arith)
twos_heavy f m w (c ∷ cs) h k = elim (same? (length c) 2) [
  | same e z ↦ rw (eq-eqb (length c) 2 e) (omega (arith, h.0))
  | other e z ↦ rw (ne_eqb (length c) 2 e) (twos_heavy f m w cs h.1 (rw (ne_eqb (length c) 2 e) at k))
]

-- ---- pair by pair

sum_add : (n : ℕ) (f g h : ℕ → ℕ) → ((i : ℕ) → h i ≡ f i + g i) → sum_below n h ≡ sum_below n f + sum_below n g
unfolding sum_below
sum_add zero f g h e = refl
sum_add (suc n) f g h e = omega (arith, sum_add n f g h e, e n)

sum_none : (n : ℕ) → sum_below n (λ i. 0) ≡ 0
unfolding sum_below
sum_none zero = refl
sum_none (suc n) = omega (arith, sum_none n)

-- x for each of a list's numbers
sum_times : (n x : ℕ) (c : List ℕ) → sum_below n (λ i. times i c * x) ≡ countsBelow n c * x
unfolding sum_below countsBelow
sum_times zero x c = sym (zero-mul x)
sum_times (suc n) x c = omega (arith, sum_times n x c, add-mul (times n c) (countsBelow n c) x)

module _ (m w : ℕ → ℕ → ℕ) where
  pair_none : (cs : List (List ℕ)) (i : ℕ) → times i (joined cs) ≡ 0 → weight_of_pair m w cs i ≡ 0
  unfolding weight_of_pair joined
  pair_none [] i h = refl
  pair_none (c ∷ cs) i h =
      let here : times i c ≡ 0 = omega (arith, h, times_append i c (joined cs)) in
      rw (none_among i c here) (omega (arith, pair_none cs i (omega (arith, h, times_append i c (joined cs)))))

  -- a pair is in the first cycle, or has its weight from the others
  pair_cons : (c : List ℕ) (cs : List (List ℕ)) → NoneTwice (joined (c ∷ cs)) → (i : ℕ) → weight_of_pair m w (c ∷ cs) i ≡ times i c * weigh m w c + weight_of_pair m w cs i
  unfolding weight_of_pair joined
  pair_cons c cs once i = elim (eq-zero-or-pos (times i c)) [
    | inl e ↦ rw (none_among i c e, e, zero-mul) (omega arith)
    | inr e ↦
        let single : times i c ≡ 1 = omega (arith, once i, times_append i c (joined cs)) in
        let later : weight_of_pair m w cs i ≡ 0 = pair_none cs i (omega (arith, once i, times_append i c (joined cs))) in
        rw (among_times i c, le-leb 1 (times i c) e) (omega (arith, later, ap (λ (k : ℕ). k * weigh m w c) single))
  ]

  credited_by_pairs : (n : ℕ) (cs : List (List ℕ)) → Each (AllBelow n) cs → NoneTwice (joined cs) → credited m w cs ≡ sum_below n (weight_of_pair m w cs)
  unfolding credited weight_of_pair joined
  credited_by_pairs n [] b once = sym (sum_none n)
  credited_by_pairs n (c ∷ cs) b once =
      let ih = credited_by_pairs n cs b.1 (λ i. omega (arith, once i, times_append i c (joined cs))) in
      let split = sum_add n (λ i. times i c * weigh m w c) (weight_of_pair m w cs) (weight_of_pair m w (c ∷ cs)) (pair_cons c cs once) in
      let own = sum_times n (weigh m w c) c in
      omega (arith, ih, split, own, ap (λ (k : ℕ). k * weigh m w c) (length-total n c b.0), mul_comm (length c) (weigh m w c))

-- ---- the plan

pub planned_credits : (f l n : ℕ) (m w : ℕ → ℕ → ℕ) (s : List ℕ) → Invertible n s → l ≤ 3 → ((i j : ℕ) → i < n → j < n → m i j ≤ 1)
    → ExecutableWeighs (input_with f l n m w s)
    → CreditsTwos (input_with f l n m w s) (total m w (planned_by (input_with f l n m w s))) (planned_by (input_with f l n m w s))
planned_credits f l n m w s sh small bits weighs =
    let cs : List (List ℕ) = planned_by (input_with f l n m w s) in
    let exchanges = (planned-set f l n m w s sh bits).exchanges in
    let by-twos = credited_by_twos l n m w small cs exchanges in
    record {
      bound = λ rivals h above. rival_credit f l n m w s sh rivals h above;
      bound_all = λ e rivals h. rival_credit f l n m w s sh rivals h (weighs.set e rivals h);
      twos = by-twos;
      most = credited-most l n m w cs exchanges;
      less = λ some. omega (arith, by-twos, twos_heavy f m w cs (planned_heavy f l n m w s sh) some);
      pairs = credited_by_pairs m w n cs (planned_below f l n m w s sh) (planned_apart f l n m w s sh);
    }
