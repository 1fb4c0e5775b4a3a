-- 6, 7 and 8: what has none of them, and that each is there. Assumes nothing.
use mathlib.Core.Path.{◌≡◌, sym, ap, ◌∙◌}
use mathlib.Core.Bool.{false, not}
use Prim.Native.Nat.{ℕ, ◌<◌}
use native.Mathlib.Omega.{arith}
use borrow.Author.Tests.{le-ltb, ltb-true, ltb-false, ne_eqb, eqb-true, eqb-false, not-true, not-false}
use lib.Dec.{eqb}
use Rattle.refusal.specs.Fault.{Fault, none, fault, refuse, ◌then◌}
use Rattle.refusal.proofs.Faults.{then_none, refuse_none, none_refuse, by_refuse, by_then}
use Rattle.laws.specs.Below.{count_below, Once}
use Rattle.laws.proofs.Below.{any_none, none_any, any_found, any_cong, count_cong, once_count, count_once}
use Rattle.pool.specs.Pool.{Pair}
use Rattle.pool.specs.Faults.{group_fault, id_fault, shuffle_fault}
use Rattle.pool.specs.Points.{point_count}
use Rattle.pool.specs.Faultless.{InRange, EachOnce, Faultless}
use Rattle.pool.proofs.Points.{points_cong}

-- ## 6 of one pair

module _ (o : ℕ) (q : Pair) where
  abbrev pub groups : Fault
  groups = group_fault o q.donor_blood q.patient_blood q.donor_age q.patient_age

  pub groups_none : InRange q → groups ≡ none
  unfolding group_fault refuse ◌then◌
  groups_none r =
      simp (le-ltb 3 _ r.donor_blood, le-ltb 3 _ r.patient_blood, le-ltb 1 _ r.donor_age, le-ltb 1 _ r.patient_age)

  pub groups_passed : groups ≡ none → InRange q
  unfolding group_fault
  groups_passed e =
      let r1 = then_none _ _ e in
      let r2 = then_none _ _ r1.1 in
      let r3 = then_none _ _ r2.1 in
      record {
        donor_blood = ltb-false _ _ (refuse_none _ _ _ r1.0);
        patient_blood = ltb-false _ _ (refuse_none _ _ _ r2.0);
        donor_age = ltb-false _ _ (refuse_none _ _ _ r3.0);
        patient_age = ltb-false _ _ (refuse_none _ _ _ r3.1);
      }

  pub groups_fault_lem : (P : ℕ → ℕ → Type 0) → ((InRange q → ⊥) → P 6 o) → (k p : ℕ) → groups ≡ fault k p → P k p
  unfolding group_fault
  groups_fault_lem P six =
      by_then P _ _ (by_refuse P 6 o _ (λ e. six (λ r. omega (arith, ltb-true 3 q.donor_blood e, r.donor_blood))))
      (λ _. by_then P _ _ (by_refuse P 6 o _ (λ e. six (λ r. omega (arith, ltb-true 3 q.patient_blood e, r.patient_blood))))
      (λ _. by_then P _ _ (by_refuse P 6 o _ (λ e. six (λ r. omega (arith, ltb-true 1 q.donor_age e, r.donor_age))))
      (λ _. by_refuse P 6 o _ (λ e. six (λ r. omega (arith, ltb-true 1 q.patient_age e, r.patient_age))))))

-- ## 7 of the pair at i

module _ (o : ℕ) (id : ℕ → ℕ) (i : ℕ) where
  pub id_none : ((j : ℕ) → j < i → id j ≡ id i → ⊥) → id_fault o id i ≡ none
  unfolding id_fault
  id_none u = none_refuse 7 o _ (none_any i (λ j. eqb (id j) (id i)) (λ j l. ne_eqb _ _ (u j l)))

  pub id_passed : id_fault o id i ≡ none → (j : ℕ) → j < i → id j ≡ id i → ⊥
  unfolding id_fault
  id_passed e j l = eqb-false _ _ (any_none i (λ j. eqb (id j) (id i)) (refuse_none _ _ _ e) j l)

  pub id_fault_lem : (P : ℕ → ℕ → Type 0) → ((j : ℕ) → j < i → id j ≡ id i → P 7 o) → (k p : ℕ) → id_fault o id i ≡ fault k p → P k p
  unfolding id_fault
  id_fault_lem P seven =
      by_refuse P 7 o _ (λ e. let f = any_found i (λ j. eqb (id j) (id i)) e in seven f.0 f.1 (eqb-true _ _ f.2))

-- ## 8

module _ (o n : ℕ) (s : ℕ → ℕ) where
  not_one : (c : ℕ) → c ≡ 1 → not (eqb c 1) ≡ false
  not_one c e = rw e

  pub shuffle_none : EachOnce n s → shuffle_fault o n s ≡ none
  unfolding shuffle_fault
  shuffle_none h =
      none_refuse 8 o _
      (none_any n (λ v. not (eqb (count_below n (λ j. eqb (s j) v)) 1)) (λ v l. not_one _ (once_count s v n (h v l))))

  pub shuffle_passed : shuffle_fault o n s ≡ none → EachOnce n s
  unfolding shuffle_fault
  shuffle_passed e v l =
      count_once s v n
      (eqb-true _ _ (not-false _ (any_none n (λ v. not (eqb (count_below n (λ j. eqb (s j) v)) 1)) (refuse_none _ _ _ e) v l)))

  pub shuffle_fault_lem : (P : ℕ → ℕ → Type 0) → ((EachOnce n s → ⊥) → P 8 o) → (k p : ℕ) → shuffle_fault o n s ≡ fault k p → P k p
  unfolding shuffle_fault
  shuffle_fault_lem P eight =
      by_refuse P 8 o _
      (λ e. let f = any_found n (λ v. not (eqb (count_below n (λ j. eqb (s j) v)) 1)) e in
      eight (λ h. eqb-false _ _ (not-true _ f.2) (once_count s f.0 n (h f.0 f.1))))

-- 8 goes by the first n numbers alone
pub shuffle_cong : (o n : ℕ) (s t : ℕ → ℕ) → ((j : ℕ) → j < n → s j ≡ t j) → shuffle_fault o n s ≡ shuffle_fault o n t
unfolding shuffle_fault
shuffle_cong o n s t h =
    ap (refuse 8 o)
    (any_cong n _ _
    (λ v l. ap (λ (c : ℕ). not (eqb c 1)) (count_cong n _ _ (λ j k. ap (λ (x : ℕ). eqb x v) (h j k)))))

-- ## Faultless goes by the points that there are and the first n pairs and numbers alone

once_cong : (n : ℕ) (s t : ℕ → ℕ) → ((j : ℕ) → j < n → s j ≡ t j) → (v : ℕ) → Once n s v → Once n t v
once_cong n s t h v w =
    record {
      at = w.at;
      below = w.below;
      there = sym (h w.at w.below) ∙ w.there;
      only = λ k l e. w.only k l (h k l ∙ e);
    }

pub faultless_cong : (v n : ℕ) (p r : ℕ → ℕ) (pair other : ℕ → Pair) (s t : ℕ → ℕ) → ((k : ℕ) → k < point_count v → p k ≡ r k)
    → ((i : ℕ) → i < n → pair i ≡ other i) → ((j : ℕ) → j < n → s j ≡ t j) → Faultless v p n pair s → Faultless v r n other t
faultless_cong v n p r pair other s t f h g w =
    record {
      version = w.version;
      points = rw (← points_cong v p r f) w.points;
      few = w.few;
      in_range = λ i l. rw (← h i l) (w.in_range i l);
      unlike =
          λ i j k l e.
          w.unlike i j k l (ap (λ (q : Pair). q.id) (h j (omega arith)) ∙ e ∙ ap (λ (q : Pair). q.id) (sym (h i l)));
      each_once = λ v l. once_cong n s t g v (w.each_once v l);
    }
