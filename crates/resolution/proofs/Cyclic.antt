-- The chosen cycles: two or three pairs of the pool. Assumes nothing.
use Prim.Native.Nat.{ℕ, ◌+◌, ◌≤◌, ◌<◌}
use mathlib.Core.Bool.{Bool, true, false, cond}
use mathlib.Core.List.{List, [], ◌∷◌, ◌++◌}
use mathlib.Core.Path.{◌≡◌, refl, sym, ap, subst, ◌∙◌}
use native.Mathlib.Omega.{arith}
use borrow.Author.Tests.{eq-eqb, ne_eqb, lt-ltb, le-ltb}
use lib.Dec.{ltb}
use lib.ListN.{length, get_or}
use Rattle.cycle.specs.declared.Cycle.{Cycle}
use Rattle.exchange.specs.Subsets.{up_to_three, order, subset_count, entry, weigh, heaviest, pairs_at, best_cycle}
use Rattle.exchange.specs.Resolution.{resolved, record_of, pairs_of, total}
use Rattle.cursor.specs.Cursor.{OnSubset, subset_at}
use Rattle.cursor.specs.declared.Places.{Places}
use Rattle.cursor.proofs.Order.{Subset, two, three, is_subset}
use Rattle.cursor.proofs.Standing.{range_two, range_triple}
use Rattle.entries.specs.Preconditions.{Shuffled}
use Rattle.evaluation.proofs.Subsets.{heavier, paired_two, paired_triple}

pub data Cyclic (n : ℕ) : List ℕ → Type 0 where
  swap : {a b : ℕ} → a < n → b < n → Cyclic n (a ∷ b ∷ [])
  triangle : {a b c : ℕ} → a < n → b < n → c < n → Cyclic n (a ∷ b ∷ c ∷ [])

-- the pairs of its record are its own
pub pairs_back : (n : ℕ) (c : List ℕ) → Cyclic n c → pairs_of n (record_of n c) ≡ c
unfolding pairs_of record_of
pairs_back n _ (swap {a} {b} p q) = rw (eq-eqb n n refl)
pairs_back n _ (triangle {a} {b} {c} p q r) = rw (ne_eqb c n (λ e. omega arith))

-- its record's numbers
pub record-below : (n : ℕ) (c : List ℕ) → Cyclic n c → ((record_of n c).first < n) × ((record_of n c).second < n) × ((record_of n c).third ≤ n)
unfolding record_of
record-below n _ (swap p q) = (p, q, omega arith)
record-below n _ (triangle p q r) = (p, q, omega arith)

-- of two cycles the heavier
heavier_cyclic : (n : ℕ) (weight : List ℕ → ℕ) (x y : List ℕ) → Cyclic n x → Cyclic n y → Cyclic n (heaviest weight (x ∷ y ∷ []))
heavier_cyclic n weight x y hx hy = subst (Cyclic n) (sym (heavier weight x y)) (go (ltb (weight x) (weight y)))
  where
    go : (b : Bool) → Cyclic n (cond b y x)
    go true = hy
    go false = hx

-- the cycle that a subset is weighed by
module _ (n : ℕ) (m w : ℕ → ℕ → ℕ) (s : List ℕ) (shuffled : Shuffled n s) where
  best_cyclic : {t : List ℕ} → Subset n t → Cyclic n (pairs_at s (best_cycle m w s t))
  best_cyclic (two {a} {b} p q) = subst (Cyclic n) (sym (paired_two m w s a b)) (swap (shuffled.pairs a (omega arith)) (shuffled.pairs b q))
  best_cyclic (three {a} {b} {c} p q r) =
      let ha = shuffled.pairs a (omega arith) in
      let hb = shuffled.pairs b (omega arith) in
      let hc = shuffled.pairs c r in
      subst (Cyclic n) (sym (paired_triple m w s a b c)) (heavier_cyclic n (weigh m w) _ _ (triangle ha hb hc) (triangle ha hc hb))

  pub chosen_cyclic : (k : ℕ) → n ≤ 200 → k < subset_count (up_to_three n) → Cyclic n (pairs_at s (best_cycle m w s (get_or (order (up_to_three n)) k [])))
  chosen_cyclic k few h = best_cyclic (is_subset n k few h)

-- ## The cycles of choices

module _ (m w : ℕ → ℕ → ℕ) (s : List ℕ) (ss : List (List ℕ)) where
  pub resolved-append : (cs ds : List ℕ) → resolved m w s ss (cs ++ ds) ≡ resolved m w s ss cs ++ resolved m w s ss ds
  unfolding resolved
  resolved-append [] ds = refl
  resolved-append (c ∷ cs) ds = go (ltb c (length ss)) (resolved-append cs ds)
    where
      go : (z : Bool) → resolved m w s ss (cs ++ ds) ≡ resolved m w s ss cs ++ resolved m w s ss ds
          → cond z (pairs_at s (best_cycle m w s (get_or ss c [])) ∷ resolved m w s ss (cs ++ ds)) (resolved m w s ss (cs ++ ds))
          ≡ cond z (pairs_at s (best_cycle m w s (get_or ss c [])) ∷ resolved m w s ss cs) (resolved m w s ss cs) ++ resolved m w s ss ds
      go true e = ap (λ (l : List (List ℕ)). pairs_at s (best_cycle m w s (get_or ss c [])) ∷ l) e
      go false e = e

  pub one_chosen : (c : ℕ) → c < length ss → resolved m w s ss (c ∷ []) ≡ pairs_at s (best_cycle m w s (get_or ss c [])) ∷ []
  unfolding resolved
  one_chosen c h = rw (lt-ltb c (length ss) h)

  pub none_chosen : (c : ℕ) → length ss ≤ c → resolved m w s ss (c ∷ []) ≡ []
  unfolding resolved
  none_chosen c h = rw (le-ltb c (length ss) h)

pub total-append : (m w : ℕ → ℕ → ℕ) (cs ds : List (List ℕ)) → total m w (cs ++ ds) ≡ total m w cs + total m w ds
unfolding total
total-append m w [] ds = omega arith
total-append m w (c ∷ cs) ds = omega (arith, total-append m w cs ds)

-- ## What `cycle_at` returns

module _ (n : ℕ) (M W s : List ℕ) (p : Places) (range : OnSubset n p) where
  -- the cycle of the subset at the cursor
  abbrev there : List ℕ
  there = pairs_at s (best_cycle (entry M n) (entry W n) s (subset_at n p))

  pub is_two : p.w ≡ n → there ≡ get_or s p.u 0 ∷ get_or s p.v 0 ∷ []
  is_two e =
      ap (λ (t : List ℕ). pairs_at s (best_cycle (entry M n) (entry W n) s t)) (range_two n p range e)
      ∙ paired_two (entry M n) (entry W n) s p.u p.v

  module _ (e : p.w ≡ n → ⊥) (x y : ℕ)
      (ex : x ≡ weigh (entry M n) (entry W n) (get_or s p.u 0 ∷ get_or s p.v 0 ∷ get_or s p.w 0 ∷ []))
      (ey : y ≡ weigh (entry M n) (entry W n) (get_or s p.u 0 ∷ get_or s p.w 0 ∷ get_or s p.v 0 ∷ [])) where
    is_heavier : there ≡ cond (ltb x y) (get_or s p.u 0 ∷ get_or s p.w 0 ∷ get_or s p.v 0 ∷ []) (get_or s p.u 0 ∷ get_or s p.v 0 ∷ get_or s p.w 0 ∷ [])
    is_heavier =
        ap (λ (t : List ℕ). pairs_at s (best_cycle (entry M n) (entry W n) s t)) (range_triple n p range e)
        ∙ paired_triple (entry M n) (entry W n) s p.u p.v p.w
        ∙ heavier (weigh (entry M n) (entry W n)) _ _
        ∙ rw (← ex, ← ey)

    pub is_second : x < y → there ≡ get_or s p.u 0 ∷ get_or s p.w 0 ∷ get_or s p.v 0 ∷ []
    is_second h = is_heavier ∙ rw (lt-ltb x y h)

    pub is_first : y ≤ x → there ≡ get_or s p.u 0 ∷ get_or s p.v 0 ∷ get_or s p.w 0 ∷ []
    is_first h = is_heavier ∙ rw (le-ltb x y h)

same_record : {a b d a' b' d' : ℕ} → a ≡ a' → b ≡ b' → d ≡ d' → ◌≡◌ {A = Cycle} (record { first = a; second = b; third = d }) (record { first = a'; second = b'; third = d' })
same_record e f g = cc

-- a cycle with its weight
module _ (n : ℕ) (weight : List ℕ → ℕ) (x : ℕ) (t : List ℕ) (c : Cycle) where
  pub giving_two : (a b : ℕ) → (c.first ≡ a) × (c.second ≡ b) × (c.third ≡ n) → t ≡ a ∷ b ∷ [] → x ≡ weight (a ∷ b ∷ []) → (c ≡ record_of n t) × (x ≡ weight t)
  unfolding record_of
  giving_two a b ec e ex = (same_record ec.0 ec.1 ec.2 ∙ sym (ap (record_of n) e), ex ∙ ap weight (sym e))

  pub giving_three : (a b d : ℕ) → (c.first ≡ a) × (c.second ≡ b) × (c.third ≡ d) → t ≡ a ∷ b ∷ d ∷ [] → x ≡ weight (a ∷ b ∷ d ∷ [])
      → (c ≡ record_of n t) × (x ≡ weight t)
  unfolding record_of
  giving_three a b d ec e ex = (same_record ec.0 ec.1 ec.2 ∙ sym (ap (record_of n) e), ex ∙ ap weight (sym e))

-- the record of no cycle
pub no_record : (n : ℕ) (c : Cycle) → (c.first ≡ n) × (c.second ≡ n) × (c.third ≡ n) → c ≡ record_of n []
unfolding record_of
no_record n c e = same_record e.0 e.1 e.2
