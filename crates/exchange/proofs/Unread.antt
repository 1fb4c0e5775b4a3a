-- Planning goes by W where M is 1, and by no other entry of it: not the weight of a pair's donor for its own patient. Assumes nothing.
use Prim.Native.Nat.{ℕ, ◌+◌, ◌*◌, ◌≤◌, ◌<◌}
use mathlib.Core.Bool.{Bool, true, false, cond, ◌&&◌}
use mathlib.Core.List.{List, [], ◌∷◌, map}
use mathlib.Core.Logic.{inl, inr}
use mathlib.Core.Path.{◌≡◌, refl, sym, ap, ap₂, ◌∙◌}
use native.Mathlib.Omega.{arith}
use native.Mathlib.Nat.{eq-zero-or-pos, zero-mul}
use lib.Dec.{eqb, ltb}
use lib.ListN.{length, get_or}
use borrow.Author.Tests.{eqb-true}
use Rattle.laws.specs.Below.{any_below}
use Rattle.laws.specs.Lent.{filled}
use Rattle.laws.proofs.Below.{any_cong}
use Rattle.refusal.specs.Fault.{Fault, none, fault, refuse, ◌then◌}
use Rattle.refusal.specs.Answer.{Outcome, unless}
use Rattle.greedy.specs.Tally.{tally}
use Rattle.greedy.specs.Rounds.{Left, rounds}
use Rattle.greedy.proofs.Counts.{AllBelow, Alike}
use Rattle.exchange.specs.Subsets.{Scope, subsets, cycles, Edge, edges, entry, product_of, sum_of, weigh, first_of, heaviest, pairs_at, best_cycle, subset_weight, evaluation_tally}
use Rattle.exchange.specs.Resolution.{resolved, record_of, recipient_table, donor_table, total}
use Rattle.exchange.specs.Input.{Request, input_with}
use Rattle.exchange.specs.Planning.{Lent, lent, Plan, plan, round_count, lengths_of, table_fault, weightless, edge_fault, plan_fault, short_to_read, left_by, planned_by, plan_from, filled_lent, planning}
use Rattle.exchange.specs.Faultless.{Compatibility}
use Rattle.exchange.specs.Rivals.{Each}
use Rattle.exchange.specs.Promises.{AbsentUnread, DiagonalUnread}
use Rattle.exchange.proofs.Ordered.{Subset, subsets_all, each_at, each_mono}
use Rattle.exchange.proofs.Weighed.{each_cycle}
use Rattle.exchange.proofs.Inverse.{Invertible, invertible, pairs_below}
use Rattle.exchange.proofs.Charged.{best_cycle_alike}
use Rattle.exchange.proofs.Sets.{Inside, below_pool, edges_inside, product_executable}
use Rattle.exchange.proofs.Planned.{planned_below}
use Rattle.exchange.proofs.Checked.{table_passed, checked}

-- ---- the heaviest by equal weights

module _ (g h : List ℕ → ℕ) where
  first_of_agree : (c : List ℕ) (cs : List (List ℕ)) → g c ≡ h c → Each (λ (d : List ℕ). g d ≡ h d) cs → first_of g c cs ≡ first_of h c cs
  unfolding first_of
  first_of_agree c [] e k = refl
  first_of_agree c (d ∷ cs) e k =
      ap₂ (λ (x y : ℕ). first_of g (cond (ltb x y) d c) cs) e k.0
      ∙ first_of_agree (cond (ltb (h c) (h d)) d c) cs (pick (ltb (h c) (h d))) k.1
    where
      pick : (b : Bool) → g (cond b d c) ≡ h (cond b d c)
      pick true = k.0
      pick false = e

  heaviest_agree : (cs : List (List ℕ)) → Each (λ (d : List ℕ). g d ≡ h d) cs → heaviest g cs ≡ heaviest h cs
  unfolding heaviest
  heaviest_agree [] k = refl
  heaviest_agree (c ∷ cs) k = first_of_agree c cs k.0 k.1

-- ---- compatibilities m and k that are equal, and weights w and v that are equal where these are 1

module _ (n : ℕ) (m k w v : ℕ → ℕ → ℕ) (bits : (i j : ℕ) → i < n → j < n → m i j ≤ 1) (alike : (i j : ℕ) → i < n → j < n → m i j ≡ k i j)
    (agree : (i j : ℕ) → i < n → j < n → m i j ≡ 1 → w i j ≡ v i j) where
  product_agree : (es : List Edge) → Each (Inside n) es → product_of m es ≡ product_of k es
  unfolding product_of
  product_agree [] h = refl
  product_agree (e ∷ es) h = ap₂ ◌*◌ (alike e.donor e.patient h.0.0 h.0.1) (product_agree es h.1)

  sum_agree : (es : List Edge) → Each (Inside n) es → Each (λ (e : Edge). m e.donor e.patient ≡ 1) es → sum_of w es ≡ sum_of v es
  unfolding sum_of
  sum_agree [] h x = refl
  sum_agree (e ∷ es) h x = ap₂ ◌+◌ (agree e.donor e.patient h.0.0 h.0.1 x.0) (sum_agree es h.1 x.1)

  -- a cycle has all its edges, or weighs 0
  weigh_agree : (c : List ℕ) → AllBelow n c → weigh m w c ≡ weigh k v c
  unfolding weigh
  weigh_agree c b =
      let inside : Each (Inside n) (edges c) = edges_inside n c (below_pool n c b) in
      let products = product_agree (edges c) inside in
      elim (eq-zero-or-pos (product_of m (edges c))) [
        | inl z ↦ ap (λ (x : ℕ). x * sum_of w (edges c)) z ∙ zero-mul _ ∙ sym (ap (λ (x : ℕ). x * sum_of v (edges c)) (sym products ∙ z) ∙ zero-mul _)
        | inr p ↦ ap₂ ◌*◌ products (sum_agree (edges c) inside (product_executable n m bits (edges c) inside p))
      ]

  pub total_agree : (cs : List (List ℕ)) → Each (AllBelow n) cs → total m w cs ≡ total k v cs
  unfolding total
  total_agree [] h = refl
  total_agree (c ∷ cs) h = ap₂ ◌+◌ (weigh_agree c h.0) (total_agree cs h.1)

  module _ (f l : ℕ) (s : List ℕ) (sh : Invertible n s) where
    -- a cycle of a subset's places
    score_agree : (c t : List ℕ) → Subset l n t → Alike c t → weigh m w (pairs_at s c) ≡ weigh k v (pairs_at s c)
    unfolding pairs_at
    score_agree c t h a = weigh_agree (pairs_at s c) (pairs_below n s sh c (λ p l. omega (arith, a p, h.below p l)))

    best_agree : (t : List ℕ) → Subset l n t → best_cycle m w s t ≡ best_cycle k v s t
    unfolding best_cycle
    best_agree t h = heaviest_agree (λ c. weigh m w (pairs_at s c)) (λ c. weigh k v (pairs_at s c)) (cycles t)
        (each_mono (λ (c : List ℕ). Alike c t) (λ (c : List ℕ). weigh m w (pairs_at s c) ≡ weigh k v (pairs_at s c))
        (λ c a. score_agree c t h a) (cycles t) (each_cycle t))

    weight_agree : (t : List ℕ) → Subset l n t → subset_weight m w s t ≡ subset_weight k v s t
    unfolding subset_weight
    weight_agree t h =
        ap (λ (c : List ℕ). weigh m w (pairs_at s c)) (best_agree t h) ∙ score_agree (best_cycle k v s t) t h (best_cycle_alike k v s t)

    weights_agree : (ss : List (List ℕ)) → Each (Subset l n) ss → map (subset_weight m w s) ss ≡ map (subset_weight k v s) ss
    weights_agree [] h = refl
    weights_agree (t ∷ ss) h = ap₂ ◌∷◌ (weight_agree t h.0) (weights_agree ss h.1)

    best_at : (c : ℕ) → best_cycle m w s (get_or (subsets l n) c []) ≡ best_cycle k v s (get_or (subsets l n) c [])
    unfolding best_cycle cycles heaviest
    best_at = each_at (λ (t : List ℕ). best_cycle m w s t ≡ best_cycle k v s t) (subsets l n) refl
        (each_mono (Subset l n) (λ (t : List ℕ). best_cycle m w s t ≡ best_cycle k v s t) best_agree (subsets l n) (subsets_all l n))

    resolved_agree : (cs : List ℕ) → resolved m w s (subsets l n) cs ≡ resolved k v s (subsets l n) cs
    unfolding resolved
    resolved_agree [] = refl
    resolved_agree (c ∷ cs) =
        ap₂ (λ (b : List ℕ) (r : List (List ℕ)). cond (ltb c (length (subsets l n))) (pairs_at s b ∷ r) r) (best_at c) (resolved_agree cs)

    pub left_agree : left_by (input_with f l n m w s) ≡ left_by (input_with f l n k v s)
    unfolding left_by
    left_agree =
        ap (λ (ws : List ℕ). rounds f (round_count n) (subsets l n) ws (evaluation_tally (subsets l n) (tally 0 0 0)))
        (weights_agree (subsets l n) (subsets_all l n))

    pub planned_agree : planned_by (input_with f l n m w s) ≡ planned_by (input_with f l n k v s)
    unfolding planned_by
    planned_agree =
        resolved_agree (left_by (input_with f l n m w s)).choices ∙ ap (λ (r : Left). resolved k v s (subsets l n) r.choices) left_agree

-- ---- the same answer

module _ (q : Scope) (f : ℕ) (M W W' s : List ℕ) (t : Lent) where
  -- planning with either table of weights
  abbrev lends : List ℕ → Request
  lends ws = record { scope = q; floor = f; compatibilities = M; weights = ws; shuffle = s }

  abbrev l : ℕ
  l = q.largest

  abbrev n : ℕ
  n = q.pairs

  abbrev m : ℕ → ℕ → ℕ
  m = entry M n

  abbrev w : ℕ → ℕ → ℕ
  w = entry W n

  abbrev v : ℕ → ℕ → ℕ
  v = entry W' n

  -- what planning leaves with cycles cs of weight x, after rounds that left r; or the refusal
  abbrev ends : Fault → ℕ → List (List ℕ) → Left → Outcome Plan Lent
  ends g x cs r =
      unless g (plan x (length cs) r.tally)
      (lent (filled r.weights t.weights) (filled r.choices t.choices) (filled (donor_table n cs) t.donors)
      (filled (recipient_table n cs) t.recipients) (filled (map (record_of n) cs) t.records)) t

  -- where both tables have the same fault, and the same entries for the edges of an M with none
  same_answer : plan_fault (lends W) (lengths_of t) ≡ plan_fault (lends W') (lengths_of t)
      → (Compatibility n M → (i j : ℕ) → i < n → j < n → m i j ≡ 1 → w i j ≡ v i j) → planning (lends W) t ≡ planning (lends W') t
  unfolding planning plan_from filled_lent unless
  same_answer e agree =
      ap (λ (g : Fault). ends g (total m w (planned_by (input_with f l n m w s))) (planned_by (input_with f l n m w s)) (left_by (input_with f l n m w s))) e
      ∙ go (plan_fault (lends W') (lengths_of t)) refl
    where
      go : (g : Fault) → plan_fault (lends W') (lengths_of t) ≡ g
          → ends g (total m w (planned_by (input_with f l n m w s))) (planned_by (input_with f l n m w s)) (left_by (input_with f l n m w s))
          ≡ ends g (total m v (planned_by (input_with f l n m v s))) (planned_by (input_with f l n m v s)) (left_by (input_with f l n m v s))
      go (fault k o) z = refl
      go none z =
          let k = checked (lends W') t z in
          let sh : Invertible n s = invertible n s k.long.shuffle k.each_once in
          let bits = k.compatible.zero_or_one in
          let same : (i j : ℕ) → i < n → j < n → m i j ≡ m i j = λ i j a b. refl in
          let there = agree k.compatible in
          ap₂ (λ (cs : List (List ℕ)) (r : Left). ends none (total m w cs) cs r)
          (planned_agree n m m w v bits same there f l s sh) (left_agree n m m w v bits same there f l s sh)
          ∙ ap (λ (x : ℕ). ends none x (planned_by (input_with f l n m v s)) (left_by (input_with f l n m v s)))
          (total_agree n m m w v bits same there (planned_by (input_with f l n m v s)) (planned_below f l n m v s sh))

  module _ (e : length W ≡ length W') where
    -- but for 17, every fault goes by the length of W alone
    fault_agree : (table_fault n M then edge_fault n M W) ≡ (table_fault n M then edge_fault n M W') → plan_fault (lends W) (lengths_of t) ≡ plan_fault (lends W') (lengths_of t)
    unfolding plan_fault short_to_read
    fault_agree d = rw (e, d)

    edge_agree : ((i j : ℕ) → i < n → j < n → m i j ≡ 1 → w i j ≡ v i j) → edge_fault n M W ≡ edge_fault n M W'
    unfolding edge_fault
    edge_agree agree = ap (refuse 17 0) (any_cong n (λ i. any_below n (weightless n M W i)) (λ i. any_below n (weightless n M W' i))
        (λ i a. any_cong n (weightless n M W i) (weightless n M W' i) (λ j b. one_agree i j (agree i j a b) (eqb (m i j) 1) refl)))
      where
        one_agree : (i j : ℕ) → (m i j ≡ 1 → w i j ≡ v i j) → (there : Bool) → eqb (m i j) 1 ≡ there → weightless n M W i j ≡ weightless n M W' i j
        one_agree i j h true d = ap (λ (x : ℕ). eqb (m i j) 1 && eqb x 0) (h (eqb-true (m i j) 1 d))
        one_agree i j h false d = rw d

    absent : ((i j : ℕ) → i < n → j < n → m i j ≡ 1 → w i j ≡ v i j) → planning (lends W) t ≡ planning (lends W') t
    absent agree = same_answer (fault_agree (ap (λ (g : Fault). table_fault n M then g) (edge_agree agree))) (λ _. agree)

    -- a pair's own M is 0 once 10 is past
    module _ (agree : (i j : ℕ) → i < n → j < n → (i ≡ j → ⊥) → w i j ≡ v i j) where
      there_agree : Compatibility n M → (i j : ℕ) → i < n → j < n → m i j ≡ 1 → w i j ≡ v i j
      there_agree h i j a b there = agree i j a b (λ o. omega (arith, there, ap (m i) (sym o) ∙ h.own i a))

      tables_agree : (table_fault n M then edge_fault n M W) ≡ (table_fault n M then edge_fault n M W')
      unfolding ◌then◌
      tables_agree = go (table_fault n M) refl
        where
          go : (g : Fault) → table_fault n M ≡ g → (g then edge_fault n M W) ≡ (g then edge_fault n M W')
          go (fault k o) z = refl
          go none z = edge_agree (there_agree (table_passed n M z))

      diagonal : planning (lends W) t ≡ planning (lends W') t
      diagonal = same_answer (fault_agree tables_agree) there_agree

pub absent_unread : AbsentUnread
absent_unread = absent

pub diagonal_unread : DiagonalUnread
diagonal_unread = diagonal
