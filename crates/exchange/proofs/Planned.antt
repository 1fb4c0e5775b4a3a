-- The planned cycles are executable exchanges that share no pair, and no set of such weighs more than they are credited with: for any
-- floor f and any largest size l. Assumes nothing.
use Prim.Native.Nat.{ℕ, ◌*◌, ◌≤◌, ◌<◌}
use mathlib.Core.List.{List, [], ◌∷◌}
use mathlib.Core.Logic.{◌⊎◌, inl, inr}
use mathlib.Core.Path.{◌≡◌}
use native.Mathlib.Omega.{arith}
use native.Mathlib.Decide.{dec_lt}
use lib.ListN.{length, get_or}
use borrow.Author.Tests.{lt-ltb, le-ltb}
use Rattle.greedy.specs.Tally.{tally}
use Rattle.greedy.proofs.Counts.{times, NoneTwice, AllBelow, one_same}
use Rattle.greedy.proofs.Bound.{chosen_above}
use Rattle.exchange.specs.Subsets.{subsets, weigh, pairs_at, best_cycle, evaluation_tally}
use Rattle.exchange.specs.Resolution.{resolved, total}
use Rattle.exchange.specs.Input.{input_with}
use Rattle.exchange.specs.Planning.{round_count, left_by, planned_by}
use Rattle.exchange.specs.Rivals.{Each, Different, Exchange, ExchangeSet}
use Rattle.exchange.specs.Credit.{credited}
use Rattle.exchange.proofs.Ordered.{each_mono}
use Rattle.exchange.proofs.Inverse.{Invertible, pairs_below}
use Rattle.exchange.proofs.Charged.{weights_of, joined, family, size_most, Rival, cycle-below, planned_size, planned-weight, planned_apart, planned_credit, planned_factor}
use Rattle.exchange.proofs.Sets.{pool_below, below_pool, once_different, apart_once, once_each, once_apart, weigh_executable}

each_both : {A : Type 0} (P Q R : A → Type 0) → ((x : A) → P x → Q x → R x) → (xs : List A) → Each P xs → Each Q xs → Each R xs
each_both P Q R g [] h k = tt
each_both P Q R g (x ∷ xs) h k = (g x h.0 k.0, each_both P Q R g xs h.1 k.1)

module _ (f l n : ℕ) (m w : ℕ → ℕ → ℕ) (s : List ℕ) (sh : Invertible n s) where
  resolve_each : (cs : List ℕ) → ((c : ℕ) → 1 ≤ times c cs → (c ≡ length (subsets l n)) ⊎ (f < get_or (weights_of l n m w s) c 0))
      → Each (Rival f l n m w) (resolved m w s (subsets l n) cs)
  unfolding resolved times
  resolve_each [] h = tt
  resolve_each (c ∷ cs) h = go (resolve_each cs (λ d k. h d (omega arith)))
    where
      one : (c < length (subsets l n)) → f < weigh m w (pairs_at s (best_cycle m w s (get_or (subsets l n) c [])))
      one k = elim (h c (omega (arith, one_same c))) [ inl e ↦ absurd (omega arith) | inr e ↦ omega (arith, planned-weight l n m w s c) ]

      go : Each (Rival f l n m w) (resolved m w s (subsets l n) cs) → Each (Rival f l n m w) (resolved m w s (subsets l n) (c ∷ cs))
      go ih = elim (dec_lt c (length (subsets l n))) [
        | yes k ↦ rw (lt-ltb c (length (subsets l n)) k) (
          record {
            least = omega (arith, planned_size l n m w s c, (family l n m w s).wide c (omega (arith, one k, planned-weight l n m w s c)));
            most = omega (arith, planned_size l n m w s c, size_most l n c);
            below = pairs_below n s sh (best_cycle m w s (get_or (subsets l n) c [])) (cycle-below l n m w s sh c);
            above = one k;
          },
          ih,
        )
        | no k ↦ let q : length (subsets l n) ≤ c = omega arith in rw (le-ltb c (length (subsets l n)) q) ih
      ]

  planned_above : Each (Rival f l n m w) (planned_by (input_with f l n m w s))
  unfolding planned_by left_by
  planned_above = resolve_each (left_by (input_with f l n m w s)).choices
      (chosen_above f n (round_count n) (subsets l n) (weights_of l n m w s) (evaluation_tally (subsets l n) (tally 0 0 0)) (family l n m w s))

  -- every planned cycle weighs more than the floor
  pub planned_heavy : Each (λ (c : List ℕ). f < weigh m w c) (planned_by (input_with f l n m w s))
  planned_heavy = each_mono (Rival f l n m w) (λ (c : List ℕ). f < weigh m w c) (λ c h. h.above) (planned_by (input_with f l n m w s)) planned_above

  -- "all planned cycles are executable, no pair is in two of them"
  pub planned-set : ((i j : ℕ) → i < n → j < n → m i j ≤ 1) → ExchangeSet l n m (planned_by (input_with f l n m w s))
  planned-set bits = record {
    exchanges = each_both (Rival f l n m w) NoneTwice (Exchange l n m)
        (λ c h o. record {
          least = h.least;
          most = h.most;
          pool = below_pool n c h.below;
          different = once_different c o;
          executable = weigh_executable n m bits w c (below_pool n c h.below) (omega (arith, h.above));
        })
        (planned_by (input_with f l n m w s)) planned_above (once_each (planned_by (input_with f l n m w s)) (planned_apart f l n m w s sh));
    apart = once_apart (planned_by (input_with f l n m w s)) (planned_apart f l n m w s sh);
  }

  pub planned_below : Each (AllBelow n) (planned_by (input_with f l n m w s))
  planned_below = each_mono (Rival f l n m w) (AllBelow n) (λ c h. h.below) (planned_by (input_with f l n m w s)) planned_above

  module _ (cs : List (List ℕ)) (set : ExchangeSet l n m cs) (heavy : Each (λ (c : List ℕ). f < weigh m w c) cs) where
    rivals : Each (Rival f l n m w) cs
    rivals = each_both (Exchange l n m) (λ (c : List ℕ). f < weigh m w c) (Rival f l n m w)
        (λ c h k. record { least = h.least; most = h.most; below = pool_below n c h.pool; above = k }) cs set.exchanges heavy

    once : NoneTwice (joined cs)
    once = apart_once cs (each_mono (Exchange l n m) Different (λ c h. h.different) cs set.exchanges) set.apart

    -- each planned cycle's weight times its number of pairs, added up, is at least the weight of every such set
    pub rival_credit : total m w cs ≤ credited m w (planned_by (input_with f l n m w s))
    rival_credit = planned_credit f l n m w s sh cs rivals once

    -- and so is l times the plan's weight
    pub rival_factor : total m w cs ≤ l * total m w (planned_by (input_with f l n m w s))
    rival_factor = planned_factor f l n m w s sh cs rivals once
