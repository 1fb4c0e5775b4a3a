-- Floor 0 gives document 01's plans, and a higher floor cuts off the end of a plan. Assumes nothing.
use Prim.Native.Nat.{ℕ, zero, suc, ◌≤◌}
use mathlib.Core.Bool.{Bool, true, false, cond}
use mathlib.Core.List.Memᴰ
use mathlib.Core.List.{List, [], ◌∷◌, ◌++◌, map, map-append}
use mathlib.Core.Path.{◌≡◌, refl, sym, ap, ap₂, ◌∙◌}
use native.Mathlib.Omega.{arith}
use lib.Dec.{ltb}
use lib.ListN.{length}
use borrow.Author.Tests.{ltb-true, ltb-false, lt-ltb}
use Rattle.laws.specs.Below.{either}
use Rattle.laws.proofs.Below.{either_true, either_false}
use Rattle.laws.specs.Lent.{filled}
use Rattle.refusal.specs.Fault.{Fault, refuse, ◌then◌}
use Rattle.refusal.specs.Answer.{Outcome, unless}
use Rattle.refusal.proofs.Faults.{none_refuse, none_then, then_nothing, fault_then, then_assoc, unless_fault, finished_none, refused_fault}
use Rattle.greedy.specs.Rounds.{Left}
use Rattle.greedy.proofs.Floorless.{rounds_zero}
use Rattle.exchange.specs.Subsets.{subsets, entry, weigh, heaviest, pairs_at, best_cycle, subset_weight}
use Rattle.exchange.specs.Resolution.{resolved, record_of, recipient_table, donor_table, total}
use Rattle.exchange.specs.Input.{Request, input, input_of, request}
use Rattle.exchange.specs.Planning as Planning
use Rattle.exchange.specs.Planning.{Lent, lent, Plan, plan, most_floor, lengths_of, edge_fault, plan_from, filled_lent, planned_by}
use Rattle.exchange.specs.Algorithm1.{some_above, without, Loop, loop}
use Rattle.exchange.specs.Rivals.{Each}
use Rattle.exchange.specs.Floors.{plan_fault, left_by, planning, Today, FloorZeroIsToday, CutOff, FloorCutsOff}
use Rattle.exchange.proofs.Weighed.{each_heaviest}
use Rattle.exchange.proofs.Inverse.{Invertible, invertible}
use Rattle.exchange.proofs.Loop.{each_without, quiet_loop, busy_loop}
use Rattle.exchange.proofs.Planned.{planned_heavy}
use Rattle.exchange.proofs.Shuffled.{loop-cycles}
use Rattle.exchange.proofs.Checked.{edge_none, edge_seventeen, checked, finished_is}
use Rattle.exchange.proofs.Guaranteed.{planned_by_lem}

-- ## Floor 0

-- a fault that is looked for after five others
then_last : (a b c d e f : Fault) → ((a then b then c then d then e) then f) ≡ (a then b then c then d then e then f)
then_last a b c d e f =
    then_assoc a _ f ∙ ap (λ (x : Fault). a then x) (then_assoc b _ f ∙ ap (λ (x : Fault). b then x)
    (then_assoc c _ f ∙ ap (λ (x : Fault). c then x) (then_assoc d e f)))

module _ (n : ℕ) (M W s : List ℕ) (t : Lent) where
  abbrev m : ℕ → ℕ → ℕ
  m = entry M n

  abbrev w : ℕ → ℕ → ℕ
  w = entry W n

  -- document 01's faults
  was : Fault
  was = plan_fault n M W s (lengths_of t)

  -- 0 is never above 200,000, and 17 comes last
  fault_zero : Planning.plan_fault (request n 0 M W s) (lengths_of t) ≡ (was then edge_fault n M W)
  unfolding Planning.plan_fault plan_fault was
  fault_zero = ap (λ (f : Fault). refuse 4 0 (ltb 200 n) then f) (none_then _ _ (none_refuse 13 0 (ltb most_floor 0) refl)) ∙ sym (then_last _ _ _ _ _ _)

  left_zero : Planning.left_by (input n 0 m w s) ≡ left_by n m w s
  unfolding Planning.left_by left_by
  left_zero = rounds_zero _ _ _ _

  -- what planning leaves after rounds that left r; or the refusal
  ends : Fault → Left → Outcome Plan Lent
  ends g r =
      let cs : List (List ℕ) = resolved m w s (subsets 3 n) r.choices in
      unless g (plan (total m w cs) (length cs) r.tally)
      (lent (filled r.weights t.weights) (filled r.choices t.choices) (filled (donor_table n cs) t.donors)
      (filled (recipient_table n cs) t.recipients) (filled (map (record_of n) cs) t.records)) t

  planning_zero : Planning.planning (request n 0 M W s) t ≡ ends (was then edge_fault n M W) (left_by n m w s)
  unfolding Planning.planning plan_from filled_lent planned_by ends
  planning_zero = ap₂ ends fault_zero left_zero

  -- where 17 adds nothing
  as_it_was : (was then edge_fault n M W) ≡ was → Planning.planning (request n 0 M W s) t ≡ planning n M W s t
  unfolding planning ends was
  as_it_was e = planning_zero ∙ ap (λ (f : Fault). ends f (left_by n m w s)) e

  today : Today n M W s t
  unfolding planning ends was
  today =
      record {
        same = λ h. as_it_was (ap (λ (f : Fault). was then f) (edge_none n M W h) ∙ then_nothing was);
        alike = λ k o e. let f = refused_fault was _ _ _ e in as_it_was (fault_then was _ f ∙ sym f);
        turned =
            λ p e h.
            planning_zero
            ∙ unless_fault (was then edge_fault n M W) _ _ _ 17 0 (none_then was _ (finished_none was _ _ _ e).0 ∙ edge_seventeen n M W h);
      }

pub floor_zero_is_today : FloorZeroIsToday
floor_zero_is_today = today

-- ## A higher floor: Algorithm 1's loop ends earlier

module _ (e f : ℕ) (low : e ≤ f) (weight : List ℕ → ℕ) where
  -- nothing is above f
  quiet_each : (S : List (List ℕ)) → some_above f weight S ≡ false → Each (λ (s : List ℕ). weight s ≤ f) S
  unfolding some_above
  quiet_each [] h = tt
  quiet_each (s ∷ S) h = let k = either_false _ _ h in (ltb-false f (weight s) k.0, quiet_each S k.1)

  -- what is above f is above e
  above_lower : (S : List (List ℕ)) → some_above f weight S ≡ true → some_above e weight S ≡ true
  unfolding some_above either
  above_lower [] h = h
  above_lower (s ∷ S) h = go (ltb f (weight s)) refl (above_lower S) h
    where
      go : (b : Bool) → ltb f (weight s) ≡ b → (some_above f weight S ≡ true → some_above e weight S ≡ true) → either b (some_above f weight S) ≡ true
          → either (ltb e (weight s)) (some_above e weight S) ≡ true
      go true q ih k = rw (lt-ltb e (weight s) (omega (arith, ltb-true f (weight s) q)))
      go false q ih k = ap (either (ltb e (weight s))) (ih k) ∙ either_true (ltb e (weight s))

  -- what holds of all of S holds of what the loop chooses
  chosen_each : (P : List ℕ → Type 0) (k : ℕ) (S : List (List ℕ)) → Each P S → Each P (loop k e weight S).chosen
  unfolding loop some_above
  chosen_each P zero S h = tt
  chosen_each P (suc k) [] h = tt
  chosen_each P (suc k) (s ∷ S) h =
      go (some_above e weight (s ∷ S)) (chosen_each P k (without heavy (s ∷ S)) (each_without P heavy (s ∷ S) h))
    where
      heavy : List ℕ
      heavy = heaviest weight (s ∷ S)

      next : Loop
      next = loop k e weight (without heavy (s ∷ S))

      go : (b : Bool) → Each P next.chosen
          → Each P (cond {A = Loop} b (record { chosen = heavy ∷ next.chosen; rest = next.rest }) (record { chosen = []; rest = s ∷ S })).chosen
      go true z = (each_heaviest P weight (s ∷ S) s (Memᴰ.head refl) h, z)
      go false z = tt

  -- what the loop chooses with the floor e is what it chooses with f, and then what is not above f
  record Longer (higher lower : List (List ℕ)) : Type 0 where
    rest : List (List ℕ)
    first : lower ≡ higher ++ rest
    light : Each (λ (s : List ℕ). weight s ≤ f) rest

  loop_longer : (k : ℕ) (S : List (List ℕ)) → Longer (loop k f weight S).chosen (loop k e weight S).chosen
  unfolding loop
  loop_longer zero S = record { rest = []; first = refl; light = tt }
  loop_longer (suc k) S = go (some_above f weight S) refl (loop_longer k (without (heaviest weight S) S))
    where
      later : ℕ → List (List ℕ)
      later g = (loop k g weight (without (heaviest weight S) S)).chosen

      go : (b : Bool) → some_above f weight S ≡ b → Longer (later f) (later e) → Longer (loop (suc k) f weight S).chosen (loop (suc k) e weight S).chosen
      go true q r =
          rw (busy_loop k f weight S q, busy_loop k e weight S (above_lower S q))
          (record { rest = r.rest; first = ap (λ (l : List (List ℕ)). heaviest weight S ∷ l) r.first; light = r.light })
      go false q r =
          rw (quiet_loop (suc k) f weight S q)
          (record { rest = (loop (suc k) e weight S).chosen; first = refl; light = chosen_each (λ (s : List ℕ). weight s ≤ f) (suc k) S (quiet_each S q) })

-- ## So the plan does

each_map : (P : List ℕ → Type 0) (g : List ℕ → List ℕ) (xs : List (List ℕ)) → Each (λ (x : List ℕ). P (g x)) xs → Each P (map g xs)
each_map P g [] h = tt
each_map P g (x ∷ xs) h = (h.0, each_map P g xs h.1)

module _ (n e f : ℕ) (low : e ≤ f) (m w : ℕ → ℕ → ℕ) (s : List ℕ) (sh : Invertible n s) where
  cycle : List ℕ → List ℕ
  cycle t = pairs_at s (best_cycle m w s t)

  plan_cut : CutOff f (weigh m w) (planned_by (input n f m w s)) (planned_by (input n e m w s))
  unfolding cycle subset_weight
  plan_cut =
      let chosen : ℕ → List (List ℕ) = λ g. (loop (length (subsets 3 n)) g (subset_weight m w s) (subsets 3 n)).chosen in
      let c = loop_longer e f low (subset_weight m w s) (length (subsets 3 n)) (subsets 3 n) in
      record {
        rest = map cycle c.rest;
        first =
            loop-cycles e 3 n m w s ∙ ap (map cycle) c.first ∙ map-append cycle (chosen f) c.rest
            ∙ ap (λ (l : List (List ℕ)). l ++ map cycle c.rest) (sym (loop-cycles f 3 n m w s));
        above = planned_heavy f 3 n m w s sh;
        light = each_map (λ (x : List ℕ). weigh m w x ≤ f) cycle c.rest c.light;
      }

pub floor_cuts_off : FloorCutsOff
unfolding Planning.planning
floor_cuts_off n e f M W s t u p r low ep er =
    let a : Request = request n f M W s in
    let k = checked a t (finished_is (plan_from (input_of a)) (filled_lent (input_of a) t) t (Planning.plan_fault a (lengths_of t)) p ep).faultless in
    rw (planned_by_lem n f M W s t p ep, planned_by_lem n e M W s u r er)
    (plan_cut n e f low (entry M n) (entry W n) s (invertible n s k.long.shuffle k.each_once))
