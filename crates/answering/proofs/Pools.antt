-- What was read is built, and what is built is planned. Assumes nothing.
use mathlib.Core.Path.{◌≡◌, refl, sym, ap, ap₂, ◌∙◌}
use mathlib.Core.List.{List}
use Prim.Native.Nat.{ℕ, ◌≤◌, ◌<◌}
use native.Mathlib.Omega.{arith}
use lib.ListN.{length, get_or, take}
use lib.Seq.{length-take-le, get_or-take}
use Rattle.std.specs.Prelude.{Result, Ok, Err}
use Rattle.std.specs.Result.{IsOk}
use Rattle.laws.specs.Below.{table}
use Rattle.laws.proofs.Below.{table_cong, table-get_or}
use Rattle.refusal.specs.Answer.{finished, outcome}
use Rattle.refusal.specs.declared.Refusal.{Refusal}
use Rattle.pool.specs.Pool.{Pair}
use Rattle.pool.specs.Points.{Points}
use Rattle.pool.specs.Tables.{Tables, item_in, points_of_table, pair_in}
use Rattle.pool.specs.Faultless.{Faultless}
use Rattle.donation.specs.Compatibility.{compatibility}
use Rattle.donation.specs.Weight.{weight}
use Rattle.graph.specs.Graph.{Graph}
use Rattle.weighing.specs.Promises as Weighing
use Rattle.weighing.specs.Answers as Weighing-as-Answers
use Rattle.donation.proofs.Compatible.{compatibility-most}
use Rattle.exchange.specs.Subsets.{entry}
use Rattle.exchange.specs.Input.{no_floor, input, input_of, request}
use Rattle.exchange.specs.Faultless.{Compatibility}
use Rattle.answers.specs.Answering.{plan_by, printed_plan_of}
use Rattle.buffers.specs.Preconditions.{FaultlessTables}
use Rattle.answers.proofs.Promised.{plannable_compatible, plannable_weighty}
use Rattle.answers.proofs.Seated.{each_once_lem, shuffle_seated}
use Rattle.answering.specs.Preconditions.{Read}
use Rattle.answering.proofs.Plans.{square-most, plan_agree}

-- ## The first n entries of a table

pub taken : (n : ℕ) (l : List ℕ) → n ≤ length l → take n l ≡ table n (λ i. get_or l i 0)
taken n l h = sym (table-get_or 0 (take n l) n (λ i. get_or l i 0) (length-take-le n l h) (λ i k. sym (get_or-take n l i 0 k)))

-- ## A faultless pool

module _ (v : ℕ) (p : ℕ → ℕ) (n : ℕ) (pair : ℕ → Pair) (s : ℕ → ℕ) (w : Faultless v p n pair s) where
  -- its plan by points q depends on its n pairs alone
  pub same_plan : (q : Points) (other : ℕ → Pair) (t : ℕ → ℕ) → ((i : ℕ) → i < n → pair i ≡ other i) → table n s ≡ table n t
      → printed_plan_of q n pair s ≡ printed_plan_of q n other t
  unfolding printed_plan_of compatibility weight
  same_plan q other t h g =
      plan_agree n (compatibility pair) (compatibility other) (weight q pair) (weight q other) (table n s) (shuffle_seated v p n pair s w)
      (λ i j _ _. compatibility-most pair i j) (λ i j a b. rw (h i a, h j b)) (λ i j a b. rw (h i a, h j b)) (table n (λ i. (pair i).id))
      ∙ ap₂ (λ (ids shuffle : List ℕ). plan_by ids (input n no_floor (compatibility other) (weight q other) shuffle))
      (table_cong n _ _ (λ i l. ap (λ (q : Pair). q.id) (h i l))) g

-- ## What was read is built

-- what is surely built is not refused
built_ok : (a : Result Unit Refusal) → Weighing-as-Answers.answer_of a ≡ finished tt → IsOk a
unfolding Weighing-as-Answers.answer_of
built_ok (Ok _) e = refl
built_ok (Err why) e =
    let z : ◌≡◌ {A = ℕ} 0 1 = cc in
    absurd (omega arith)

module _ (v n : ℕ) (t : Tables) (p : Read v n t) (old : Graph) (room : (1600 ≤ length old.compatibilities) × (1600 ≤ length old.weights)) (a : Result Unit Refusal) (new : Graph)
    (w : Weighing.BuildsRightly v n t.points t.fields old (outcome (Weighing-as-Answers.answer_of a) new)) where
  surely : Weighing-as-Answers.answer_of a ≡ finished tt
  surely =
      w.accepts
      (record {
        version = p.faultless.pool.version;
        few = omega (arith, p.few);
        hold = p.faultless.hold.fields;
        held = p.faultless.hold.points;
        points = p.faultless.pool.points;
        in_range = p.faultless.pool.in_range;
        unlike = p.faultless.pool.unlike;
      })
      (record { compatibilities = omega (arith, square-most n p.few, room.0); weights = omega (arith, square-most n p.few, room.1) })

  pub never_unbuilt : IsOk a
  never_unbuilt = built_ok a surely

  -- ## What is built is planned

  compatible : Compatibility n new.compatibilities
  compatible = plannable_compatible _ n new (w.plannable surely)

  pub plannable : (1600 ≤ length new.compatibilities) × (1600 ≤ length new.weights) → FaultlessTables (request n no_floor new.compatibilities new.weights (take n t.shuffle))
  plannable h =
      let held : n ≤ length t.shuffle = p.faultless.hold.shuffle in
      record {
        few = p.few;
        low = omega arith;
        compatibilities = omega (arith, square-most n p.few, h.0);
        weights = omega (arith, square-most n p.few, h.1);
        shuffle = omega (arith, length-take-le n t.shuffle held);
        each_once = rw (taken n t.shuffle held) (each_once_lem v _ n _ _ p.faultless.pool);
        compatible = compatible;
        weighty = plannable_weighty _ n new (w.plannable surely);
      }

  -- its plan is the pool's
  pub plan_is : plan_by (take n t.fields.ids) (input_of (request n no_floor new.compatibilities new.weights (take n t.shuffle)))
      ≡ printed_plan_of (points_of_table v t.points) n (pair_in t.fields) (item_in t.shuffle)
  unfolding printed_plan_of pair_in entry
  plan_is =
      let e = w.built surely in
      ap₂ (λ (ids shuffle : List ℕ). plan_by ids (input_of (request n no_floor new.compatibilities new.weights shuffle)))
      (taken n t.fields.ids p.faultless.hold.fields.ids) (taken n t.shuffle p.faultless.hold.shuffle)
      ∙ plan_agree n (entry new.compatibilities n) (compatibility (pair_in t.fields)) (entry new.weights n)
      (weight (points_of_table v t.points) (pair_in t.fields)) _ (shuffle_seated v _ n _ _ p.faultless.pool) compatible.zero_or_one e.compatibilities e.weights _
