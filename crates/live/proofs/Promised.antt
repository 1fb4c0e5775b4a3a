-- The promises of the three calls. Assumes nothing.
use mathlib.Core.Path.{◌≡◌, refl, sym, ap, ap₂, subst, ◌∙◌}
use mathlib.Core.List.{List}
use Prim.Native.Nat.{ℕ, ◌+◌, ◌-◌, ◌*◌, ◌≤◌, ◌<◌}
use native.Mathlib.Omega.{arith}
use borrow.Author.Tests.{eq-eqb}
use lib.Dec.{eqb}
use lib.ListN.{length}
use Rattle.laws.specs.Lent.{filled}
use Rattle.laws.proofs.Below.{below_suc, any_hit}
use Rattle.refusal.specs.Answer.{finished, refused, Outcome}
use Rattle.refusal.proofs.Faults.{unless_none, unless_fault, finished_none, refused_fault}
use Rattle.pool.specs.Pool.{Pair}
use Rattle.pool.specs.Points.{Points, points_by, has_points, points_of}
use Rattle.pool.specs.Tables.{item_in, pair_in}
use Rattle.pool.specs.Faultless.{SoundPoints, InRange}
use Rattle.graph.specs.Graph.{filled_graph}
use Rattle.weighing.specs.Promises.{FaultlessFields, entry_at}
use Rattle.weighing.proofs.Promised.{filled-entries}
use Rattle.live.specs.Live.{Live, live_version, weighed_by, pair_of}
use Rattle.live.specs.Calls.{Beginning, beginning, in_order, starting, with_pair, registered, registering, place_of, without_at, withdrawing}
use Rattle.live.specs.Faultless.{Kept, Registrable, Withdrawable}
use Rattle.live.specs.Promises.{Started, StartsRightly, Registered, RegistersRightly, FirstWith, WithoutIt, WithdrawsRightly, StartsEmpty}
use Rattle.live.proofs.Faults.{start_none, start_passed, start_fault_lem}
use Rattle.live.proofs.CallFaults.{register_none, register_passed, register_fault_lem, withdraw_none, withdraw_passed, withdraw_fault_lem}
use Rattle.live.proofs.Tables.{filled_kept, length_rows, pair_there, pair_other, with_past, past_hold, place_found, moved_up, row_moved, row_past, pair_moved, without_past}
use Rattle.live.proofs.Suitable.{numbers_there, numbers_past, number_true}

-- ## Starting

module _ (q : Points) (old : Beginning) where
  -- the six stand in the table in their order
  in_order_lem : (t : List ℕ) → points_by (item_in (filled (in_order q) t)) ≡ q
  unfolding filled in_order
  in_order_lem t = refl

  started : 6 ≤ length old.points → Started q old (beginning 0 (filled (in_order q) old.points))
  unfolding in_order
  started l = record { count = refl; points = in_order_lem old.points; past = filled_kept (in_order q) old.points 6 refl l }

  starts_rightly : StartsRightly q old (starting q old)
  unfolding starting
  starts_rightly =
      record {
        accepts = λ s l. ap (λ (o : Outcome (Unit {0}) Beginning). o.answer) (unless_none _ _ _ _ (start_none q (length old.points) s l));
        accepted = λ e. start_passed q (length old.points) (finished_none _ _ _ _ e).0;
        refuses =
            λ k o e.
            let g = refused_fault _ _ _ _ e in
            let d = start_fault_lem q (length old.points) k o g in
            (d.0, d.1, ap (λ (x : Outcome (Unit {0}) Beginning). x.lent) (unless_fault _ _ _ _ k o g));
        started =
            λ e.
            let g = (finished_none _ _ _ _ e).0 in
            subst (Started q old) (sym (ap (λ (o : Outcome (Unit {0}) Beginning). o.lent) (unless_none _ _ _ _ g)))
            (started (start_passed q (length old.points) g).1);
      }

  pub rightly_started : (o : Outcome (Unit {0}) Beginning) → o ≡ starting q old → StartsRightly q old o
  rightly_started o e = subst (StartsRightly q old) (sym e) starts_rightly

pub starts_empty : StartsEmpty
unfolding points_of has_points
starts_empty given old new f g t o w e =
    let done : o.answer ≡ finished tt = ap (λ (x : Outcome (Unit {0}) Beginning). x.answer) e in
    let s : Started given old new = subst (Started given old) (ap (λ (x : Outcome (Unit {0}) Beginning). x.lent) e) (w.started done) in
    let a = w.accepted done in (
      record { none = s.count; points = rw s.past.long a.1; sound = subst SoundPoints (sym s.points) a.0 },
      s.points,
    )

-- ## Registering

-- what holds below n and of n
next : {P : ℕ → Type 0} (n : ℕ) → ((i : ℕ) → i < n → P i) → P n → (i : ℕ) → i < n + 1 → P i
next {P} n h z i l = below_suc {P = P} n h z i (omega arith)

module _ (p : Pair) (l : Live) where
  abbrev n : ℕ
  n = l.count

  pub is_registered : Registrable p l → Registered p l (registered p l)
  unfolding registered filled_graph
  is_registered r =
      let f' = with_pair n p l.fields in
      record {
        count = refl;
        last = pair_there n p l.fields r.more.fields;
        others = λ i h. pair_other n p l.fields r.more.fields i (λ e. omega (arith, h, e));
        entries = filled-entries (weighed_by l) (n + 1) f' l.graph;
        numbers = λ j k. number_true (n + 1) _ j _ (numbers_there (n + 1) _ l.suitable j k);
        past =
            record {
              points = refl;
              fields = with_past n p l.fields r.more.fields;
              compatibilities = filled_kept _ l.graph.compatibilities ((n + 1) * (n + 1)) (length_rows (n + 1) _) r.more.graph.compatibilities;
              weights = filled_kept _ l.graph.weights ((n + 1) * (n + 1)) (length_rows (n + 1) _) r.more.graph.weights;
              suitable = numbers_past (n + 1) _ l.suitable r.more.suitable;
            };
      }

  -- all pairs, the new one among them, have none of building's faults
  pub new_faultless : Registrable p l → FaultlessFields live_version (n + 1) l.points (with_pair n p l.fields)
  new_faultless r =
      let f = with_pair n p l.fields in
      let more = r.more.fields in
      let others : (i : ℕ) → i < n → pair_in f i ≡ pair_of l i = λ i h. pair_other n p l.fields more i (λ e. omega (arith, h, e)) in
      let last : pair_in f n ≡ p = pair_there n p l.fields more in
      record {
        version = record { least = omega arith; most = omega arith };
        few = omega (arith, r.room);
        hold = past_hold (n + 1) (n + 1) l.fields f (with_past n p l.fields more) more;
        held = λ _. r.kept.keep.points;
        points = r.kept.sound;
        in_range =
            next {P = λ i. InRange (pair_in f i)} n (λ i h. subst InRange (sym (others i h)) (r.in_range.stored i h))
            (subst InRange (sym last) r.in_range.new);
        unlike =
            λ i j k h.
            next {P = λ i. (j : ℕ) → j < i → (pair_in f j).id ≡ (pair_in f i).id → ⊥} n
            (λ i h j k e.
            r.unlike.stored i j k h
            (sym (ap (λ (q : Pair). q.id) (others j (omega (arith, k, h)))) ∙ e ∙ ap (λ (q : Pair). q.id) (others i h)))
            (λ j k e. r.unlike.new j k (sym (ap (λ (q : Pair). q.id) (others j k)) ∙ e ∙ ap (λ (q : Pair). q.id) last)) i h j k;
      }

  pub registering_done : (registering p l).answer ≡ finished tt → Registrable p l × ((registering p l).lent ≡ registered p l)
  unfolding registering
  registering_done e =
      let g = (finished_none _ _ _ _ e).0 in
      (register_passed p l g, ap (λ (o : Outcome (Unit {0}) Live). o.lent) (unless_none _ _ _ _ g))

  pub registering_accepts : Registrable p l → (registering p l).answer ≡ finished tt
  unfolding registering
  registering_accepts r = ap (λ (o : Outcome (Unit {0}) Live). o.answer) (unless_none _ _ _ _ (register_none p l r))

  pub registering-left : (k o : ℕ) → (registering p l).answer ≡ refused k o → (registering p l).lent ≡ l
  unfolding registering
  registering-left k o e = ap (λ (x : Outcome (Unit {0}) Live). x.lent) (unless_fault _ _ _ _ k o (refused_fault _ _ _ _ e))

  registers_rightly : RegistersRightly p l (registering p l)
  unfolding registering
  registers_rightly =
      record {
        accepts = registering_accepts;
        accepted = λ e. (registering_done e).0;
        refuses = λ k o e. let d = register_fault_lem p l k o (refused_fault _ _ _ _ e) in (d.0, d.1, registering-left k o e);
        registered = λ e. let d = registering_done e in subst (Registered p l) (sym d.1) (is_registered d.0);
      }

  pub rightly_registered : (o : Outcome (Unit {0}) Live) → o ≡ registering p l → RegistersRightly p l o
  rightly_registered o e = subst (RegistersRightly p l) (sym e) registers_rightly

-- ## Withdrawing

module _ (l : Live) where
  pub is_without : Kept l → (a : ℕ) → a < l.count → WithoutIt a l (without_at a l)
  unfolding without_at
  is_without kept a h =
      let n = l.count in
      let M = l.graph.compatibilities in
      let W = l.graph.weights in
      record {
        count = omega arith;
        pairs = λ i j m k. let u = moved_up a n i j m h k in pair_moved a n l.fields j u.0 ∙ ap (pair_of l) u.1;
        compatibilities =
            λ i j g k m o b d.
            let u = moved_up a n i j m h b in
            let v = moved_up a n g k o h d in
            row_moved a n M j k u.0 v.0 ∙ ap₂ (entry_at M n) u.1 v.1;
        weights =
            λ i j g k m o b d.
            let u = moved_up a n i j m h b in
            let v = moved_up a n g k o h d in
            row_moved a n W j k u.0 v.0 ∙ ap₂ (entry_at W n) u.1 v.1;
        numbers = λ j k. number_true (n - 1) _ j _ (numbers_there (n - 1) _ l.suitable j k);
        past =
            record {
              points = refl;
              fields = without_past a n l.fields kept.keep.fields;
              compatibilities = row_past a n M kept.keep.graph.compatibilities;
              weights = row_past a n W kept.keep.graph.weights;
              suitable = numbers_past (n - 1) _ l.suitable (omega (arith, kept.keep.suitable));
            };
      }

module _ (x : ℕ) (l : Live) where
  abbrev ids : ℕ → ℕ
  ids j = (pair_of l j).id

  -- the place of the pair that goes
  abbrev pub gone : ℕ
  gone = place_of l.count ids x

  pub gone_first : Withdrawable x l → FirstWith x l gone
  gone_first r =
      let w = place_found l.count ids x (any_hit l.count (λ j. eqb (ids j) x) r.there.at r.there.below (eq-eqb _ _ r.there.there)) in
      record { below = w.below; there = w.there; first = w.first }

  pub withdrawing_done : (withdrawing x l).answer ≡ finished tt → Withdrawable x l × ((withdrawing x l).lent ≡ without_at gone l)
  unfolding withdrawing
  withdrawing_done e =
      let g = (finished_none _ _ _ _ e).0 in
      (withdraw_passed x l g, ap (λ (o : Outcome (Unit {0}) Live). o.lent) (unless_none _ _ _ _ g))

  pub withdrawing_accepts : Withdrawable x l → (withdrawing x l).answer ≡ finished tt
  unfolding withdrawing
  withdrawing_accepts r = ap (λ (o : Outcome (Unit {0}) Live). o.answer) (unless_none _ _ _ _ (withdraw_none x l r))

  pub withdrawing-left : (k o : ℕ) → (withdrawing x l).answer ≡ refused k o → (withdrawing x l).lent ≡ l
  unfolding withdrawing
  withdrawing-left k o e = ap (λ (y : Outcome (Unit {0}) Live). y.lent) (unless_fault _ _ _ _ k o (refused_fault _ _ _ _ e))

  withdraws_rightly : WithdrawsRightly x l (withdrawing x l)
  unfolding withdrawing
  withdraws_rightly =
      record {
        accepts = withdrawing_accepts;
        accepted = λ e. (withdrawing_done e).0;
        refuses = λ k o e. let d = withdraw_fault_lem x l k o (refused_fault _ _ _ _ e) in (d.0, d.1, withdrawing-left k o e);
        withdrawn =
            λ e.
            let d = withdrawing_done e in
            let f = gone_first d.0 in
            (gone, f, subst (WithoutIt gone l) (sym d.1) (is_without l d.0.kept gone f.below));
      }

  pub rightly_withdrawn : (o : Outcome (Unit {0}) Live) → o ≡ withdrawing x l → WithdrawsRightly x l o
  rightly_withdrawn o e = subst (WithdrawsRightly x l) (sym e) withdraws_rightly
