-- The theorems on every list of calls from an empty pool. Assumes nothing.
use mathlib.Core.Path.{◌≡◌, refl, sym, ap, ap₂, subst, ◌∙◌}
use mathlib.Core.List.{List, ◌++◌, flat_map, map}
use Prim.Native.Nat.{ℕ, ◌+◌, ◌-◌, ◌*◌, ◌≤◌, ◌<◌}
use native.Mathlib.Omega.{arith}
use lib.ListN.{length, take}
use Rattle.laws.specs.Below.{table, Some}
use Rattle.laws.specs.Lent.{filled}
use Rattle.laws.proofs.Below.{length-table, get_or-table, map-table}
use Rattle.laws.proofs.Lent.{take-filled}
use Rattle.refusal.specs.Answer.{Answer, finished, Outcome, outcome}
use Rattle.refusal.proofs.Faults.{unless_none}
use Rattle.pool.specs.Pool.{Pair}
use Rattle.pool.specs.Points.{Points, registry_points, points_by, has_points, point_count, points_of}
use Rattle.pool.specs.Sheet.{sheet_length}
use Rattle.pool.specs.Tables.{Tables, tables, item_in, pair_in, points_of_table, pool_in, filled_tables}
use Rattle.pool.specs.Calls.{Head, head, reading, writing}
use Rattle.pool.specs.Faultless.{KnownVersion, EachOnce, Faultless, FieldsHold, TablesHold, FaultlessPool}
use Rattle.pool.specs.Promises.{TablesTyped}
use Rattle.pool.proofs.Points.{points_cong}
use Rattle.pool.proofs.WritingCall.{writes_rightly}
use Rattle.pool.proofs.RoundTrip.{pair_in_filled, point_in_filled, faultless_filled, pool_comes_back}
use Rattle.donation.specs.Compatibility.{compatibility}
use Rattle.donation.specs.Weight.{weight}
use Rattle.donation.proofs.Compatible.{one_where_compatible}
use Rattle.graph.specs.Graph.{Graph, graph, in_rows, filled_graph}
use Rattle.graph.proofs.Rows.{rows_entry}
use Rattle.weighing.specs.Building.{building}
use Rattle.weighing.specs.Promises.{FaultlessFields, Fit}
use Rattle.weighing.proofs.Faults.{build_none}
use Rattle.weighing.proofs.Promised.{rightly}
use Rattle.live.specs.Live.{Live, live_version, weighed_by, pair_of, pairs_of}
use Rattle.live.specs.Calls.{in_order, starting, registering, up, without_at}
use Rattle.live.specs.Faultless.{TrueNumber, KeptFault, NoneHas, Registrable, RegisterFault, WithdrawFault}
use Rattle.live.specs.Lists.{Call, after, trace, held, staying}
use Rattle.live.specs.Promises.{Empty, OnASheet, SuitedBySoMany, Holds, LiveHolds, started_with, StartHolds, HasId, Welcome, AnswersBy, LiveAnswers, NeitherRefusesTen, NeverTen, MayReturn}
use Rattle.live.proofs.Tables.{rows_cong, past_hold, up_not, up-below, pair_moved}
use Rattle.live.proofs.Suitable.{how_many_same}
use Rattle.live.proofs.Promised.{rightly_started, starts_empty, registering_done, registering_accepts, rightly_registered, rightly_withdrawn, gone, gone_first, is_without, withdrawing_done, withdrawing_accepts}
use Rattle.live.proofs.Lists.{Right, compatibility_moved, weight_moved, empty_right, less_right, other_id, kept_by}

-- ## Building changes nothing

second : KnownVersion live_version
second = record { least = omega arith; most = omega arith }

module _ (l : Live) (w : Right l) where
  right_faultless : FaultlessFields live_version l.count l.points l.fields
  right_faultless =
      record {
        version = second;
        few = w.kept.few;
        hold = w.kept.keep.fields;
        held = λ _. w.kept.keep.points;
        points = w.kept.sound;
        in_range = w.in_range;
        unlike = w.unlike;
      }

  right_built : building live_version l.count l.points l.fields l.graph ≡ outcome (finished tt) l.graph
  unfolding building
  right_built =
      unless_none _ _ _ _ (build_none live_version l.count l.points l.fields l.graph right_faultless w.kept.keep.graph)
      ∙ ap (outcome (finished tt)) w.built

  -- the entries of M and W, in a row
  entries_compatible : take (l.count * l.count) l.graph.compatibilities ≡ in_rows l.count (compatibility (pair_of l))
  unfolding filled_graph in_rows
  entries_compatible =
      ap₂ (λ (k : ℕ) (t : List ℕ). take k t) (sym (length-table (l.count * l.count) _)) (sym (ap (λ (g : Graph). g.compatibilities) w.built))
      ∙ take-filled (in_rows l.count (compatibility (pair_of l))) l.graph.compatibilities

  entries_weighing : take (l.count * l.count) l.graph.weights ≡ in_rows l.count (weight (weighed_by l) (pair_of l))
  unfolding filled_graph in_rows
  entries_weighing =
      ap₂ (λ (k : ℕ) (t : List ℕ). take k t) (sym (length-table (l.count * l.count) _)) (sym (ap (λ (g : Graph). g.weights) w.built))
      ∙ take-filled (in_rows l.count (weight (weighed_by l) (pair_of l))) l.graph.weights

-- ## On a sheet

module _ (l : Live) (w : Right l) (s out : List ℕ) (other : Tables) (g : Graph) (once : EachOnce l.count (item_in s)) (long : l.count ≤ length s)
    (typed : TablesTyped (tables l.points l.fields s)) (room : sheet_length live_version l.count ≤ length out)
    (hold : TablesHold live_version l.count other) (fit : Fit l.count g) where
  abbrev n : ℕ
  n = l.count

  abbrev lent : Tables
  lent = tables l.points l.fields s

  faultless : Faultless live_version (item_in l.points) n (pair_of l) (item_in s)
  faultless =
      record {
        version = second;
        points = w.kept.sound;
        few = w.kept.few;
        in_range = w.in_range;
        unlike = w.unlike;
        each_once = once;
      }

  sheet_pool : FaultlessPool live_version n lent
  sheet_pool =
      record { hold = record { points = λ _. w.kept.keep.points; fields = w.kept.keep.fields; shuffle = long }; pool = faultless }

  is_written : (writing live_version n lent out).answer ≡ finished (sheet_length live_version n)
  is_written = (writes_rightly live_version n lent out).accepts sheet_pool room

  abbrev sheet : List ℕ
  sheet = take (sheet_length live_version n) (writing live_version n lent out).lent

  abbrev back : Tables
  back = filled_tables (pool_in live_version n lent) other

  is_read : reading sheet other ≡ outcome (finished (head live_version n)) back
  is_read = pool_comes_back live_version n lent out (sheet_length live_version n) other typed is_written hold

  back_pair : (i : ℕ) → i < n → pair_in back.fields i ≡ pair_of l i
  unfolding filled_tables pool_in
  back_pair i k = pair_in_filled n (pair_of l) other.fields i k

  back_points : points_of_table live_version back.points ≡ weighed_by l
  unfolding filled_tables pool_in
  back_points =
      points_cong live_version _ _
      (λ k h. point_in_filled live_version (item_in l.points) n (pair_of l) (item_in s) other k h)

  back_pool : FaultlessPool live_version n back
  unfolding pool_in
  back_pool = faultless_filled live_version (item_in l.points) n (pair_of l) (item_in s) other hold faultless

  back_built : building live_version n back.points back.fields g
      ≡ outcome (finished tt) (filled_graph (points_of_table live_version back.points) n (pair_in back.fields) g)
  unfolding building
  back_built =
      let p = back_pool in
      unless_none _ _ _ _
      (build_none live_version n back.points back.fields g
      (record {
        version = second;
        few = w.kept.few;
        hold = p.hold.fields;
        held = p.hold.points;
        points = p.pool.points;
        in_range = p.pool.in_range;
        unlike = p.pool.unlike;
      }) fit)

  same_rows : filled_graph (points_of_table live_version back.points) n (pair_in back.fields) g
      ≡ graph (filled (take (n * n) l.graph.compatibilities) g.compatibilities) (filled (take (n * n) l.graph.weights) g.weights)
  unfolding filled_graph
  same_rows =
      let M : in_rows n (compatibility (pair_in back.fields)) ≡ take (n * n) l.graph.compatibilities =
      rows_cong n _ _
      (λ i j a b. compatibility_moved (pair_in back.fields) (pair_of l) i j i j (back_pair i a) (back_pair j b) refl)
      ∙ sym (entries_compatible l w) in
      let W : in_rows n (weight (points_of_table live_version back.points) (pair_in back.fields)) ≡ take (n * n) l.graph.weights =
      ap (λ (q : Points). in_rows n (weight q (pair_in back.fields))) back_points
      ∙ rows_cong n _ _
      (λ i j a b. weight_moved (pair_in back.fields) (pair_of l) i j i j (back_pair i a) (back_pair j b) refl (weighed_by l))
      ∙ sym (entries_weighing l w) in
      ap₂ (λ (x y : List ℕ). graph (filled x g.compatibilities) (filled y g.weights)) M W

  on_a_sheet : (ps : List Pair) → pairs_of l ≡ ps → OnASheet l ps s out other g
  unfolding pool_in point_count has_points
  on_a_sheet ps e =
      record {
        written = is_written;
        read =
            is_read
            ∙ ap
            (λ (qs : List Pair).
            outcome (finished (head live_version n))
            (filled_tables
            (record { version = live_version; points = table registry_points (item_in l.points); pairs = qs; shuffle = table n (item_in s) }) other)) e;
        built =
            λ t h.
            let q : t ≡ back = h ∙ ap (λ (o : Outcome Head Tables). o.lent) is_read in
            ap (λ (t : Tables). building live_version n t.points t.fields g) q ∙ back_built ∙ ap (outcome (finished tt)) same_rows;
      }

-- ## Each number is that of the donors that suit

right_suited : (l : Live) → Right l → SuitedBySoMany l
unfolding filled_graph
right_suited l w j h =
    let n = l.count in
    let M = l.graph.compatibilities in
    how_many_same _ _ n (item_in l.suitable j)
    (λ i k.
    let e : item_in M (i * n + j) ≡ compatibility (pair_of l) i j =
    ap (λ (g : Graph). item_in g.compatibilities (i * n + j)) (sym w.built) ∙ rows_entry n (compatibility (pair_of l)) M i j k h in
    let both = one_where_compatible (pair_of l) i j in
    (λ o. both.0 (sym e ∙ o), λ c. e ∙ both.1 c))
    (w.kept.numbers j h)

right_holds : (ps : List Pair) (l : Live) → Right l → pairs_of l ≡ ps → Holds ps l
right_holds ps l w e =
    record {
      number = sym (length-table l.count (pair_of l)) ∙ ap length e;
      pairs = e;
      built = right_built l w;
      numbers = w.kept.numbers;
      suited = right_suited l w;
      plannable = (rightly live_version l.count l.points l.fields l.graph (finished tt) l.graph (sym (right_built l w))).plannable refl;
      sheet = λ s out other g once long typed room hold fit. on_a_sheet l w s out other g once long typed room hold fit ps e;
    }

-- ## Every list of calls from an empty pool

module _ (l : Live) (calls : List Call) (w : Empty l) where
  pub list_right : Right (after calls l)
  list_right = (kept_by calls l (empty_right l w w.none)).right

  pub list_pairs : pairs_of (after calls l) ≡ held (trace calls l)
  unfolding table flat_map
  list_pairs =
      (kept_by calls l (empty_right l w w.none)).pairs
      ∙ ap (λ (k : ℕ). flat_map (staying (trace calls l)) (table k (pair_of l)) ++ held (trace calls l)) w.none

pub live_holds : LiveHolds
live_holds l calls w =
    let k = kept_by calls l (empty_right l w w.none) in
    record { holds = right_holds _ (after calls l) (list_right l calls w) (list_pairs l calls w); points = k.points; long = k.long }

-- from a finished start on
six_numbers : (p : ℕ → ℕ) → table registry_points p ≡ in_order (points_by p)
unfolding table in_order
six_numbers p = refl

pub start_holds : StartHolds
unfolding points_of has_points
start_holds given old f g t calls e =
    let begun = (starting given old).lent in
    let l = started_with given old f g t in
    let s = starts_empty given old begun f g t (starting given old) (rightly_started given old _ refl) (ap (λ (a : Answer (Unit {0})). outcome a begun) e) in
    let left = live_holds l calls s.0 in
    let same : weighed_by (after calls l) ≡ given = ap (λ (t : List ℕ). points_by (item_in t)) left.points ∙ s.1 in
    record { left = left; points = six_numbers (item_in (after calls l).points) ∙ ap in_order same; weighed = same }

-- ## Which calls finish

module _ (x : ℕ) (l : Live) where
  id_of : (i : ℕ) → i < l.count → item_in (map (λ q. q.id) (pairs_of l)) i ≡ (pair_of l i).id
  id_of i h = ap (λ (t : List ℕ). item_in t i) (map-table (λ q. q.id) l.count (pair_of l)) ∙ get_or-table l.count (λ i. (pair_of l i).id) 0 i h

  has_there : HasId x (pairs_of l) → Some l.count (λ i. (pair_of l i).id ≡ x)
  has_there h =
      let k : h.at < l.count = omega (arith, h.below, length-table l.count (pair_of l)) in
      record { at = h.at; below = k; there = sym (id_of h.at k) ∙ h.there }

  there_has : Some l.count (λ i. (pair_of l i).id ≡ x) → HasId x (pairs_of l)
  there_has h =
      record {
        at = h.at;
        below = omega (arith, h.below, length-table l.count (pair_of l));
        there = id_of h.at h.below ∙ h.there;
      }

module _ (l : Live) (w : Right l) where
  right_welcome : (p : Pair) → Registrable p l → Welcome p (pairs_of l) l
  right_welcome p r =
      record {
        in_range = r.in_range.new;
        unlike = λ h. let s = has_there p.id l h in r.unlike.new s.at s.below s.there;
        few = omega (arith, r.room, length-table l.count (pair_of l));
        room = r.more;
      }

  welcome_right : (p : Pair) → Welcome p (pairs_of l) l → Registrable p l
  welcome_right p h =
      record {
        kept = w.kept;
        in_range = record { stored = w.in_range; new = h.in_range };
        unlike = record { stored = w.unlike; new = λ j k e. h.unlike (there_has p.id l (record { at = j; below = k; there = e })) };
        room = omega (arith, h.few, length-table l.count (pair_of l));
        more = h.room;
      }

  right_answers : AnswersBy (pairs_of l) l
  right_answers =
      record {
        registers = λ p. (λ e. right_welcome p (registering_done p l e).0, λ h. registering_accepts p l (welcome_right p h));
        withdraws =
            λ x. (
              λ e. there_has x l (withdrawing_done x l e).0.there,
              λ h. withdrawing_accepts x l (record { kept = w.kept; there = has_there x l h }),
            );
      }

pub live_answers : LiveAnswers
live_answers l calls w =
    subst (λ (ps : List Pair). AnswersBy ps (after calls l)) (list_pairs l calls w) (right_answers (after calls l) (list_right l calls w))

-- ## Neither call refuses 10

ten_of : (l : Live) (k : ℕ) → KeptFault l k → k ≡ 10 → Some l.count (λ j. TrueNumber l j → ⊥)
ten_of l _ (KeptFault.too_many_pairs _) e = absurd (omega (arith, e))
ten_of l _ (KeptFault.table_too_short _ _) e = absurd (omega (arith, e))
ten_of l _ (KeptFault.wrong_points _ _ _) e = absurd (omega (arith, e))
ten_of l _ (KeptFault.wrong_number _ _ _ some) e = some

ten-registering : (p : Pair) (l : Live) (k : ℕ) → RegisterFault p l k → k ≡ 10 → Some l.count (λ j. TrueNumber l j → ⊥)
ten-registering p l k (RegisterFault.kept _ f) e = ten_of l k f e
ten-registering p l _ (RegisterFault.out_of_range _ _) e = absurd (omega (arith, e))
ten-registering p l _ (RegisterFault.repeated_id _ _ _) e = absurd (omega (arith, e))
ten-registering p l _ (RegisterFault.full _ _ _ _) e = absurd (omega (arith, e))
ten-registering p l _ (RegisterFault.no_room _ _ _ _ _) e = absurd (omega (arith, e))

ten-withdrawing : (x : ℕ) (l : Live) (k : ℕ) → WithdrawFault x l k → k ≡ 10 → Some l.count (λ j. TrueNumber l j → ⊥)
ten-withdrawing x l k (WithdrawFault.kept _ f) e = ten_of l k f e
ten-withdrawing x l _ (WithdrawFault.unknown_id _ _) e = absurd (omega (arith, e))

neither_refuses_ten : (l : Live) → Right l → NeitherRefusesTen l
neither_refuses_ten l w =
    let none : Some l.count (λ j. TrueNumber l j → ⊥) → ⊥ = λ s. s.there (w.kept.numbers s.at s.below) in
    record {
      registers = λ p o e. none (ten-registering p l 10 ((rightly_registered p l _ refl).refuses 10 o e).1 refl);
      withdraws = λ x o e. none (ten-withdrawing x l 10 ((rightly_withdrawn x l _ refl).refuses 10 o e).1 refl);
    }

pub never_ten : NeverTen
never_ten l calls w = neither_refuses_ten (after calls l) (list_right l calls w)

pub may_return : MayReturn
unfolding without_at
may_return l calls x p w e r same =
    let now : Live = after calls l in
    let right : Right now = list_right l calls w in
    let d = withdrawing_done x now e in
    let f = gone_first x now d.0 in
    let a : ℕ = gone x now in
    let left : Live = without_at a now in
    let out = is_without now right.kept a f.below in
    let n : ℕ = now.count in
    let back : n - 1 + 1 ≡ n = omega (arith, f.below) in
    let again : Right left = less_right a now right f.below in
    let nobody : NoneHas p.id left =
    λ j k g.
    other_id x now right a f (up a j) (up-below a n j k) (up_not a j)
    (sym (ap (λ (q : Pair). q.id) (pair_moved a n now.fields j k)) ∙ g ∙ same) in
    subst (λ (o : Live). (registering p o).answer ≡ finished tt) (sym d.1)
    (registering_accepts p left
    (record {
      kept = again.kept;
      in_range = record { stored = again.in_range; new = r };
      unlike = record { stored = again.unlike; new = nobody };
      room = omega (arith, f.below, right.kept.few);
      more =
          record {
            fields =
                past_hold (n - 1 + 1) (n - 1) now.fields left.fields out.past.fields
                (subst (λ (k : ℕ). FieldsHold k now.fields) (sym back) right.kept.keep.fields);
            graph =
                record {
                  compatibilities = rw (out.past.compatibilities.long, back) right.kept.keep.graph.compatibilities;
                  weights = rw (out.past.weights.long, back) right.kept.keep.graph.weights;
                };
            suitable = rw (out.past.suitable.long, back) right.kept.keep.suitable;
          };
    }))
