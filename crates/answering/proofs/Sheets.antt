-- The answer to a sheet, by what reading found. Assumes nothing.
use mathlib.Core.Path.{◌≡◌, sym, ap, ap₂, ◌∙◌}
use mathlib.Core.List.{List}
use Prim.Native.Nat.{ℕ, ◌≤◌}
use native.Mathlib.Omega.{arith}
use lib.ListN.{length}
use Rattle.std.specs.Prelude.{Result, Ok, Err}
use Rattle.refusal.specs.Fault.{Fault, ◌then◌}
use Rattle.refusal.specs.Answer.{Outcome, outcome, finished, refused}
use Rattle.refusal.specs.Number.{number_of}
use Rattle.refusal.specs.declared.Refused.{Refused}
use Rattle.refusal.proofs.Faults.{finished_none, refused_fault}
use Rattle.pool.specs.Pool.{Pool}
use Rattle.pool.specs.Points.{Points}
use Rattle.pool.specs.Sheet.{version_in, pairs_in, point_at, pair_at, shuffle_at, pool_of}
use Rattle.pool.specs.Tables.{Tables, item_in, room, pair_in, pool_in, filled_tables, points_of_table}
use Rattle.pool.specs.Faults.{sheet_fault, room_fault, tables_fault}
use Rattle.pool.specs.Calls.{Head, head, head_in, reading}
use Rattle.pool.specs.Faultless.{TablesHold, FaultlessSheet, FaultlessPool}
use Rattle.pool.proofs.Rooms.{hold_room}
use Rattle.pool.proofs.Points.{points_cong}
use Rattle.pool.proofs.Reading.{sheet_pool, tables_six}
use Rattle.pool.proofs.ReadingCall.{reading_none, reading_passed}
use Rattle.pool.proofs.RoundTrip.{point_in_filled, pair_in_filled, faultless_filled, pool_in_filled}
use Rattle.reader.specs.Answers.{answer_of}
use Rattle.reader.specs.declared.Head.{Head as HeadRead}
use Rattle.printout.specs.Printed.{PrintedPlan, plan_text, refusal_text}
use Rattle.answers.specs.Most.{most}
use Rattle.answers.specs.Answering.{printed_plan_of, points_on, or_refusal, answer_text, putting, answering}
use Rattle.answering.specs.Preconditions.{Read}
use Rattle.answers.specs.Promises.{AnswersSheet}
use Rattle.answers.proofs.Texts.{put_fits}
use Rattle.answering.proofs.Pools.{same_plan}
use Rattle.answers.proofs.Promised.{answering_is_right}

module _ (b : List ℕ) (t left : Tables) (r : Result HeadRead Refused) (e : outcome (answer_of r) left ≡ reading b t) (room-is : room t ≡ most) (six : length t.points ≡ 6) where
  answer_read : answer_of r ≡ (reading b t).answer
  answer_read = ap (λ (o : Outcome Head Tables). o.answer) e

  -- 9 is by the tables for 40 pairs alone: that for six points always suffices
  nine : tables_fault (version_in b) (pairs_in b) (room t) t.points ≡ room_fault most (pairs_in b)
  nine = tables_six (version_in b) (pairs_in b) (room t) t.points six ∙ ap (λ (x : ℕ). room_fault x (pairs_in b)) room-is

  -- the plan of the pool that b says
  abbrev plan : PrintedPlan
  plan = printed_plan_of (points_on b) (pairs_in b) (pair_at b) (shuffle_at b (pairs_in b))

  -- ## Refused

  refused_text : (k o : ℕ) → (reading b t).answer ≡ refused k o → answer_text b ≡ refusal_text k o
  unfolding answer_text or_refusal reading
  refused_text k o g =
      ap (λ (f : Fault). or_refusal f (plan_text plan)) (ap (λ (f : Fault). sheet_fault b then f) (sym nine) ∙ refused_fault _ _ _ _ g)

  pub refused_answer : (out new : List ℕ) (f : Refused) (k : ℕ) → r ≡ Err f → outcome (finished k) new ≡ putting (refusal_text (number_of f.why) f.place) out
      → AnswersSheet b out (outcome (finished k) new)
  unfolding answer_of answering
  refused_answer out new f k g h =
      answering_is_right b out (outcome (finished k) new) (h ∙ ap (λ (x : List ℕ). putting x out) (sym (refused_text (number_of f.why) f.place (sym answer_read ∙ rw g))))

  -- ## Accepted

  module _ (h : HeadRead) (g : r ≡ Ok h) where
    abbrev v : ℕ
    v = h.version

    abbrev n : ℕ
    n = h.pairs

    finished_is : (reading b t).answer ≡ finished (head v n)
    unfolding answer_of
    finished_is = sym answer_read ∙ rw g

    passed : (head v n ≡ head_in b) × FaultlessSheet b × TablesHold (version_in b) (pairs_in b) t
    passed = reading_passed b t (head v n) finished_is

    version : v ≡ version_in b
    version = ap (λ (h : Head). h.version) passed.0

    many : n ≡ pairs_in b
    many = ap (λ (h : Head). h.pairs) passed.0

    left_is : left ≡ filled_tables (pool_of b) t
    left_is = ap (λ (o : Outcome Head Tables). o.lent) (e ∙ reading_none b t passed.1 passed.2)

    filled_faultless : FaultlessPool (version_in b) (pairs_in b) (filled_tables (pool_of b) t)
    unfolding pool_of
    filled_faultless =
        faultless_filled (version_in b) (point_at b) (pairs_in b) (pair_at b) (shuffle_at b (pairs_in b)) t passed.2 (sheet_pool b passed.1)

    pub read_accepted : Read v n left
    read_accepted =
        record {
          few = rw many (omega (arith, (hold_room (version_in b) (pairs_in b) t passed.2).0, room-is));
          faultless = rw (left_is, version, many) filled_faultless;
        }

    accepted_text : answer_text b ≡ plan_text plan
    unfolding answer_text or_refusal reading
    accepted_text =
        ap (λ (f : Fault). or_refusal f (plan_text plan)) (ap (λ (f : Fault). sheet_fault b then f) (sym nine) ∙ (finished_none _ _ _ _ finished_is).0)

    -- the points that were filled are the sheet's
    points_read : points_of_table (version_in b) (filled_tables (pool_of b) t).points ≡ points_on b
    unfolding pool_of
    points_read =
        points_cong (version_in b) _ (point_at b) (point_in_filled (version_in b) (point_at b) (pairs_in b) (pair_at b) (shuffle_at b (pairs_in b)) t)

    -- the plan of tables, by the points in them
    abbrev plan_in : ℕ → ℕ → Tables → PrintedPlan
    plan_in w k x = printed_plan_of (points_of_table w x.points) k (pair_in x.fields) (item_in x.shuffle)

    -- the plan of the tables that were filled is the plan of the sheet
    plan-read : plan_in v n left ≡ plan
    unfolding pool_of pool_in filled_tables
    plan-read =
        ap₂ (λ (h : Head) (x : Tables). plan_in h.version h.pairs x) passed.0 left_is
        ∙ ap (λ (q : Points). printed_plan_of q (pairs_in b) (pair_in (filled_tables (pool_of b) t).fields) (item_in (filled_tables (pool_of b) t).shuffle)) points_read
        ∙ same_plan (version_in b) _ (pairs_in b) _ _ filled_faultless.pool (points_on b) (pair_at b) (shuffle_at b (pairs_in b)) (pair_in_filled (pairs_in b) (pair_at b) t.fields)
        (ap (λ (p : Pool). p.shuffle) (pool_in_filled (version_in b) (point_at b) (pairs_in b) (pair_at b) (shuffle_at b (pairs_in b)) t))

    pub accepted_answer : (out new : List ℕ) (k : ℕ) → outcome (finished k) new ≡ putting (plan_text (plan_in v n left)) out
        → AnswersSheet b out (outcome (finished k) new)
    unfolding answering
    accepted_answer out new k h =
        answering_is_right b out (outcome (finished k) new) (h ∙ ap (λ (x : List ℕ). putting x out) (ap plan_text plan-read ∙ sym accepted_text))

-- the answer's length is within the buffer
pub answer_fits : (b out new : List ℕ) (k : ℕ) → outcome (finished k) new ≡ answering b out → k ≤ length new
unfolding answering
answer_fits b out new = put_fits (answer_text b) out new
