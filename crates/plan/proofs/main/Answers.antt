-- `plan::main` meets its contract. Assumes nothing.
use Rattle.std.proofs.Common.{sym}
use lib.Seq.{length-take-le}
use Rattle.answering.proofs.Sheets.{answer_fits}
use Rattle.plan.proofs.main.Goals as goal

pub slice_bounds-text-end : goal.slice_bounds-text-end
slice_bounds-text-end c = let a = c.answer-length in answer_fits _ _ _ a.result a.ensures.equal

pub slice_bounds-write_all-end : goal.slice_bounds-write_all-end
slice_bounds-write_all-end c = let a = c.answer-length in sym (length-take-le a.result _ (answer_fits _ _ _ a.result a.ensures.equal))
