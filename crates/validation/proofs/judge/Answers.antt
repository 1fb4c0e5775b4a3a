-- `validation::judge` meets its contract. Assumes nothing.
use Rattle.refusal.proofs.Faults.{handed_on}
use Rattle.validation.proofs.Faults.{judge_read, read_few, read-tables, read_shuffle, judge_fill, judge_shuffle, judge_table, judge_edges}
use Rattle.validation.proofs.judge.Goals as goal

pub returns-in_err-readable : goal.returns-in_err-readable
returns-in_err-readable c =
    rw (handed_on _ _ c.from_residual.ensures)
    (judge_read _ _ c.readable.result c.readable.ensures _ c.in_err-readable.was)

pub fillable-requires : goal.fillable-requires
fillable-requires c = read_few _ c.args.floor _ _ _ c.readable.result c.readable.ensures c.in_ok-readable.was

pub returns-in_err-fillable : goal.returns-in_err-fillable
returns-in_err-fillable c =
    rw (handed_on _ _ c.from_residual-in_err-fillable.ensures)
    (judge_fill _ _ c.readable.result c.readable.ensures c.in_ok-readable.was
    c.fillable.result c.fillable.ensures _ c.in_err-fillable.was)

pub shuffle-requires : goal.shuffle-requires
shuffle-requires c = read_shuffle _ c.args.floor _ _ _ c.readable.result c.readable.ensures c.in_ok-readable.was

pub returns-in_err-shuffle : goal.returns-in_err-shuffle
returns-in_err-shuffle c =
    rw (handed_on _ _ c.from_residual-in_err-shuffle.ensures)
    (judge_shuffle _ _ c.readable.result c.readable.ensures c.in_ok-readable.was
    c.fillable.result c.fillable.ensures c.in_ok-fillable.was
    c.shuffle.result (c.shuffle.ensures 0) _ c.in_err-shuffle.was)

pub compatibility-requires : goal.compatibility-requires
compatibility-requires c =
    let h = read-tables _ c.args.floor _ _ _ c.readable.result c.readable.ensures c.in_ok-readable.was in
    (h.0, h.1)

pub returns-in_err-compatibility : goal.returns-in_err-compatibility
returns-in_err-compatibility c =
    rw (handed_on _ _ c.from_residual-in_err-compatibility.ensures)
    (judge_table _ _ c.readable.result c.readable.ensures c.in_ok-readable.was
    c.fillable.result c.fillable.ensures c.in_ok-fillable.was
    c.shuffle.result (c.shuffle.ensures 0) c.in_ok-shuffle.was
    c.compatibility.result c.compatibility.ensures _ c.in_err-compatibility.was)

pub edges-requires : goal.edges-requires
edges-requires c = read-tables _ c.args.floor _ _ _ c.readable.result c.readable.ensures c.in_ok-readable.was

pub returns : goal.returns
returns c =
    judge_edges _ _ c.readable.result c.readable.ensures c.in_ok-readable.was
    c.fillable.result c.fillable.ensures c.in_ok-fillable.was
    c.shuffle.result (c.shuffle.ensures 0) c.in_ok-shuffle.was
    c.compatibility.result c.compatibility.ensures c.in_ok-compatibility.was c.edges.result c.edges.ensures
