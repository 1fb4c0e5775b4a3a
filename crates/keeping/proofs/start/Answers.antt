-- `keeping::start` meets its contract. Assumes nothing.
use Rattle.refusal.proofs.Faults.{handed_on}
use Rattle.live.proofs.Promised.{rightly_started}
use Rattle.keeping.proofs.Begun.{start_refused, start_short, start_done}
use Rattle.keeping.proofs.start.Goals as goal

pub returns-then-points-lt6 : goal.returns-then-points-lt6
returns-then-points-lt6 c =
    let e = start_short _ _ c.judge.result (c.judge.ensures 0) c.in_ok-judge.was c.if-points-lt6.true in
    record { equals = e; rightly = rightly_started _ _ _ e }

pub returns-in_err-judge : goal.returns-in_err-judge
returns-in_err-judge c =
    let e = start_refused _ _ c.judge.result (c.judge.ensures 0) _ c.in_err-judge.was in
    rw (handed_on _ _ c.from_residual.ensures) record { equals = e; rightly = rightly_started _ _ _ e }

pub returns : goal.returns
returns c =
    let e = start_done _ _ c.judge.result (c.judge.ensures 0) c.in_ok-judge.was c.if-points-lt6.false _ c.put_points.ensures in
    record { equals = e; rightly = rightly_started _ _ _ e }
