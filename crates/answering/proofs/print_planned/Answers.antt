use Rattle.answering.proofs.Plans.{made_printed, made_surely}
use Rattle.answering.proofs.print_planned.Goals as goal

pub unwrap-requires : goal.unwrap-requires
unwrap-requires c =
    let w = c.plan_tables-made in
    let p = c.print_plan in
    made_surely _ _ _ _ _ _ w.result _ _ w.ensures c.requires.0.few _ c.requires.1 _ _ c.told-out p.result
    p.ensures.equals p.ensures.rightly

pub returns : goal.returns
returns c =
    let w = c.plan_tables-made in
    let p = c.print_plan in
    made_printed _ _ _ _ _ _ w.result _ _ w.ensures c.requires.0.few _ c.requires.1 _ _ c.told-out p.result
    p.ensures.equals p.ensures.rightly _ c.unwrap.ensures
