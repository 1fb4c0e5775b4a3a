-- `printout::put_plan` meets its contract: each part goes where the one before it ends. Assumes nothing.
use native.Mathlib.Omega.{arith}
use Rattle.printout.specs.Printed.{PrintedPlan, printed_plan}
use Rattle.printout.proofs.Plans.{length-plan, put_plan}
use Rattle.printout.proofs.put_plan.Goals as goal

pub put_line-after_head-requires : goal.put_line-after_head-requires
put_line-after_head-requires c =
    let p : PrintedPlan =
    printed_plan c.args.n c.args.cycles c.args.weight c.args.ids.now c.args.donors.now c.args.recipients.now c.args.comparisons
    c.args.products c.args.rounds
    in
    omega (arith, c.requires.p_in_bounds, length-plan p)

pub put_pairs-after_pairs-requires : goal.put_pairs-after_pairs-requires
put_pairs-after_pairs-requires c =
    let p : PrintedPlan =
    printed_plan c.args.n c.args.cycles c.args.weight c.args.ids.now c.args.donors.now c.args.recipients.now c.args.comparisons
    c.args.products c.args.rounds
    in
    record {
      plan_tables_hold = c.requires.plan_tables_hold;
      recipients_in_bounds = omega (arith, c.requires.p_in_bounds, length-plan p, c.put_line-after_head.ensures.ends, c.put_line-after_head.auto.out);
    }

pub put_line-requires : goal.put_line-requires
put_line-requires c =
    let p : PrintedPlan =
    printed_plan c.args.n c.args.cycles c.args.weight c.args.ids.now c.args.donors.now c.args.recipients.now c.args.comparisons
    c.args.products c.args.rounds
    in
    omega (
      arith,
      c.requires.p_in_bounds,
      length-plan p,
      c.put_line-after_head.ensures.ends,
      c.put_line-after_head.auto.out,
      c.put_pairs-after_pairs.ensures.ends,
      c.put_pairs-after_pairs.auto.out,
    )

pub returns : goal.returns
returns c =
    let p : PrintedPlan =
    printed_plan c.args.n c.args.cycles c.args.weight c.args.ids.now c.args.donors.now c.args.recipients.now c.args.comparisons
    c.args.products c.args.rounds
    in
    put_plan p c.requires.p_in_bounds c.put_line-after_head.ensures c.put_pairs-after_pairs.ensures c.put_line.ensures
