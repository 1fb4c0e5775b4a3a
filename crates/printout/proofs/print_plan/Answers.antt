-- `printout::print_plan` meets its contract: each answer is what the definition says, and so keeps the promise. Assumes nothing.
use native.Mathlib.Omega.{arith}
use Rattle.refusal.proofs.Faults.{handed_on}
use Rattle.printout.specs.Printed.{PrintedPlan, printed_plan}
use Rattle.printout.specs.Promises.{PlanTyped}
use Rattle.printout.proofs.Answered.{answered_fault, answered_passed, answered_printed, prints_plan}
use Rattle.printout.proofs.print_plan.Goals as goal

pub put_plan-requires : goal.put_plan-requires
put_plan-requires c =
    let p : PrintedPlan =
    printed_plan c.args.n c.args.cycles c.args.weight c.args.ids.now c.args.donors.now c.args.recipients.now c.args.comparisons
    c.args.products c.args.rounds
    in
    let q = answered_passed p c.args.out.now c.judge.result c.judge.ensures c.in_ok-judge.was in
    record { plan_tables_hold = q.0; p_in_bounds = q.1 }

pub returns-in_err-judge : goal.returns-in_err-judge
returns-in_err-judge c =
    let p : PrintedPlan =
    printed_plan c.args.n c.args.cycles c.args.weight c.args.ids.now c.args.donors.now c.args.recipients.now c.args.comparisons
    c.args.products c.args.rounds
    in
    let typed : PlanTyped p =
    record {
      pairs = c.ranges.n.fits;
      cycles = c.ranges.cycles.fits;
      weight = c.ranges.weight.fits;
      ids = λ i. omega (arith, c.type_inv.ids i);
      comparisons = c.ranges.comparisons.fits;
      products = c.ranges.products.fits;
      rounds = c.ranges.rounds.fits;
    }
    in
    let e = answered_fault p c.args.out.now c.judge.result c.judge.ensures _ c.in_err-judge.was in
    rw (handed_on _ _ c.from_residual.ensures) (record { equals = e; rightly = prints_plan p c.args.out.now typed e })

pub returns : goal.returns
returns c =
    let p : PrintedPlan =
    printed_plan c.args.n c.args.cycles c.args.weight c.args.ids.now c.args.donors.now c.args.recipients.now c.args.comparisons
    c.args.products c.args.rounds
    in
    let typed : PlanTyped p =
    record {
      pairs = c.ranges.n.fits;
      cycles = c.ranges.cycles.fits;
      weight = c.ranges.weight.fits;
      ids = λ i. omega (arith, c.type_inv.ids i);
      comparisons = c.ranges.comparisons.fits;
      products = c.ranges.products.fits;
      rounds = c.ranges.rounds.fits;
    }
    in
    let e = answered_printed p c.args.out.now c.judge.result c.judge.ensures c.in_ok-judge.was c.put_plan.ensures in
    record { equals = e; rightly = prints_plan p c.args.out.now typed e }
