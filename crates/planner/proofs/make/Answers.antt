-- `planner::make` meets its contract. Assumes nothing.
use Rattle.planner.proofs.MadePlan.{front, weights_front, choices_front, asks_steps, choices_part, asks_resolve, plan_is, cycles_few, lent_is}
use Rattle.planner.proofs.make.Goals as goal

pub slice_bounds-steps-end-2 : goal.slice_bounds-steps-end-2
slice_bounds-steps-end-2 c = weights_front _ _ _ _ _ _ _ _ _ c.requires _ c.count-all.ensures

pub slice_bounds-steps-end-4 : goal.slice_bounds-steps-end-4
slice_bounds-steps-end-4 c = choices_front _ _ _ _ _ _ _ _ _ c.requires _ c.count-all.ensures

pub steps-tally-requires : goal.steps-tally-requires
steps-tally-requires c = asks_steps _ _ _ _ _ _ _ _ _ c.requires _ c.count-all.ensures

pub slice_bounds-resolve-end-2 : goal.slice_bounds-resolve-end-2
slice_bounds-resolve-end-2 c = choices_part _ _ _ _ _ _ _ _ _ c.requires _ c.count-all.ensures _ _ _ c.steps-tally.ensures

pub slice_bounds-resolve-end-4 : goal.slice_bounds-resolve-end-4
slice_bounds-resolve-end-4 c = front _ _ c.requires.in_donors

pub slice_bounds-resolve-end-6 : goal.slice_bounds-resolve-end-6
slice_bounds-resolve-end-6 c = front _ _ c.requires.in_recipients

pub resolve-resolved-requires : goal.resolve-resolved-requires
resolve-resolved-requires c = asks_resolve _ _ _ _ _ _ _ _ _ c.requires _ c.count-all.ensures _ _ _ c.steps-tally.ensures

pub returns : goal.returns
returns c =
    let r = c.resolve-resolved in
    record {
      made = plan_is _ _ _ _ _ _ _ _ _ c.requires _ c.count-all.ensures _ _ _ c.steps-tally.ensures r.result _ _ r.ensures _ c.counts_of.ensures;
      few = cycles_few _ _ _ _ _ _ _ _ _ c.requires _ c.count-all.ensures _ _ _ c.steps-tally.ensures r.result _ _ r.ensures;
      leaves = lent_is _ _ _ _ _ _ _ _ _ c.requires _ c.count-all.ensures _ _ _ c.steps-tally.ensures r.result _ _ r.ensures;
    }
