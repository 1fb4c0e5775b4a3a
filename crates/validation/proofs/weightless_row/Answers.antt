-- `validation::weightless_row` meets its contract. Assumes nothing.
use Rattle.std.proofs.Common.{rules, tests}
use Rattle.exchange.specs.Planning.{weightless}
use Rattle.validation.proofs.Anywhere.{any_is_below}
use Rattle.validation.proofs.weightless_row.Goals as goal

pub returns : goal.returns
returns c =
    any_is_below c.args.n (weightless c.args.n c.args.m.now c.args.w.now c.args.i) c.any.ensures.ran
    (λ j q k. search (rules, tests)) (λ j q k. search (rules, tests))
