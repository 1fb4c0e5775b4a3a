-- `validation::above_one` meets its contract. Assumes nothing.
use Rattle.std.proofs.Common.{ltb, rules, tests}
use Rattle.exchange.specs.Subsets.{entry}
use Rattle.validation.proofs.Anywhere.{any_is_below}
use Rattle.validation.proofs.above_one.Goals as goal

pub returns : goal.returns
returns c =
    any_is_below c.args.n (λ j. ltb 1 (entry c.args.m.now c.args.n c.args.i j)) c.any.ensures.ran
    (λ j q k. search (rules, tests)) (λ j q k. search (rules, tests))
