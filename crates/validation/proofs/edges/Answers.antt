-- `validation::edges` meets its contract. Assumes nothing.
use Rattle.std.proofs.Common.{sym, ◌∙◌, rules, tests}
use Rattle.refusal.specs.Number.{fault_at}
use Rattle.validation.proofs.Anywhere.{any_is_below}
use Rattle.validation.proofs.Faults.{light, light_hit, light_clean}
use Rattle.validation.proofs.edges.Goals as goal

pub returns-then-any : goal.returns-then-any
unfolding fault_at
returns-then-any c =
    let found = any_is_below c.args.n (light c.args.n c.args.m.now c.args.w.now) c.any.ensures.ran (λ i q k. search (rules, tests)) (λ i q k. search (rules, tests)) in
    light_hit _ _ _ (sym found ∙ c.if-any.true)

pub returns : goal.returns
unfolding fault_at
returns c =
    let missed = any_is_below c.args.n (light c.args.n c.args.m.now c.args.w.now) c.any.ensures.ran (λ i q k. search (rules, tests)) (λ i q k. search (rules, tests)) in
    light_clean _ _ _ (sym missed ∙ c.if-any.false)
