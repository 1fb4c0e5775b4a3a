-- `validation::readable` meets its contract. Assumes nothing.
use mathlib.Core.Path.{◌∙◌}
use Rattle.refusal.specs.Number.{fault_at}
use Rattle.exchange.specs.Planning.{short_to_read}
use Rattle.validation.proofs.Faults.{many, not_many, high, not_high, short, long, first, second}
use Rattle.validation.proofs.readable.Goals as goal

pub returns-then-n-gt200 : goal.returns-then-n-gt200
unfolding fault_at short_to_read
returns-then-n-gt200 c = many _ _ c.if-n-gt200.true

pub returns-then-floor-gt-MOST_FLOOR : goal.returns-then-floor-gt-MOST_FLOOR
unfolding fault_at short_to_read
returns-then-floor-gt-MOST_FLOOR c = high _ _ c.if-floor-gt-MOST_FLOOR.true ∙ not_many _ _ c.if-n-gt200.false

-- ??
-- mul-if3 : tie.Need-overflow-mul-if3
-- mul-if3 c = record { fits = omega (arith, square_le _ c.before.if1.false) }

pub returns-then-m-n : goal.returns-then-m-n
unfolding fault_at short_to_read
returns-then-m-n c = first _ _ (short _ _ c.if-m-n.true) ∙ not_high _ _ c.if-floor-gt-MOST_FLOOR.false ∙ not_many _ _ c.if-n-gt200.false

pub returns-then-w-n : goal.returns-then-w-n
unfolding fault_at short_to_read
returns-then-w-n c =
    second _ _ _ (long _ _ c.if-m-n.false) (first _ _ (short _ _ c.if-w-n.true))
    ∙ not_high _ _ c.if-floor-gt-MOST_FLOOR.false
    ∙ not_many _ _ c.if-n-gt200.false

pub returns-then-shuffle-n : goal.returns-then-shuffle-n
unfolding fault_at short_to_read
returns-then-shuffle-n c =
    second _ _ _ (long _ _ c.if-m-n.false) (second _ _ _ (long _ _ c.if-w-n.false) (short _ _ c.if-shuffle-n.true))
    ∙ not_high _ _ c.if-floor-gt-MOST_FLOOR.false
    ∙ not_many _ _ c.if-n-gt200.false

pub returns : goal.returns
unfolding fault_at short_to_read
returns c =
    second _ _ _ (long _ _ c.if-m-n.false) (second _ _ _ (long _ _ c.if-w-n.false) (long _ _ c.if-shuffle-n.false))
    ∙ not_high _ _ c.if-floor-gt-MOST_FLOOR.false
    ∙ not_many _ _ c.if-n-gt200.false
