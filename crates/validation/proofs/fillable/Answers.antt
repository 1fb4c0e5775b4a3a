-- `validation::fillable` meets its contract. Assumes nothing.
use Rattle.refusal.specs.Number.{fault_at}
use Rattle.exchange.specs.Planning.{short_to_fill}
use native.Mathlib.Omega.{arith}
use Rattle.validation.proofs.Faults.{short, long, first, second}
use Rattle.validation.proofs.fillable.Goals as goal

pub returns-then-weights-count : goal.returns-then-weights-count
unfolding fault_at short_to_fill
returns-then-weights-count c = first _ _ (short _ _ (omega (arith, c.count.ensures, c.if-weights-count.true)))

pub returns-then-choices-n : goal.returns-then-choices-n
unfolding fault_at short_to_fill
returns-then-choices-n c = second _ _ _ (long _ _ (omega (arith, c.count.ensures, c.if-weights-count.false))) (first _ _ (short _ _ c.if-choices-n.true))

pub returns-then-donors-n : goal.returns-then-donors-n
unfolding fault_at short_to_fill
returns-then-donors-n c =
    second _ _ _ (long _ _ (omega (arith, c.count.ensures, c.if-weights-count.false)))
    (second _ _ _ (long _ _ c.if-choices-n.false) (first _ _ (short _ _ c.if-donors-n.true)))

pub returns-then-recipients-n : goal.returns-then-recipients-n
unfolding fault_at short_to_fill
returns-then-recipients-n c =
    let else1 = c in
    second _ _ _ (long _ _ (omega (arith, else1.count.ensures, else1.if-weights-count.false)))
    (second _ _ _ (long _ _ c.if-choices-n.false) (second _ _ _ (long _ _ c.if-donors-n.false)
    (first _ _ (short _ _ c.if-recipients-n.true))))

pub returns-then-room-n : goal.returns-then-room-n
unfolding fault_at short_to_fill
returns-then-room-n c =
    let else3 = c in
    second _ _ _ (long _ _ (omega (arith, else3.count.ensures, else3.if-weights-count.false)))
    (second _ _ _ (long _ _ else3.if-choices-n.false) (second _ _ _ (long _ _ else3.if-donors-n.false)
    (second _ _ _ (long _ _ c.if-recipients-n.false) (short _ _ c.if-room-n.true))))

pub returns : goal.returns
unfolding fault_at short_to_fill
returns c =
    let else3 = c in
    second _ _ _ (long _ _ (omega (arith, else3.count.ensures, else3.if-weights-count.false)))
    (second _ _ _ (long _ _ else3.if-choices-n.false) (second _ _ _ (long _ _ else3.if-donors-n.false)
    (second _ _ _ (long _ _ c.if-recipients-n.false) (long _ _ c.if-room-n.false))))
