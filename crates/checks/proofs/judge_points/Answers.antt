-- `checks::judge_points` meets its contract: document 01's points, which version 1 is weighed by, pass. Assumes nothing.
use mathlib.Core.Path.{sym, ap, ◌∙◌}
use native.Mathlib.Omega.{arith}
use Rattle.refusal.specs.Number.{fault_at}
use Rattle.pool.specs.Points.{document_points, points_of}
use Rattle.pool.specs.Faults.{points_fault}
use Rattle.pool.proofs.Points.{has_second, second_count, second_points_lem, document_sound, points_none}
use Rattle.checks.proofs.judge_points.Goals as goal

pub own-requires : goal.own-requires
own-requires c = omega (arith, c.requires, second_count c.args.version (has_second c.args.version (sym c.has_points.ensures ∙ c.if-has_points.true)))

pub returns-then-has_points : goal.returns-then-has_points
returns-then-has_points c o =
    c.judge.ensures o ∙ ap (points_fault o) (c.own.ensures ∙ sym (second_points_lem _ _ (has_second _ (sym c.has_points.ensures ∙ c.if-has_points.true))))

pub returns-else-has_points : goal.returns-else-has_points
unfolding fault_at points_of
returns-else-has_points c o = rw (sym c.has_points.ensures ∙ c.if-has_points.false) (sym (points_none document_points o document_sound))
