-- A plan's text: its length, and its parts put one after another. Assumes nothing.
use mathlib.Core.Path.{◌≡◌, ap, ◌∙◌}
use mathlib.Core.List.{List, [], ◌∷◌, ◌++◌}
use Prim.Native.Nat.{ℕ, ◌+◌, ◌≤◌}
use native.Mathlib.Omega.{arith}
use lib.ListN.{length, length-append}
use Rattle.text.specs.Text.{bytes_of, number_line}
use Rattle.printout.specs.Printed.{PrintedPlan, plan_text}
use Rattle.partners.specs.Pairs.{pair_lines}
use Rattle.text.specs.Put.{Put}
use Rattle.text.proofs.Puts.{put_then, length_put}

module _ (p : PrintedPlan) where
  abbrev pub head_line : List ℕ
  head_line = number_line (bytes_of "PLAN") (p.pairs ∷ p.cycles ∷ p.weight ∷ [])

  abbrev pub lines_of : List ℕ
  lines_of = pair_lines p.pairs p.ids p.donors p.recipients

  abbrev pub counts_line : List ℕ
  counts_line = number_line (bytes_of "COUNTS") (p.comparisons ∷ p.products ∷ p.rounds ∷ [])

  pub length-plan : length (plan_text p) ≡ length head_line + (length lines_of + length counts_line)
  unfolding plan_text
  length-plan = length-append head_line (lines_of ++ counts_line) ∙ ap (λ (k : ℕ). length head_line + k) (length-append lines_of counts_line)

  pub put_plan : {one two end : ℕ} {old a b new : List ℕ} → length (plan_text p) ≤ length old → Put 0 head_line old a one → Put one lines_of a b two
      → Put two counts_line b new end → Put 0 (plan_text p) old new end
  unfolding plan_text
  put_plan {one} {two} {end} {old} {a} l f g h =
      let k = length-plan in
      let i : 0 + length head_line ≤ length old = omega arith in
      let j : one + length lines_of ≤ length a = omega (arith, f.ends, length_put i f) in
      put_then i f (put_then j g h)
