-- What is promised of the text: the examples, and buffers that suffice. Assumes nothing.
use mathlib.Core.Path.{refl, ap}
use mathlib.Core.List.{List, [], ◌∷◌, flat_map, flatten}
use Prim.Native.Nat.{ℕ, zero, suc, ◌+◌, ◌*◌, ◌≤◌, ◌<◌}
use native.Mathlib.Numerals.{add-one}
use native.Mathlib.Omega.{arith}
use native.Mathlib.Decide.{dec_lt}
use lib.ListN.{length, get_or, length-append}
use Rattle.laws.specs.Below.{table}
use Rattle.text.specs.Text.{bytes_of, digits_within, decimal, line, number_line}
use Rattle.printout.specs.Printed.{PrintedPlan, plan_text, refusal_text}
use Rattle.partners.specs.Pairs.{partner, pair_line, pair_lines}
use Rattle.printout.specs.Promises.{ExamplePrinted, NonePrinted, RefusalPrinted, PlanTyped, PlanFits, RefusalFits, RefusedFits}
use Rattle.text.proofs.Decimal.{length-decimal, length_wide, length_id}
use Rattle.text.proofs.Lines.{length_none, length_texts, length-line}
use Rattle.partners.proofs.Pairs.{partner_id, partner_none, length_pair}
use Rattle.printout.proofs.Plans.{length-plan}

-- ## Examples

pub example_printed : ExamplePrinted
unfolding plan_text pair_lines pair_line partner line decimal digits_within flat_map flatten table
example_printed = refl

pub none_printed : NonePrinted
unfolding plan_text pair_lines pair_line partner line decimal digits_within flat_map flatten table
none_printed = refl

pub refusal_printed : RefusalPrinted
unfolding refusal_text line decimal digits_within flat_map
refusal_printed = refl

-- ## Buffers that suffice

-- texts of no more than m bytes each
texts_within : (f : ℕ → List ℕ) (m n : ℕ) → ((i : ℕ) → i < n → length (f i) ≤ m) → length (flatten (table n f)) ≤ m * n
texts_within f m zero h = omega (arith, length_none f)
texts_within f m (suc n) h =
    omega (arith, texts_within f m n (λ i l. h i (omega arith)), h n (omega arith), ap (λ (k : ℕ). length (flatten (table k f))) (add-one n), length_texts f n)

line_three : (word : List ℕ) (a b c : ℕ) → a < 18446744073709551616 → b < 18446744073709551616 → c < 18446744073709551616
    → length (number_line word (a ∷ b ∷ c ∷ [])) ≤ length word + 64
unfolding table flatten
line_three word a b c x y z =
    let e = simp length-append at (length-line word (a ∷ b ∷ c ∷ [])) in
    omega (arith, length_wide a x, length_wide b y, length_wide c z)

module _ (p : PrintedPlan) (w : PlanTyped p) where
  partner_fits : (who : ℕ) → length (partner p.pairs p.ids who) ≤ 10
  partner_fits who = go (dec_lt who p.pairs)
    where
      go : Dec (who < p.pairs) → length (partner p.pairs p.ids who) ≤ 10
      go (yes l) = rw (partner_id p.pairs p.ids who l) (length_id (get_or p.ids who 0) (w.ids who))
      go (no l) = rw (partner_none p.pairs p.ids who (omega arith)) (omega arith)

  pair_fits : (i : ℕ) → length (pair_line p.pairs p.ids p.donors p.recipients i) ≤ 33
  pair_fits i =
      omega (
        arith,
        length_pair p.pairs p.ids p.donors p.recipients i,
        length_id (get_or p.ids i 0) (w.ids i),
        partner_fits (get_or p.donors i 0),
        partner_fits (get_or p.recipients i 0),
      )

pub plan_fits : PlanFits
unfolding pair_lines
plan_fits p w =
    omega (
      arith,
      length-plan p,
      line_three (bytes_of "PLAN") p.pairs p.cycles p.weight w.pairs w.cycles w.weight,
      texts_within (pair_line p.pairs p.ids p.donors p.recipients) 33 p.pairs (λ i _. pair_fits p w i),
      line_three (bytes_of "COUNTS") p.comparisons p.products p.rounds w.comparisons w.products w.rounds,
    )

-- a number of no more than d digits
refusal_within : (d k o : ℕ) → length (decimal k) ≤ d → o < 18446744073709551616 → length (refusal_text k o) ≤ 30 + d
unfolding refusal_text table flatten
refusal_within d k o l m =
    let e = simp length-append at (length-line (bytes_of "REFUSED") (k ∷ o ∷ [])) in
    omega (arith, length_wide o m)

pub refusal_fits : RefusalFits
refusal_fits k o l = refusal_within 3 k o (length-decimal 2 k (omega arith))

pub refused_fits : RefusedFits
refused_fits k o l = refusal_within 10 k o (length_id k l)
