-- Three sheets and their answers, from bytes to printout: document 01's, the same as version 2 with a registry's base, and one of ours in which what the
-- first leaves alike differs. Assumes nothing.
use Rattle.std.specs.Prelude.{◌≡◌, ℕ}
use mathlib.Core.List.{List, [], ◌∷◌, flatten}
use Rattle.pool.specs.Examples.{example_sheet, example_pair}
use Rattle.text.specs.Text.{bytes_of}
use Rattle.answers.specs.Answering.{answer_text}

-- ## Document 01's example

abbrev pub ExampleAnswered : Type 0
ExampleAnswered = answer_text example_sheet ≡ bytes_of "PLAN 2 1 2900\n11 12 12\n12 11 11\nCOUNTS 1 6 1\n"

-- ## The same pairs in version 2: base 2,000 and the other points as in document 01, so 2,450 for each giving

abbrev pub registry_sheet : List ℕ
registry_sheet =
    flatten
    ((1 ∷ 0 ∷ 4 ∷ 0 ∷ 2 ∷ 0 ∷ 2 ∷ [])
    ∷ (4 ∷ 0 ∷ 12 ∷ 7 ∷ 208 ∷ 1 ∷ 144 ∷ 0 ∷ 250 ∷ 0 ∷ 100 ∷ 0 ∷ 50 ∷ 0 ∷ 30 ∷ [])
    ∷ example_pair 0 11 1 2
    ∷ example_pair 0 12 2 1
    ∷ (3 ∷ 0 ∷ 4 ∷ 0 ∷ 0 ∷ 0 ∷ 1 ∷ [])
    ∷ [])

abbrev pub RegistryAnswered : Type 0
RegistryAnswered = answer_text registry_sheet ≡ bytes_of "PLAN 2 1 4900\n11 12 12\n12 11 11\nCOUNTS 1 6 1\n"

-- ## A triple

-- The pairs 1 and 2 are alike, so that the two cycles of 0, 1 and 2 weigh the same, and the shuffle decides; pair 3's antibody meets every other
-- donor's antigen. Donors and patients differ in blood and age. Worked out by hand:
--
--     1 → 0   antigens 0, 63 and 1: 2 mismatches (0 and 63), 250; both young, 50    1,300
--     0 → 2   antigens 63 and 63: none, 400; both senior, 50                        1,450
--     2 → 1   antigens 0, 63 and 63: 1 mismatch (0), 250; young to senior, 30       1,280
--
-- With the antigens of either counted, as in document 01, 1 → 0 has 3 mismatches and 1,150; with the patient's alone counted, 2 → 1 has none and 1,430.
-- With the shuffle 1 3 0 2 the first cycle is 1, 0, 2. Without it, with it read backwards, or with its inverse, it would be 0, 1, 2.

-- a field of 64 bits: entry 63 of the laboratory's list or not, and the last byte
abbrev pub tissue : ℕ → ℕ → List ℕ
tissue high low = high ∷ 0 ∷ 0 ∷ 0 ∷ 0 ∷ 0 ∷ 0 ∷ low ∷ []

abbrev pub triple_sheet : List ℕ
triple_sheet =
    flatten
    ((1 ∷ 0 ∷ 4 ∷ 0 ∷ 1 ∷ 0 ∷ 4 ∷ [])
    ∷ (2 ∷ 0 ∷ 32 ∷ 0 ∷ 0 ∷ 0 ∷ 7 ∷ 1 ∷ 2 ∷ 1 ∷ 0 ∷ []) ∷ tissue 128 0 ∷ tissue 0 2 ∷ tissue 0 0
    ∷ (2 ∷ 0 ∷ 32 ∷ 0 ∷ 0 ∷ 1 ∷ 44 ∷ 0 ∷ 3 ∷ 0 ∷ 1 ∷ []) ∷ tissue 128 1 ∷ tissue 128 0 ∷ tissue 0 0
    ∷ (2 ∷ 0 ∷ 32 ∷ 0 ∷ 0 ∷ 0 ∷ 10 ∷ 0 ∷ 3 ∷ 0 ∷ 1 ∷ []) ∷ tissue 128 1 ∷ tissue 128 0 ∷ tissue 0 0
    ∷ (2 ∷ 0 ∷ 32 ∷ 0 ∷ 0 ∷ 0 ∷ 100 ∷ 0 ∷ 3 ∷ 0 ∷ 0 ∷ []) ∷ tissue 0 0 ∷ tissue 0 0 ∷ tissue 128 0
    ∷ (3 ∷ 0 ∷ 8 ∷ 0 ∷ 1 ∷ 0 ∷ 3 ∷ 0 ∷ 0 ∷ 0 ∷ 2 ∷ [])
    ∷ [])

abbrev pub TripleAnswered : Type 0
TripleAnswered =
    answer_text triple_sheet
    ≡ bytes_of "PLAN 4 1 4030\n7 300 10\n300 10 7\n10 7 300\n100 - -\nCOUNTS 24 162 2\n"
