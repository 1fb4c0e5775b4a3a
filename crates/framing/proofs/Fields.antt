-- "Start 1, tag and length 2, value 1, then 3 and 4": which fault a field or the head has, by how far the check came. Assumes nothing.
use mathlib.Core.Path.{◌≡◌}
use mathlib.Core.Bool.{true, false}
use mathlib.Core.List.{List}
use Prim.Native.Nat.{ℕ, ◌+◌, ◌≤◌, ◌<◌}
use borrow.Author.Tests.{lt-ltb, le-ltb, eq-eqb, ne_eqb}
use lib.ListN.{length}
use Rattle.laws.specs.Digits.{big_endian}
use Rattle.refusal.specs.Fault.{none, fault, refuse, ◌then◌}
use Rattle.pool.specs.Points.{known_version}
use Rattle.pool.specs.Sheet.{head_tag, head_length, start_length, version_in, pairs_in}
use Rattle.pool.specs.Faults.{version_fault, field_fault, head_fault}

-- ## A field: 1, 2, 1

module _ (b : List ℕ) (o tag len : ℕ) where
  pub no_start : length b < o + start_length → field_fault b o tag len ≡ fault 1 o
  unfolding field_fault refuse ◌then◌
  no_start l = rw (lt-ltb (length b) (o + start_length) l)

  module _ (l : o + start_length ≤ length b) where
    pub other_tag : (big_endian 1 b o ≡ tag → ⊥) → field_fault b o tag len ≡ fault 2 o
    unfolding field_fault refuse ◌then◌
    other_tag t = simp (le-ltb _ _ l, ne_eqb _ _ t)

    module _ (t : big_endian 1 b o ≡ tag) where
      pub other_length : (big_endian 2 b (o + 1) ≡ len → ⊥) → field_fault b o tag len ≡ fault 2 o
      unfolding field_fault refuse ◌then◌
      other_length s = simp (le-ltb _ _ l, eq-eqb _ _ t, ne_eqb _ _ s)

      pub no_value : big_endian 2 b (o + 1) ≡ len → length b < o + start_length + len → field_fault b o tag len ≡ fault 1 o
      unfolding field_fault refuse ◌then◌
      no_value s v = simp (le-ltb _ _ l, eq-eqb _ _ t, eq-eqb _ _ s, lt-ltb _ _ v)

-- ## The head: its field, then 3 and 4

module _ (b : List ℕ) (f : field_fault b 0 head_tag head_length ≡ none) where
  pub other_version : known_version (version_in b) ≡ false → head_fault b ≡ fault 3 0
  unfolding head_fault version_fault refuse ◌then◌
  other_version v = simp (f, v)

  module _ (v : known_version (version_in b) ≡ true) where
    pub too_many : 200 < pairs_in b → head_fault b ≡ fault 4 0
    unfolding head_fault version_fault refuse ◌then◌
    too_many l = simp (f, v, lt-ltb _ _ l)

    pub head_none : pairs_in b ≤ 200 → head_fault b ≡ none
    unfolding head_fault version_fault refuse ◌then◌
    head_none l = simp (f, v, le-ltb _ _ l)
