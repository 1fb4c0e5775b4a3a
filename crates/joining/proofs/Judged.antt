-- What joining finds wrong, by how far its checks came. Assumes nothing.
use Prim.Native.Nat.{ℕ, ◌+◌, ◌≤◌, ◌<◌}
use mathlib.Core.Path.{◌≡◌, sym, ap, ◌∙◌}
use mathlib.Core.Bool.{Bool, true, false, not}
use mathlib.Core.List.{List}
use borrow.Author.Tests.{lt-ltb, le-ltb, eq-eqb, ne_eqb}
use lib.Dec.{eqb, ltb}
use Rattle.refusal.specs.Fault.{none, fault, refuse, ◌then◌}
use Rattle.refusal.specs.Number.{fault_at}
use Rattle.refusal.specs.declared.Refusal.{Refusal}
use Rattle.refusal.specs.declared.Refusal.TheVariants.{DifferentPoints, SharedId, TooManyTogether, TooShort}
use Rattle.std.specs.Prelude.{Result, Ok, Err}
use Rattle.refusal.proofs.Faults.{none_then, fault_then, none_refuse, fault_refuse, sound_none, faulty_fault}
use Rattle.laws.specs.Below.{any_below}
use Rattle.laws.proofs.Below.{any_hit}
use Rattle.pool.specs.Points.{point_count}
use Rattle.pool.specs.Sheet.{sheet_length, version_in, pairs_in, point_at}
use Rattle.pool.specs.Faults.{sheet_fault, room_fault}
use Rattle.pool.specs.Joining.{differ_fault, id_in_both, shared_fault, together_fault, both_fault, join_fault}
use Rattle.pool.proofs.Joined.{length_joined}

-- ## 15

module _ (a b : List ℕ) where
  -- a point k that differs
  abbrev pub differs_at : ℕ → Bool
  differs_at k = not (eqb (point_at a k) (point_at b k))

  pub differ_version : (version_in a ≡ version_in b → ⊥) → fault_at 0 (Err DifferentPoints) ≡ differ_fault a b
  unfolding fault_at differ_fault
  differ_version h = sym (fault_then _ _ (fault_refuse 15 0 _ (ap not (ne_eqb _ _ h))))

  -- of one version with so many points
  module _ (same : version_in a ≡ version_in b) (count : ℕ) (e : count ≡ point_count (version_in a)) where
    past_version : differ_fault a b ≡ refuse 15 0 (any_below count differs_at)
    unfolding differ_fault
    past_version = none_then _ _ (none_refuse 15 0 _ (ap not (eq-eqb _ _ same))) ∙ rw e

    pub differ_point : (k : ℕ) → k < count → differs_at k ≡ true → fault_at 0 (Err DifferentPoints) ≡ differ_fault a b
    unfolding fault_at
    differ_point k l h = sym (past_version ∙ fault_refuse 15 0 _ (any_hit count differs_at k l h))

    pub differ_sound : (k : ℕ) → k ≡ count → any_below k differs_at ≡ false → fault_at 0 (Ok tt) ≡ differ_fault a b
    unfolding fault_at
    differ_sound k l h = sym (past_version ∙ none_refuse 15 0 _ (ap (λ (j : ℕ). any_below j differs_at) (sym l) ∙ h))

-- ## 15, 11, 12, 9. `found` is what was found of versions and points, `again` whether an id is in both

pub both_differ : (a b : List ℕ) (space : ℕ) (found : Result Unit Refusal) → fault_at 0 found ≡ differ_fault a b → (why : Refusal) → found ≡ Err why
    → fault_at 0 (Err why) ≡ both_fault a b space
unfolding fault_at both_fault
both_differ a b space found f why g = sym (fault_then _ _ (faulty_fault 0 found f why g))

module _ (a b : List ℕ) (space : ℕ) (found : Result Unit Refusal) (f : fault_at 0 found ≡ differ_fault a b) (alike : found ≡ (Ok tt)) (again : Bool) (e : again ≡ id_in_both a b) where
  shared_is : shared_fault a b ≡ refuse 11 0 again
  unfolding shared_fault
  shared_is = ap (refuse 11 0) (sym e)

  pub both_shared : again ≡ true → fault_at 0 (Err SharedId) ≡ both_fault a b space
  unfolding fault_at both_fault
  both_shared h = sym (none_then _ _ (sound_none 0 found f alike) ∙ fault_then _ _ (shared_is ∙ fault_refuse 11 0 _ h))

  -- of sheets of n and of m pairs
  module _ (apart : again ≡ false) (n m : ℕ) (few : n ≡ pairs_in a) (more : m ≡ pairs_in b) where
    past_shared : both_fault a b space ≡ (refuse 12 0 (ltb 200 (n + m)) then room_fault space (sheet_length (version_in a) (n + m)))
    unfolding both_fault together_fault
    past_shared =
        none_then _ _ (sound_none 0 found f alike)
        ∙ none_then _ _ (shared_is ∙ none_refuse 11 0 _ apart)
        ∙ rw (length_joined, few, more)

    pub both_many : 200 < n + m → fault_at 0 (Err TooManyTogether) ≡ both_fault a b space
    unfolding fault_at
    both_many l = sym (past_shared ∙ fault_then _ _ (fault_refuse 12 0 _ (lt-ltb 200 _ l)))

    module _ (l : n + m ≤ 200) where
      past_many : both_fault a b space ≡ room_fault space (sheet_length (version_in a) (n + m))
      past_many = past_shared ∙ none_then _ _ (none_refuse 12 0 _ (le-ltb 200 _ l))

      pub both_short : space < sheet_length (version_in a) (n + m) → fault_at 0 (Err TooShort) ≡ both_fault a b space
      unfolding fault_at room_fault
      both_short s = sym (past_many ∙ fault_refuse 9 0 _ (lt-ltb space _ s))

      pub both_sound : sheet_length (version_in a) (n + m) ≤ space → fault_at 0 (Ok tt) ≡ both_fault a b space
      unfolding fault_at room_fault
      both_sound s = sym (past_many ∙ none_refuse 9 0 _ (le-ltb space _ s))

-- ## The first sheet's own, the second's own, those of both

module _ (a b : List ℕ) (space : ℕ) where
  pub first_own_lem : {k o : ℕ} → sheet_fault a ≡ fault k o → fault k o ≡ join_fault a b space
  unfolding join_fault
  first_own_lem e = sym (fault_then _ _ e)

  module _ (f : sheet_fault a ≡ none) where
    pub second_own_lem : {k o : ℕ} → sheet_fault b ≡ fault k o → fault k o ≡ join_fault a b space
    unfolding join_fault
    second_own_lem e = sym (none_then _ _ f ∙ fault_then _ _ e)

    pub none_own : sheet_fault b ≡ none → both_fault a b space ≡ join_fault a b space
    unfolding join_fault
    none_own g = sym (none_then _ _ f ∙ none_then _ _ g)
