-- "Reading goes forward, field by field": which fault a sheet has, by how far the search came. Assumes nothing.
use mathlib.Core.Path.{◌≡◌, sym, ◌∙◌}
use mathlib.Core.List.{List}
use Prim.Native.Nat.{ℕ, ◌≤◌, ◌<◌}
use borrow.Author.Tests.{lt-ltb, le-ltb}
use lib.ListN.{length}
use Rattle.refusal.specs.Fault.{none, fault, ◌then◌, first_below}
use Rattle.refusal.proofs.Faults.{none_then, fault_then, none_refuse, fault_refuse}
use Rattle.pool.specs.Sheet.{version_in, pairs_in, sheet_length}
use Rattle.pool.specs.Faults.{head_fault, points_field_fault, pair_field_fault, shuffle_field_fault, end_fault, sheet_fault}

-- ## The sheet: the head, which says n pairs, the points, the pairs, the shuffle, and 5

pub at_head : (b : List ℕ) {k o : ℕ} → head_fault b ≡ fault k o → fault k o ≡ sheet_fault b
unfolding sheet_fault
at_head b e = sym (fault_then _ _ e)

pub at_points : (b : List ℕ) {k o : ℕ} → head_fault b ≡ none → points_field_fault b ≡ fault k o → fault k o ≡ sheet_fault b
unfolding sheet_fault
at_points b h e = sym (none_then _ _ h ∙ fault_then _ _ e)

module _ (b : List ℕ) (n : ℕ) (many : n ≡ pairs_in b) (h : head_fault b ≡ none) (q : points_field_fault b ≡ none) where
  past_points : sheet_fault b ≡ (first_below n (pair_field_fault b) then shuffle_field_fault b n then end_fault b n)
  unfolding sheet_fault
  past_points = rw (← many) (none_then _ _ h ∙ none_then _ _ q)

  pub at_pairs : {k o : ℕ} → first_below n (pair_field_fault b) ≡ fault k o → fault k o ≡ sheet_fault b
  at_pairs e = sym (past_points ∙ fault_then _ _ e)

  module _ (p : first_below n (pair_field_fault b) ≡ none) where
    past_pairs : sheet_fault b ≡ (shuffle_field_fault b n then end_fault b n)
    past_pairs = past_points ∙ none_then _ _ p

    pub at_shuffle : {k o : ℕ} → shuffle_field_fault b n ≡ fault k o → fault k o ≡ sheet_fault b
    at_shuffle e = sym (past_pairs ∙ fault_then _ _ e)

    module _ (s : shuffle_field_fault b n ≡ none) where
      pub left_over : sheet_length (version_in b) n < length b → fault 5 (sheet_length (version_in b) n) ≡ sheet_fault b
      unfolding end_fault
      left_over l = sym (past_pairs ∙ none_then _ _ s ∙ fault_refuse 5 _ _ (lt-ltb _ _ l))

      pub nothing_over : length b ≤ sheet_length (version_in b) n → none ≡ sheet_fault b
      unfolding end_fault
      nothing_over l = sym (past_pairs ∙ none_then _ _ s ∙ none_refuse 5 _ _ (le-ltb _ _ l))
