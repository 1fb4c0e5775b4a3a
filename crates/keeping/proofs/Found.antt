-- What the checks find, as document 02's faults. Assumes nothing.
use mathlib.Core.Path.{◌≡◌, sym, ◌∙◌}
use mathlib.Core.List.{List}
use Prim.Native.Nat.{ℕ, ◌*◌, ◌≤◌, ◌<◌}
use borrow.Author.Tests.{lt-ltb, le-ltb}
use Rattle.refusal.specs.Fault.{◌then◌}
use Rattle.refusal.specs.Number.{fault_at}
use Rattle.refusal.specs.declared.Refusal.{Refusal}
use Rattle.refusal.specs.declared.Refusal.TheVariants.{TooManyPairs, TooShort}
use Rattle.std.specs.Prelude.{Result, Ok, Err}
use Rattle.refusal.proofs.Faults.{none_then, fault_then, none_refuse, fault_refuse, sound_then, faulty_then}
use Rattle.pool.specs.Faults.{room_fault, tables_fault}
use Rattle.pool.proofs.Reading.{room_none}
use Rattle.live.specs.Live.{live_version}
use Rattle.live.specs.Faults.{graph_fault, sizes_fault}
use Rattle.live.proofs.Sizes.{graph_none}

-- ## 9 of M and W

module _ (n compatibilities weights : ℕ) where
  pub rows_compatibilities : compatibilities < n * n → fault_at 0 (Err TooShort) ≡ graph_fault n compatibilities weights
  unfolding fault_at graph_fault room_fault
  rows_compatibilities l = sym (fault_then _ _ (fault_refuse 9 0 _ (lt-ltb compatibilities (n * n) l)))

  module _ (fit : n * n ≤ compatibilities) where
    pub rows_weights : weights < n * n → fault_at 0 (Err TooShort) ≡ graph_fault n compatibilities weights
    unfolding fault_at graph_fault room_fault
    rows_weights l = sym (none_then _ _ (room_none compatibilities (n * n) fit) ∙ fault_refuse 9 0 _ (lt-ltb weights (n * n) l))

    pub rows_sound : n * n ≤ weights → fault_at 0 (Ok tt) ≡ graph_fault n compatibilities weights
    unfolding fault_at
    rows_sound l = sym (graph_none n compatibilities weights fit l)

-- ## 4 and 9, one after another

module _ (n space compatibilities weights : ℕ) (points : List ℕ) where
  pub sizes_many : 200 < n → fault_at 0 (Err TooManyPairs) ≡ sizes_fault n space compatibilities weights points
  unfolding fault_at sizes_fault
  sizes_many l = sym (fault_then _ _ (fault_refuse 4 0 _ (lt-ltb 200 n l)))

  module _ (few : n ≤ 200) (found : Result Unit Refusal) (e : fault_at 0 found ≡ tables_fault live_version n space points) where
    after_many : sizes_fault n space compatibilities weights points ≡ (tables_fault live_version n space points then graph_fault n compatibilities weights)
    unfolding sizes_fault
    after_many = none_then _ _ (none_refuse 4 0 _ (le-ltb 200 n few))

    pub sizes_tables : (why : Refusal) → found ≡ Err why → fault_at 0 (Err why) ≡ sizes_fault n space compatibilities weights points
    unfolding fault_at
    sizes_tables why g = faulty_then 0 found _ _ e why g ∙ sym after_many

    pub sizes_rows : found ≡ (Ok tt) → (rows : Result Unit Refusal) → fault_at 0 rows ≡ graph_fault n compatibilities weights
        → fault_at 0 rows ≡ sizes_fault n space compatibilities weights points
    sizes_rows g rows h = sound_then 0 found _ _ e g h ∙ sym after_many
