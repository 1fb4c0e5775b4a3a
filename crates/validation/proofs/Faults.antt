-- What the checks find. Assumes nothing.
use Prim.Native.Nat.{ℕ, ◌*◌, ◌≤◌, ◌<◌}
use mathlib.Core.Bool.{Bool, true, false, not}
use mathlib.Core.List.{List}
use mathlib.Core.Path.{◌≡◌, sym, ap, ◌∙◌}
use borrow.Author.Tests.{lt-ltb, le-ltb, eq-eqb, ne_eqb, ltb-false}
use lib.Dec.{eqb, ltb}
use lib.ListN.{length, get_or}
use Rattle.laws.specs.Below.{either, any_below}
use Rattle.refusal.specs.Fault.{Fault, none, fault, refuse, ◌then◌}
use Rattle.refusal.specs.Number.{fault_at}
use Rattle.refusal.specs.declared.Refusal.{Refusal}
use Rattle.std.specs.Prelude.{Result, Ok, Err}
use Rattle.refusal.proofs.Faults.{refuse_none, none_refuse, fault_refuse, then_none, then_assoc, none_then, fault_then, sound_none, faulty_fault}
use Rattle.pool.specs.Faults.{shuffle_fault, room_fault}
use Rattle.exchange.specs.Subsets.{entry}
use Rattle.exchange.specs.Input.{Request}
use Rattle.exchange.specs.Planning.{Lengths, most_floor, short_to_read, short_to_fill, table_fault, weightless, edge_fault, plan_fault}

-- ## 4, 13 and 9

pub many : (n : ℕ) (g : Fault) → 200 < n → fault 4 0 ≡ (refuse 4 0 (ltb 200 n) then g)
many n g h = sym (fault_then _ g (fault_refuse 4 0 _ (lt-ltb 200 n h)))

pub not_many : (n : ℕ) (g : Fault) → n ≤ 200 → g ≡ (refuse 4 0 (ltb 200 n) then g)
not_many n g h = sym (none_then _ g (none_refuse 4 0 _ (le-ltb 200 n h)))

pub high : (f : ℕ) (g : Fault) → most_floor < f → fault 13 0 ≡ (refuse 13 0 (ltb most_floor f) then g)
high f g h = sym (fault_then _ g (fault_refuse 13 0 _ (lt-ltb most_floor f h)))

pub not_high : (f : ℕ) (g : Fault) → f ≤ most_floor → g ≡ (refuse 13 0 (ltb most_floor f) then g)
not_high f g h = sym (none_then _ g (none_refuse 13 0 _ (le-ltb most_floor f h)))

pub short : (space due : ℕ) → space < due → fault 9 0 ≡ room_fault space due
unfolding room_fault
short space due h = sym (fault_refuse 9 0 _ (lt-ltb space due h))

pub long : (space due : ℕ) → due ≤ space → none ≡ room_fault space due
unfolding room_fault
long space due h = sym (none_refuse 9 0 _ (le-ltb space due h))

-- the first of two, and the second after none
pub first : (f g : Fault) → fault 9 0 ≡ f → fault 9 0 ≡ (f then g)
first f g e = sym (fault_then f g (sym e))

pub second : (f g h : Fault) → none ≡ f → h ≡ g → h ≡ (f then g)
second f g h e d = d ∙ sym (none_then f g (sym e))

-- ## 10, row by row

module _ (n : ℕ) (M : List ℕ) where
  -- row i has a fault
  abbrev pub bad : ℕ → Bool
  bad i = either (any_below n (λ j. ltb 1 (entry M n i j))) (not (eqb (entry M n i i) 0))

  pub hit : any_below n bad ≡ true → fault 10 0 ≡ table_fault n M
  unfolding table_fault
  hit e = sym (fault_refuse 10 0 _ e)

  pub clean : any_below n bad ≡ false → none ≡ table_fault n M
  unfolding table_fault
  clean e = sym (none_refuse 10 0 _ e)

-- ## 17, edge by edge and row by row

module _ (n : ℕ) (M W : List ℕ) where
  -- x is M(i, j)
  module _ (i j x : ℕ) (ex : x ≡ entry M n i j) where
    pub absent : (x ≡ 1 → ⊥) → false ≡ weightless n M W i j
    absent h = rw (ne_eqb (entry M n i j) 1 (λ e. h (ex ∙ e)))

    pub present : x ≡ 1 → (y : ℕ) → y ≡ entry W n i j → eqb y 0 ≡ weightless n M W i j
    present h y ey = rw (eq-eqb (entry M n i j) 1 (sym ex ∙ h), ey)

  -- row i has a weightless edge
  abbrev pub light : ℕ → Bool
  light i = any_below n (weightless n M W i)

  pub light_hit : any_below n light ≡ true → fault 17 0 ≡ edge_fault n M W
  unfolding edge_fault
  light_hit e = sym (fault_refuse 17 0 _ e)

  pub light_clean : any_below n light ≡ false → none ≡ edge_fault n M W
  unfolding edge_fault
  light_clean e = sym (none_refuse 17 0 _ e)

-- ## The checks, one after another: `a`, `b` and `c` are what each found

-- of the tables that are read, by their lengths
module _ (n f m w s : ℕ) (a : Result Unit Refusal) (ea : fault_at 0 a ≡ (refuse 4 0 (ltb 200 n) then refuse 13 0 (ltb most_floor f) then short_to_read n m w s)) (ga : a ≡ (Ok tt)) where
  read : (refuse 4 0 (ltb 200 n) then refuse 13 0 (ltb most_floor f) then short_to_read n m w s) ≡ none
  read = sound_none 0 a ea ga

  pub read_few : n ≤ 200
  read_few = ltb-false 200 n (refuse_none 4 0 _ (then_none _ _ read).0)

  lengths : short_to_read n m w s ≡ none
  lengths = (then_none _ _ (then_none _ _ read).1).1

  room : (space due : ℕ) → room_fault space due ≡ none → due ≤ space
  unfolding room_fault
  room space due e = ltb-false space due (refuse_none 9 0 _ e)

  -- M and W are there
  pub read-tables : (n ≤ 200) × (n * n ≤ m) × (n * n ≤ w)
  unfolding short_to_read
  read-tables = (read_few, room _ _ (then_none _ _ lengths).0, room _ _ (then_none _ _ (then_none _ _ lengths).1).0)

  pub read_shuffle : n ≤ s
  unfolding short_to_read
  read_shuffle = room _ _ (then_none _ _ (then_none _ _ lengths).1).1

-- the faults that are looked for by the numbers and lengths alone, of what is read
abbrev to_read : Request → Fault
to_read r =
    refuse 4 0 (ltb 200 r.scope.pairs)
    then refuse 13 0 (ltb most_floor r.floor)
    then short_to_read r.scope.pairs (length r.compatibilities) (length r.weights) (length r.shuffle)

module _ (r : Request) (z : Lengths) (a : Result Unit Refusal) (ea : fault_at 0 a ≡ to_read r) where
  abbrev later : Fault
  later =
      shuffle_fault 0 r.scope.pairs (λ j. get_or r.shuffle j 0)
      then table_fault r.scope.pairs r.compatibilities
      then edge_fault r.scope.pairs r.compatibilities r.weights

  in_two : plan_fault r z ≡ (to_read r then short_to_fill r.scope z then later)
  unfolding plan_fault
  in_two = ap (λ (f : Fault). refuse 4 0 (ltb 200 r.scope.pairs) then f) (sym (then_assoc _ _ _)) ∙ sym (then_assoc _ _ _)

  pub judge_read : (why : Refusal) → a ≡ Err why → fault_at 0 (Err why) ≡ plan_fault r z
  unfolding fault_at
  judge_read why g = sym (in_two ∙ fault_then _ _ (faulty_fault 0 a ea why g))

  module _ (ga : a ≡ (Ok tt)) (b : Result Unit Refusal) (eb : fault_at 0 b ≡ short_to_fill r.scope z) where
    after_read : plan_fault r z ≡ (short_to_fill r.scope z then later)
    after_read = in_two ∙ none_then _ _ (sound_none 0 a ea ga)

    pub judge_fill : (why : Refusal) → b ≡ Err why → fault_at 0 (Err why) ≡ plan_fault r z
    unfolding fault_at
    judge_fill why g = sym (after_read ∙ fault_then _ _ (faulty_fault 0 b eb why g))

    module _ (gb : b ≡ (Ok tt)) (c : Result Unit Refusal) (ec : fault_at 0 c ≡ shuffle_fault 0 r.scope.pairs (λ j. get_or r.shuffle j 0)) where
      after_fill : plan_fault r z ≡ later
      after_fill = after_read ∙ none_then _ _ (sound_none 0 b eb gb)

      pub judge_shuffle : (why : Refusal) → c ≡ Err why → fault_at 0 (Err why) ≡ plan_fault r z
      unfolding fault_at
      judge_shuffle why g = sym (after_fill ∙ fault_then _ _ (faulty_fault 0 c ec why g))

      module _ (gc : c ≡ (Ok tt)) (d : Result Unit Refusal) (ed : fault_at 0 d ≡ table_fault r.scope.pairs r.compatibilities) where
        after_shuffle : plan_fault r z ≡ (table_fault r.scope.pairs r.compatibilities then edge_fault r.scope.pairs r.compatibilities r.weights)
        after_shuffle = after_fill ∙ none_then _ _ (sound_none 0 c ec gc)

        pub judge_table : (why : Refusal) → d ≡ Err why → fault_at 0 (Err why) ≡ plan_fault r z
        unfolding fault_at
        judge_table why g = sym (after_shuffle ∙ fault_then _ _ (faulty_fault 0 d ed why g))

        pub judge_edges : d ≡ (Ok tt) → (e : Result Unit Refusal) → fault_at 0 e ≡ edge_fault r.scope.pairs r.compatibilities r.weights → fault_at 0 e ≡ plan_fault r z
        judge_edges gd e ee = ee ∙ sym (after_shuffle ∙ none_then _ _ (sound_none 0 d ed gd))
