-- A round begins, and its choice is stored. Assumes nothing.
use Prim.Native.Nat.{ℕ}
use mathlib.Core.List.{List}
use mathlib.Core.Path.{◌≡◌, ap, ◌∙◌}
use native.Mathlib.Omega.{arith}
use Rattle.greedy.specs.Tally as Tallies
use Rattle.greedy.specs.Tally.{next_round}
use Rattle.greedy.specs.Rounds as Rounds
use Rattle.greedy.specs.Rounds.{choosing}
use Rattle.exchange.specs.Subsets.{up_to_three, order}
use Rattle.gates.specs.Counting.{counted}
use Rattle.gates.specs.Secrets.{value_of}
use Rattle.gates.specs.declared.Gated.{Gated}
use Rattle.gates.specs.declared.Tally.{Tally}
use Rattle.cursor.specs.Cursor.{places_at, shown}
use Rattle.choosing.specs.Parts.{choice_made, choice_of, Whole, Turn}
use Rattle.choosing.specs.declared.Chosen.{Chosen}

module _ (n : ℕ) (ws cs : List ℕ) (k : ℕ) (t : Tally) (asked : Turn (up_to_three n) ws cs k t) (v : Tally) (ev : counted v ≡ next_round (counted t)) where
  pub asks_choice : Whole (up_to_three n) ws v
  unfolding next_round
  asks_choice = record {
    few = asked.all.few;
    some = asked.all.some;
    whole = asked.all.whole;
    room = record {
      comparisons = omega (arith, asked.all.room.comparisons, ap (λ (x : Tallies.Tally). x.comparisons) ev);
      products = omega (arith, asked.all.room.products, ap (λ (x : Tallies.Tally). x.products) ev);
    };
  }

  module _ (f : ℕ) (c : Gated Chosen) (ec : (choice_made c ≡ choosing f (order (up_to_three n)) ws (counted v)) × (shown c.value.at ≡ places_at (up_to_three n) (value_of c.value.number))) where
    chosen_is : choice_made c ≡ choice_of (up_to_three n) f ws t
    chosen_is = ec.0 ∙ ap (choosing f (order (up_to_three n)) ws) ev

    number_is : value_of c.value.number ≡ (choice_of (up_to_three n) f ws t).number
    number_is = ap (λ (x : Rounds.Chosen). x.number) chosen_is
