-- The winner of a part, as `choose_part` finds it. Assumes nothing.
use Prim.Native.Nat.{ℕ, ◌+◌, ◌-◌, ◌*◌, ◌/◌, ◌≤◌, ◌<◌}
use mathlib.Core.Bool.{Bool, true, false, cond}
use mathlib.Core.List.{List}
use mathlib.Core.Path.{◌≡◌, sym, ap, ◌∙◌}
use native.Mathlib.Omega.{arith}
use lib.Dec.{ltb}
use lib.ListN.{length, get_or, take, drop}
use Rattle.greedy.specs.Rounds.{Winner, winner, join}
use Rattle.greedy.specs.Tally.{raise}
use Rattle.exchange.specs.Subsets.{up_to_three}
use Rattle.gates.specs.Counting.{counted, Raised, TallyRoom}
use Rattle.gates.specs.Secrets.{value_of}
use Rattle.gates.specs.declared.Gated.{Gated}
use Rattle.gates.specs.declared.Secret.{Secret}
use Rattle.gates.specs.declared.SecretPlaces.{SecretPlaces}
use Rattle.gates.specs.declared.Tally.{Tally}
use Rattle.gates.proofs.Gates.{raised}
use Rattle.cursor.specs.Cursor.{OnSubset, places_at, next_places, shown}
use Rattle.cursor.specs.declared.Places.{Places}
use Rattle.cursor.proofs.Number.{count_le}
use Rattle.cursor.proofs.Order.{in_range_lem}
use Rattle.cursor.proofs.Following.{goes_on}
use Rattle.choosing.specs.Parts.{won_by, Standing, Part}
use Rattle.choosing.specs.declared.Best.{Best}
use Rattle.choosing.specs.declared.Won.{Won}
use Rattle.choosing.proofs.Halves.{won, one_left, halved, length-left, length_right, right_is, won_comparisons, won_products}

-- the right half of a slice
abbrev pub right_of : List ℕ → List ℕ
right_of ws = take (length ws - length ws / 2) (drop (length ws / 2) ws)

pub right_length : (ws : List ℕ) → length (right_of ws) ≡ length ws - length ws / 2
right_length ws = ap length (right_is ws) ∙ length_right ws

-- what `choose_part` ensures of a part whose first number is i
abbrev pub Ensured : ℕ → List ℕ → ℕ → Tally → Gated Won → Type 0
Ensured n ws i t r = (won_by r ≡ won i ws (counted t)) × (shown r.value.best.at ≡ places_at (up_to_three n) (value_of r.value.best.number)) × (r.value.next ≡ places_at (up_to_three n) (i + length ws))

-- ## One subset

module _ (n i : ℕ) (p : Places) (asked : Standing (up_to_three n) i p) where
  pub ranged : OnSubset n p
  ranged = in_range_lem n i asked.few asked.within p asked.there

  pub number_few : i < 1333333
  number_few = omega (arith, asked.within, count_le n asked.few)

  pub is_single : (w k : Secret) (at : SecretPlaces) → value_of k ≡ i → shown at ≡ p
      → (next : Places) → next ≡ next_places (up_to_three n) p → (t : Tally)
      → (winner (value_of w) (value_of k) (counted t) ≡ winner (value_of w) i (counted t)) × (shown at ≡ places_at (up_to_three n) i) × (next ≡ places_at (up_to_three n) (i + 1))
  is_single w k at ek ea next e t = (
    ap (λ (x : ℕ). winner (value_of w) x (counted t)) ek,
    ea ∙ asked.there,
    e ∙ goes_on n asked.few i asked.within p asked.there,
  )

-- ## A part

module _ (n : ℕ) (ws : List ℕ) (i : ℕ) (p : Places) (t : Tally) (asked : Part (up_to_three n) ws i p t) where
  pub index_few : i + length ws ≤ 1333333
  index_few = omega (arith, asked.within, count_le n asked.few)

  -- one weight
  pub one-weight : length ws ≤ 1 → (w : Secret) → value_of w ≡ get_or ws 0 0
      → (r : Gated Won) → (won_by r ≡ winner (value_of w) i (counted t)) × (shown r.value.best.at ≡ places_at (up_to_three n) i) × (r.value.next ≡ places_at (up_to_three n) (i + 1)) → Ensured n ws i t r
  one-weight h w ew r e =
      let l : 1 ≡ length ws = omega (arith, asked.some) in (
        e.0 ∙ ap (λ (x : ℕ). winner x i (counted t)) ew ∙ one_left i ws (counted t) asked.some h,
        e.1 ∙ ap (places_at (up_to_three n)) (sym (ap (λ (x : Winner). x.number) e.0)),
        e.2 ∙ ap (λ (k : ℕ). places_at (up_to_three n) (i + k)) l,
      )

  module _ (more : 1 < length ws) where
    pub asks_left : Part (up_to_three n) (take (length ws / 2) ws) i p t
    asks_left = record {
      few = asked.few;
      some = omega (arith, length-left ws);
      within = omega (arith, asked.within, length-left ws);
      there = asked.there;
      room = record { comparisons = omega (arith, asked.room.comparisons, length-left ws); products = omega (arith, asked.room.products, length-left ws) };
    }

    module _ (l : Gated Won) (el : Ensured n (take (length ws / 2) ws) i t l) where
      left_comparisons : l.tally.comparisons ≡ t.comparisons + (length ws / 2 - 1)
      left_comparisons =
          ap (λ (w : Winner). w.tally.comparisons) el.0
          ∙ won_comparisons i (take (length ws / 2) ws) (counted t) asks_left.some ∙ ap (λ (k : ℕ). t.comparisons + (k - 1)) (length-left ws)

      left_products : l.tally.products ≡ t.products + 5 * (length ws / 2 - 1)
      left_products =
          ap (λ (w : Winner). w.tally.products) el.0
          ∙ won_products i (take (length ws / 2) ws) (counted t) asks_left.some ∙ ap (λ (k : ℕ). t.products + 5 * (k - 1)) (length-left ws)

      pub asks_right : Part (up_to_three n) (right_of ws) (i + length ws / 2) l.value.next l.tally
      asks_right = record {
        few = asked.few;
        some = omega (arith, right_length ws);
        within = omega (arith, asked.within, right_length ws);
        there = el.2 ∙ ap (λ (k : ℕ). places_at (up_to_three n) (i + k)) (length-left ws);
        room = record {
          comparisons = omega (arith, asked.room.comparisons, right_length ws, left_comparisons);
          products = omega (arith, asked.room.products, right_length ws, left_products);
        };
      }

      module _ (r : Gated Won) (er : Ensured n (right_of ws) (i + length ws / 2) l.tally r) where
        right_comparisons : r.tally.comparisons ≡ l.tally.comparisons + (length (right_of ws) - 1)
        right_comparisons =
            ap (λ (w : Winner). w.tally.comparisons) er.0 ∙ won_comparisons (i + length ws / 2) (right_of ws) (counted l.tally) asks_right.some

        right_products : r.tally.products ≡ l.tally.products + 5 * (length (right_of ws) - 1)
        right_products =
            ap (λ (w : Winner). w.tally.products) er.0 ∙ won_products (i + length ws / 2) (right_of ws) (counted l.tally) asks_right.some

        pub join-room : TallyRoom 1 5 r.tally
        join-room = record {
          comparisons = omega (arith, asked.room.comparisons, right_length ws, left_comparisons, right_comparisons);
          products = omega (arith, asked.room.products, right_length ws, left_products, right_products);
        }

        winners_are : join (won_by l) (won_by r) ≡ won i ws (counted t)
        winners_are =
            ap (λ (w : Winner). join w (won_by r)) el.0
            ∙ ap (join (won i (take (length ws / 2) ws) (counted t)))
            (er.0 ∙ ap (λ (x : List ℕ). won (i + length ws / 2) x (counted l.tally)) (right_is ws)
            ∙ ap (λ (w : Winner). won (i + length ws / 2) (drop (length ws / 2) ws) w.tally) el.0)
            ∙ halved i ws (counted t) more

        pub both : (b : Best) → b ≡ cond (ltb (value_of l.value.best.weight) (value_of r.value.best.weight)) r.value.best l.value.best → (u : Tally) → Raised 1 5 r.tally u
            → Ensured n ws i t (record { value = record { best = b; next = r.value.next }; tally = u })
        unfolding join
        both b eb u eu = (
          by_case (ltb (value_of l.value.best.weight) (value_of r.value.best.weight)) eb ∙ winners_are,
          at_case (ltb (value_of l.value.best.weight) (value_of r.value.best.weight)) eb,
          er.2 ∙ ap (places_at (up_to_three n)) (omega (arith, right_length ws)),
        )
          where
            by_case : (z : Bool) → b ≡ cond z r.value.best l.value.best
                → winner (value_of b.weight) (value_of b.number) (counted u)
                ≡ winner (cond z (value_of r.value.best.weight) (value_of l.value.best.weight)) (cond z (value_of r.value.best.number) (value_of l.value.best.number)) (raise 1 5 (counted r.tally))
            by_case true e = ap (λ (x : Best). winner (value_of x.weight) (value_of x.number) (counted u)) e ∙ ap (winner (value_of r.value.best.weight) (value_of r.value.best.number)) (raised 1 5 r.tally u eu)
            by_case false e = ap (λ (x : Best). winner (value_of x.weight) (value_of x.number) (counted u)) e ∙ ap (winner (value_of l.value.best.weight) (value_of l.value.best.number)) (raised 1 5 r.tally u eu)

            at_case : (z : Bool) → b ≡ cond z r.value.best l.value.best → shown b.at ≡ places_at (up_to_three n) (value_of b.number)
            at_case true e = ap (λ (x : Best). shown x.at) e ∙ er.1 ∙ ap (λ (x : Best). places_at (up_to_three n) (value_of x.number)) (sym e)
            at_case false e = ap (λ (x : Best). shown x.at) e ∙ el.1 ∙ ap (λ (x : Best). places_at (up_to_three n) (value_of x.number)) (sym e)
