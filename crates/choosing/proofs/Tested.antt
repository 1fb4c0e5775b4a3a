-- The final test, and the choice. Assumes nothing.
use Prim.Native.Nat.{ℕ}
use mathlib.Core.Bool.{Bool, true, false, cond}
use mathlib.Core.List.{List}
use mathlib.Core.Path.{◌≡◌, refl, sym, ap, ◌∙◌}
use native.Mathlib.Omega.{arith}
use lib.Dec.{eqb, ltb}
use lib.ListN.{length}
use Rattle.laws.specs.Below.{one}
use Rattle.greedy.specs.Tally as Tallies
use Rattle.greedy.specs.Tally.{raise}
use Rattle.greedy.specs.Rounds as Rounds
use Rattle.greedy.specs.Rounds.{Winner, choosing}
use Rattle.exchange.specs.Subsets.{up_to_three, order, subset_count}
use Rattle.gates.specs.Counting.{counted, Raised, TallyRoom}
use Rattle.gates.specs.Secrets.{value_of}
use Rattle.gates.specs.declared.Gated.{Gated}
use Rattle.gates.specs.declared.Tally.{Tally}
use Rattle.gates.proofs.Gates.{pick_by, raised}
use Rattle.cursor.specs.Cursor.{places, shown, places_at}
use Rattle.cursor.proofs.Order.{past as none-past}
use Rattle.choosing.specs.Parts.{choice_made, Whole}
use Rattle.choosing.specs.declared.Best.{Best}
use Rattle.choosing.specs.declared.Won.{Won}
use Rattle.choosing.specs.declared.Chosen.{Chosen}
use Rattle.choosing.proofs.Halves.{won_comparisons, won_products}
use Rattle.choosing.proofs.Winners.{Ensured}

pub places_are : {u u' v v' w w' : ℕ} → u ≡ u' → v ≡ v' → w ≡ w' → places u v w ≡ places u' v' w'
places_are e f g = cc

chosens : {i i' : ℕ} {t t' : Tallies.Tally} → i ≡ i' → t ≡ t' → ◌≡◌ {A = Rounds.Chosen} (record { number = i; tally = t }) (record { number = i'; tally = t' })
chosens e f = cc

module _ (n : ℕ) (ws : List ℕ) (t : Tally) (asked : Whole (up_to_three n) ws t) where
  module _ (r : Gated Won) (er : Ensured n ws 0 t r) where
    pub room_test : TallyRoom 1 4 r.tally
    room_test = record {
      comparisons = omega (
        arith,
        asked.room.comparisons,
        asked.some,
        ap (λ (w : Winner). w.tally.comparisons) er.0 ∙ won_comparisons 0 ws (counted t) asked.some,
      );
      products = omega (
        arith,
        asked.room.products,
        asked.some,
        ap (λ (w : Winner). w.tally.products) er.0 ∙ won_products 0 ws (counted t) asked.some,
      );
    }

    pub chosen : (f : ℕ) (c : Gated Chosen) → value_of c.value.number ≡ cond (ltb f (value_of r.value.best.weight)) (value_of r.value.best.number) (length ws)
        → shown c.value.at ≡ cond (ltb f (value_of r.value.best.weight)) (shown r.value.best.at) (places n n n) → Raised 1 4 r.tally c.tally
        → (choice_made c ≡ choosing f (order (up_to_three n)) ws (counted t)) × (shown c.value.at ≡ places_at (up_to_three n) (value_of c.value.number))
    unfolding choosing
    chosen f c ei ea es = (
      chosens
          (ei ∙ ap (λ (k : ℕ). cond (ltb f (value_of r.value.best.weight)) (value_of r.value.best.number) k) asked.whole
          ∙ ap (λ (x : Winner). cond (ltb f x.weight) x.number (subset_count (up_to_three n))) er.0)
          (raised 1 4 r.tally c.tally es ∙ ap (λ (x : Winner). raise 1 4 x.tally) er.0),
      ea ∙ go (ltb f (value_of r.value.best.weight)) ei,
    )
      where
        go : (b : Bool) → value_of c.value.number ≡ cond b (value_of r.value.best.number) (length ws)
            → cond b (shown r.value.best.at) (places n n n) ≡ places_at (up_to_three n) (value_of c.value.number)
        go true e = er.1 ∙ ap (places_at (up_to_three n)) (sym e)
        go false e = sym (none-past n (value_of c.value.number) (omega (arith, asked.whole)))

-- ## The test by gates

module _ (n f none : ℕ) (best : Best) (floor bit : ℕ) (ef : floor ≡ f) (eb : bit ≡ one (ltb floor (value_of best.weight))) where
  above : Bool
  above = ltb f (value_of best.weight)

  by : (x y y' k : ℕ) → k ≡ cond (eqb bit 1) x y' → y' ≡ y → k ≡ cond above x y
  unfolding above
  by x y y' k e ey =
      pick_by above bit x y k (eb ∙ ap (λ (z : ℕ). one (ltb z (value_of best.weight))) ef) (e ∙ ap (cond (eqb bit 1) x) ey)

  pub number_is : (past i : ℕ) → past ≡ none → i ≡ cond (eqb bit 1) (value_of best.number) past → i ≡ cond (ltb f (value_of best.weight)) (value_of best.number) none
  unfolding above
  number_is past i ep ei = by _ _ _ i ei ep

  pub places_are_tested : (nowhere u v w : ℕ) → nowhere ≡ n
      → u ≡ cond (eqb bit 1) (value_of best.at.u) nowhere → v ≡ cond (eqb bit 1) (value_of best.at.v) nowhere → w ≡ cond (eqb bit 1) (value_of best.at.w) nowhere
      → places u v w ≡ cond (ltb f (value_of best.weight)) (shown best.at) (places n n n)
  unfolding above
  places_are_tested nowhere u v w en eu ev ew = places_are (by _ _ _ u eu en) (by _ _ _ v ev en) (by _ _ _ w ew en) ∙ go above
    where
      go : (b : Bool) → places (cond b (value_of best.at.u) n) (cond b (value_of best.at.v) n) (cond b (value_of best.at.w) n) ≡ cond b (shown best.at) (places n n n)
      go true = refl
      go false = refl
