-- One round after another. Assumes nothing.
use Prim.Native.Nat.{ℕ, zero, suc, ◌+◌, ◌-◌, ◌*◌, ◌≤◌, ◌<◌}
use mathlib.Core.List.{List, [], ◌∷◌, ◌++◌, append_assoc, append-nil}
use mathlib.Core.Path.{◌≡◌, refl, sym, ap, ap₂, subst, ◌∙◌}
use native.Mathlib.Nat.{suc-mul}
use native.Mathlib.Numerals.{add-one}
use native.Mathlib.Omega.{arith}
use lib.ListN.{length, get_or, take, set, length-set}
use lib.Seq.{take_all, take-suc-set}
use Rattle.greedy.specs.Tally as Tallies
use Rattle.greedy.specs.Tally.{raise, next_round}
use Rattle.greedy.specs.Rounds.{Chosen, clear_before, clearing_tally_before, Left, left, rounds}
use Rattle.greedy.proofs.Choosing.{choosing-tally}
use Rattle.greedy.proofs.Tallied.{clear-length}
use Rattle.exchange.specs.Subsets.{up_to_three, order, subset_count}
use Rattle.gates.specs.Counting.{counted}
use Rattle.gates.specs.declared.Tally.{Tally}
use Rattle.cursor.specs.Cursor.{places_at, shown, subset_at}
use Rattle.gates.specs.declared.SecretPlaces.{SecretPlaces}
use Rattle.cursor.proofs.Order.{some_subset}
use Rattle.cursor.proofs.Standing.{stands_all}
use Rattle.choosing.specs.Parts.{choice_of, Turn}
use Rattle.clearing.specs.Preconditions.{Clearing}
use Rattle.clearing.proofs.AllCleared.{clearing_le}
use Rattle.rounds.specs.Preconditions.{RoomFor, Rounding}

-- ## Clearing, with m rounds left

before_length : (m : ℕ) (c : List ℕ) (ss : List (List ℕ)) (ws : List ℕ) → length (clear_before m c ss ws) ≡ length ws
before_length zero c ss ws = refl
before_length (suc m) c ss ws = clear-length c ss ws

before_le : (m n : ℕ) → n ≤ 200 → (t : Tallies.Tally)
    → let u = clearing_tally_before m (order (up_to_three n)) t in (u.comparisons ≡ t.comparisons) × (u.products ≤ t.products + 3 * subset_count (up_to_three n)) × (u.rounds ≡ t.rounds)
before_le zero n few t = (refl, omega arith, refl)
before_le (suc m) n few t = clearing_le n few t

-- ## The loop of `all_rounds`, before the round k

-- choices made so far before those that the rounds left make
abbrev after : List ℕ → Left → Left
after cs rest = left rest.weights (cs ++ rest.choices) rest.tally

-- a choice before what the later rounds leave
abbrev chosen_first : ℕ → Left → Left
chosen_first i rest = left rest.weights (i ∷ rest.choices) rest.tally

after_first : (cs : List ℕ) (i : ℕ) (rest : Left) → after cs (chosen_first i rest) ≡ after (cs ++ (i ∷ [])) rest
after_first cs i rest = ap (λ (l : List ℕ). left rest.weights l rest.tally) (sym (append_assoc cs (i ∷ []) rest.choices))

pub record BeforeRound (n f : ℕ) (old first : List ℕ) (t : Tally) (weights choices : List ℕ) (u : Tally) (k : ℕ) : Type 0 where
  pub long : length weights ≡ length old
  pub wide : length choices ≡ length first
  pub same : after (take k choices) (rounds f (length first - k) (order (up_to_three n)) weights (counted u)) ≡ rounds f (length first) (order (up_to_three n)) old (counted t)
  pub room : RoomFor (length first - k) (length weights) u

module _ (n f : ℕ) (old first : List ℕ) (t : Tally) (asked : Rounding (up_to_three n) old first t) where
  pub begins : BeforeRound n f old first t old first t 0
  begins =
      let z : length first - 0 ≡ length first = omega arith in
      record {
        long = refl;
        wide = refl;
        same = ap (λ (m : ℕ). rounds f m (order (up_to_three n)) old (counted t)) z;
        room = subst (λ (m : ℕ). RoomFor m (length old) t) (sym z) asked.room;
      }

  module _ (weights choices : List ℕ) (u : Tally) (k : ℕ) (inv : BeforeRound n f old first t weights choices u k) where
    pub ends : k ≡ length first → left weights choices (counted u) ≡ rounds f (length first) (order (up_to_three n)) old (counted t)
    unfolding rounds
    ends h =
        let z : length first - k ≡ 0 = omega arith in
        ap (λ (l : List ℕ). left weights l (counted u)) (sym (append-nil choices ∙ refl) ∙ ap (λ (l : List ℕ). l ++ []) (sym (take_all k choices (omega (arith, inv.wide)))))
        ∙ ap (λ (m : ℕ). after (take k choices) (rounds f m (order (up_to_three n)) weights (counted u))) (sym z)
        ∙ inv.same

    module _ (more : k < length first) where
      whole : length weights ≡ subset_count (up_to_three n)
      whole = inv.long ∙ asked.whole

      some : 0 < length weights
      some = omega (arith, some_subset n (omega (arith, asked.all)), whole)

      -- the rounds that are left after this one
      abbrev m : ℕ
      m = length first - (k + 1)

      -- one round of those that are left
      less : (x : ℕ) → (length first - k) * x ≡ m * x + x
      less x = ap (λ (j : ℕ). j * x) suc_left ∙ suc-mul m x
        where
          suc_left : length first - k ≡ suc m
          suc_left = omega arith

      pub asks_choose : Turn (up_to_three n) weights choices k u
      asks_choose = record {
        all = record {
          few = asked.few;
          some = some;
          whole = whole;
          room = record {
            comparisons = omega (arith, inv.room.comparisons, less (length weights));
            products = omega (arith, inv.room.products, less (8 * length weights));
          };
        };
        within = omega (arith, inv.wide);
        rounds = omega (arith, inv.room.rounds);
      }

      module _ (cs : List ℕ) (v : Tally) (at : SecretPlaces)
          (ec : (cs ≡ set choices k (choice_of (up_to_three n) f weights u).number) × (counted v ≡ (choice_of (up_to_three n) f weights u).tally) × (shown at ≡ places_at (up_to_three n) (choice_of (up_to_three n) f weights u).number)) where
        raised : (v.comparisons ≡ u.comparisons + length weights) × (v.products ≡ u.products + (5 * length weights - 1)) × (v.rounds ≡ u.rounds + 1)
        unfolding raise next_round
        raised =
            let e : counted v ≡ raise (length weights) (5 * length weights - 1) (next_round (counted u)) = ec.1 ∙ choosing-tally f (order (up_to_three n)) weights (next_round (counted u)) some in
            (ap (λ (x : Tallies.Tally). x.comparisons) e, ap (λ (x : Tallies.Tally). x.products) e, ap (λ (x : Tallies.Tally). x.rounds) e)

        pub asks_clear : Clearing (up_to_three n) weights v
        asks_clear = record {
          few = asked.few;
          whole = whole;
          room = record {
            comparisons = omega (arith, inv.room.comparisons, less (length weights), raised.0);
            products = omega (arith, inv.room.products, less (8 * length weights), raised.1, some);
          };
        }

        module _ (ws : List ℕ) (w : Tally)
            (ew : (ws ≡ clear_before (length first - k - 1) (subset_at n (shown at)) (order (up_to_three n)) weights) × (counted w ≡ clearing_tally_before (length first - k - 1) (order (up_to_three n)) (counted v))) where
          m_left : length first - k - 1 ≡ m
          m_left = omega arith

          weights_are : ws ≡ clear_before m (get_or (order (up_to_three n)) (choice_of (up_to_three n) f weights u).number []) (order (up_to_three n)) weights
          weights_are = ew.0 ∙ ap₂ (λ (j : ℕ) (c : List ℕ). clear_before j c (order (up_to_three n)) weights) m_left (stands_all n (choice_of (up_to_three n) f weights u).number asked.few (shown at) ec.2)

          tally_is : counted w ≡ clearing_tally_before m (order (up_to_three n)) (choice_of (up_to_three n) f weights u).tally
          tally_is = ew.1 ∙ ap₂ (λ (j : ℕ) (x : Tallies.Tally). clearing_tally_before j (order (up_to_three n)) x) m_left ec.1

          weights_long : length ws ≡ length weights
          weights_long = ap length ew.0 ∙ before_length (length first - k - 1) (subset_at n (shown at)) (order (up_to_three n)) weights

          tally_le : (w.comparisons ≡ v.comparisons) × (w.products ≤ v.products + 3 * length weights) × (w.rounds ≡ v.rounds)
          tally_le =
              let le = before_le (length first - k - 1) n asked.few (counted v) in (
                ap (λ (x : Tallies.Tally). x.comparisons) ew.1 ∙ le.0,
                omega (arith, ap (λ (x : Tallies.Tally). x.products) ew.1, le.1, whole),
                ap (λ (x : Tallies.Tally). x.rounds) ew.1 ∙ le.2,
              )

          pub next : BeforeRound n f old first t ws cs w (k + 1)
          unfolding rounds
          next =
              let ss = order (up_to_three n) in
              let c : Chosen = choice_of (up_to_three n) f weights u in
              let z : length first - k ≡ suc m = omega arith in
              record {
                long = weights_long ∙ inv.long;
                wide = ap length ec.0 ∙ length-set choices k c.number ∙ inv.wide;
                same = ap₂ (λ (l : List ℕ) (x : Left). after l x)
                    (ap (take (k + 1)) ec.0 ∙ ap (λ (j : ℕ). take j (set choices k c.number)) (add-one k) ∙ take-suc-set choices k c.number (omega (arith, inv.wide)))
                    (ap₂ (λ (a : List ℕ) (b : Tallies.Tally). rounds f m ss a b) weights_are tally_is)
                    ∙ sym (after_first (take k choices) c.number (rounds f m ss (clear_before m (get_or ss c.number []) ss weights) (clearing_tally_before m ss c.tally)))
                    ∙ ap (λ (j : ℕ). after (take k choices) (rounds f j ss weights (counted u))) (sym z)
                    ∙ inv.same;
                room = record {
                  comparisons = omega (arith, inv.room.comparisons, less (length weights), raised.0, tally_le.0, ap (λ (x : ℕ). m * x) weights_long);
                  products = omega (arith, inv.room.products, less (8 * length weights), raised.1, tally_le.1, some, ap (λ (x : ℕ). m * (8 * x)) weights_long);
                  rounds = omega (arith, inv.room.rounds, raised.2, tally_le.2);
                };
              }
