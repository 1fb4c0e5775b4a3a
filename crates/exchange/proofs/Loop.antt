-- The rounds over a full table choose what Algorithm 1's loop over a shrinking set chooses. Assumes nothing.
use Prim.Native.Nat.{ℕ, zero, suc, ◌≤◌, ◌<◌, max}
use mathlib.Core.Bool.{Bool, true, false, cond}
use mathlib.Core.List.{List, [], ◌∷◌, map, Memᴰ}
use mathlib.Core.Path.{◌≡◌, refl, sym, ap, ap₂, ◌∙◌}
use native.Mathlib.Omega.{arith}
use native.Mathlib.Decide.{dec_lt}
use lib.Dec.{eqb, ltb}
use lib.ListN.{length, get_or, length-map, get_or-eq_default}
use borrow.Author.Tests.{ltb-true, ltb-false, lt-ltb, le-ltb, eqb-false, eq-eqb, ne_eqb}
use Rattle.laws.specs.Below.{either}
use Rattle.greedy.specs.Places.{meets}
use Rattle.greedy.specs.Rounds.{clear}
use Rattle.greedy.specs.Promises.{first_at, greatest, choice, picks, cleared}
use Rattle.greedy.proofs.Counts.{meets_sym}
use Rattle.greedy.proofs.Choosing.{greatest_first}
use Rattle.exchange.specs.Subsets.{first_of, heaviest}
use Rattle.exchange.specs.Rivals.{Each}
use Rattle.exchange.specs.Algorithm1.{some_above, without, Loop, loop}

-- ---- what is left of S, and the table with 0 for what is not

keep : (List ℕ → Bool) → List (List ℕ) → List (List ℕ)
keep live [] = []
keep live (s ∷ ss) = cond (live s) (s ∷ keep live ss) (keep live ss)

module _ (weight : List ℕ → ℕ) where
  zeroed : (List ℕ → Bool) → List (List ℕ) → List ℕ
  zeroed live ss = map (λ (s : List ℕ). cond (live s) (weight s) 0) ss

  greatest_kept : (live : List ℕ → Bool) (ss : List (List ℕ)) → greatest (map weight (keep live ss)) ≡ greatest (zeroed live ss)
  unfolding keep zeroed greatest
  greatest_kept live [] = refl
  greatest_kept live (s ∷ ss) = go (live s) (greatest_kept live ss)
    where
      go : (b : Bool) → greatest (map weight (keep live ss)) ≡ greatest (zeroed live ss)
          → greatest (map weight (cond b (s ∷ keep live ss) (keep live ss))) ≡ max (cond b (weight s) 0) (greatest (zeroed live ss))
      go true e = omega arith
      go false e = omega arith

  -- line 7's test is that of the greatest weight
  above_greatest : (f : ℕ) (S : List (List ℕ)) → some_above f weight S ≡ ltb f (greatest (map weight S))
  unfolding some_above greatest either
  above_greatest f [] = sym (le-ltb f 0 (omega arith))
  above_greatest f (s ∷ S) = go (ltb f (weight s)) refl (above_greatest f S)
    where
      go : (b : Bool) → ltb f (weight s) ≡ b → some_above f weight S ≡ ltb f (greatest (map weight S))
          → either b (some_above f weight S) ≡ ltb f (max (weight s) (greatest (map weight S)))
      go true e h = sym (lt-ltb f (max (weight s) (greatest (map weight S))) (omega (arith, ltb-true f (weight s) e)))
      go false e h = elim (dec_lt f (greatest (map weight S))) [
        | yes k ↦ h ∙ lt-ltb f (greatest (map weight S)) k ∙ sym (lt-ltb f (max (weight s) (greatest (map weight S))) (omega arith))
        | no k ↦ h ∙ le-ltb f (greatest (map weight S)) (omega arith) ∙ sym (le-ltb f (max (weight s) (greatest (map weight S))) (omega (arith, ltb-false f (weight s) e)))
      ]

  -- the first of weight g
  hit : ℕ → List (List ℕ) → List ℕ
  hit g [] = []
  hit g (s ∷ S) = cond (eqb g (weight s)) s (hit g S)

  first_of_hit : (g : ℕ) (a : List ℕ) (bs : List (List ℕ)) → max (weight a) (greatest (map weight bs)) ≡ g
      → first_of weight a bs ≡ cond (eqb g (weight a)) a (hit g bs)
  unfolding first_of hit greatest
  first_of_hit g a [] e = rw (eq-eqb g (weight a) (omega arith))
  first_of_hit g a (b ∷ bs) e = go (ltb (weight a) (weight b)) refl (λ d h. first_of_hit g d bs h)
    where
      go : (t : Bool) → ltb (weight a) (weight b) ≡ t
          → ((d : List ℕ) → max (weight d) (greatest (map weight bs)) ≡ g → first_of weight d bs ≡ cond (eqb g (weight d)) d (hit g bs))
          → first_of weight (cond t b a) bs ≡ cond (eqb g (weight a)) a (cond (eqb g (weight b)) b (hit g bs))
      go true q ih = rw (ne_eqb g (weight a) (λ z. omega (arith, ltb-true (weight a) (weight b) q))) (ih b (omega (arith, ltb-true (weight a) (weight b) q)))
      go false q ih = ih a (omega (arith, ltb-false (weight a) (weight b) q)) ∙ tie (eqb g (weight a)) refl
        where
          tie : (z : Bool) → eqb g (weight a) ≡ z → cond z a (hit g bs) ≡ cond z a (cond (eqb g (weight b)) b (hit g bs))
          tie true y = refl
          tie false y = rw (ne_eqb g (weight b) (λ x. eqb-false g (weight a) y (omega (arith, ltb-false (weight a) (weight b) q))))

  heaviest_hit : (S : List (List ℕ)) → heaviest weight S ≡ hit (greatest (map weight S)) S
  unfolding heaviest hit greatest
  heaviest_hit [] = refl
  heaviest_hit (s ∷ S) = first_of_hit (max (weight s) (greatest (map weight S))) s S refl

  hit_first : (g : ℕ) (live : List ℕ → Bool) (ss : List (List ℕ)) → 0 < g → hit g (keep live ss) ≡ get_or ss (first_at g (zeroed live ss)) []
  unfolding hit keep zeroed first_at
  hit_first g live [] h = refl
  hit_first g live (s ∷ ss) h = go (live s) (hit_first g live ss h)
    where
      go : (b : Bool) → hit g (keep live ss) ≡ get_or ss (first_at g (zeroed live ss)) []
          → hit g (cond b (s ∷ keep live ss) (keep live ss)) ≡ get_or (s ∷ ss) (cond (eqb g (cond b (weight s) 0)) 0 (suc (first_at g (zeroed live ss)))) []
      go true e = same (eqb g (weight s))
        where
          same : (t : Bool) → cond t s (hit g (keep live ss)) ≡ get_or (s ∷ ss) (cond t 0 (suc (first_at g (zeroed live ss)))) []
          same true = refl
          same false = e
      go false e = rw (ne_eqb g 0 (omega arith)) e

  -- ---- clearing and removing

  unmet : List ℕ → (List ℕ → Bool) → List ℕ → Bool
  unmet c live s = cond (meets s c) false (live s)

  clear_zeroed : (c : List ℕ) (live : List ℕ → Bool) (ss : List (List ℕ)) → clear c ss (zeroed live ss) ≡ zeroed (unmet c live) ss
  unfolding clear zeroed unmet
  clear_zeroed c live [] = refl
  clear_zeroed c live (s ∷ ss) = ap₂ ◌∷◌ (go (meets s c)) (clear_zeroed c live ss)
    where
      go : (b : Bool) → cond b 0 (cond (live s) (weight s) 0) ≡ cond (cond b false (live s)) (weight s) 0
      go true = refl
      go false = refl

  without_kept : (c : List ℕ) (live : List ℕ → Bool) (ss : List (List ℕ)) → without c (keep live ss) ≡ keep (unmet c live) ss
  unfolding without keep unmet
  without_kept c live [] = refl
  without_kept c live (s ∷ ss) = go (live s) (meets s c) refl (without_kept c live ss)
    where
      go : (a b : Bool) → meets s c ≡ b → without c (keep live ss) ≡ keep (unmet c live) ss
          → without c (cond a (s ∷ keep live ss) (keep live ss)) ≡ cond (cond b false a) (s ∷ keep (unmet c live) ss) (keep (unmet c live) ss)
      go true true q e = rw q e
      go true false q e = rw q (ap (λ (l : List (List ℕ)). s ∷ l) e)
      go false true q e = e
      go false false q e = e

-- clearing by no places changes nothing
meets_nil : (s : List ℕ) → meets s [] ≡ false
unfolding meets
meets_nil s = meets_sym s []

clear_nil : (ss : List (List ℕ)) (ws : List ℕ) → clear [] ss ws ≡ ws
unfolding clear
clear_nil [] ws = refl
clear_nil (s ∷ ss) [] = refl
clear_nil (s ∷ ss) (x ∷ ws) = ap₂ ◌∷◌ (rw (meets_nil s)) (clear_nil ss ws)

-- ---- each turn removes its own choice

-- a subset has a place, and so meets itself
abbrev pub Meeting : List ℕ → Type 0
Meeting s = meets s s ≡ true

pub each_without : (P : List ℕ → Type 0) (c : List ℕ) (S : List (List ℕ)) → Each P S → Each P (without c S)
unfolding without
each_without P c [] h = tt
each_without P c (s ∷ S) h = go (meets s c) (each_without P c S h.1)
  where
    go : (b : Bool) → Each P (without c S) → Each P (cond b (without c S) (s ∷ without c S))
    go true k = k
    go false k = (h.0, k)

without-most : (c : List ℕ) (S : List (List ℕ)) → length (without c S) ≤ length S
unfolding without
without-most c [] = omega arith
without-most c (s ∷ S) = go (meets s c) (without-most c S)
  where
    go : (b : Bool) → length (without c S) ≤ length S → length (cond b (without c S) (s ∷ without c S)) ≤ suc (length S)
    go true h = omega arith
    go false h = omega arith

without_less : (c : List ℕ) (S : List (List ℕ)) → Memᴰ c S → Each Meeting S → length (without c S) < length S
unfolding without
without_less c [] x'' h = elim x'' [ ]
without_less c (s ∷ S) (Memᴰ.head e) h =
    let q : meets s c ≡ true = rw e h.0 in
    rw q (omega (arith, without-most c S))
without_less c (s ∷ S) (Memᴰ.tail k) h = go (meets s c) (without_less c S k h.1)
  where
    go : (b : Bool) → length (without c S) < length S → length (cond b (without c S) (s ∷ without c S)) < suc (length S)
    go true z = omega arith
    go false z = omega arith

first_of-mem : (weight : List ℕ → ℕ) (a : List ℕ) (bs : List (List ℕ)) → Memᴰ (first_of weight a bs) (a ∷ bs)
unfolding first_of
first_of-mem weight a [] = Memᴰ.head refl
first_of-mem weight a (b ∷ bs) = go (ltb (weight a) (weight b)) (λ d. first_of-mem weight d bs)
  where
    skip : Memᴰ (first_of weight a bs) (a ∷ bs) → Memᴰ (first_of weight a bs) (a ∷ b ∷ bs)
    skip (Memᴰ.head e) = Memᴰ.head e
    skip (Memᴰ.tail k) = Memᴰ.tail (Memᴰ.tail k)

    go : (t : Bool) → ((d : List ℕ) → Memᴰ (first_of weight d bs) (d ∷ bs)) → Memᴰ (first_of weight (cond t b a) bs) (a ∷ b ∷ bs)
    go true ih = Memᴰ.tail (ih b)
    go false ih = skip (ih a)

heaviest_less : (weight : List ℕ → ℕ) (S : List (List ℕ)) → 0 < length S → Each Meeting S → length (without (heaviest weight S) S) < length S
unfolding heaviest
heaviest_less weight [] h k = absurd (omega arith)
heaviest_less weight (s ∷ S) h k = without_less (first_of weight s S) (s ∷ S) (first_of-mem weight s S) k

above_some : (f : ℕ) (weight : List ℕ → ℕ) (S : List (List ℕ)) → some_above f weight S ≡ true → 0 < length S
unfolding some_above
above_some f weight [] e = let z : ◌≡◌ {A = ℕ} 0 1 = cc in absurd (omega arith)
above_some f weight (s ∷ S) e = omega arith

-- the loop ends where nothing is above the floor, and else takes a turn
pub quiet_loop : (k f : ℕ) (weight : List ℕ → ℕ) (S : List (List ℕ)) → some_above f weight S ≡ false → (loop k f weight S).chosen ≡ []
unfolding loop
quiet_loop zero f weight S e = refl
quiet_loop (suc k) f weight S e = rw e

pub busy_loop : (k f : ℕ) (weight : List ℕ → ℕ) (S : List (List ℕ)) → some_above f weight S ≡ true
    → (loop (suc k) f weight S).chosen ≡ heaviest weight S ∷ (loop k f weight (without (heaviest weight S) S)).chosen
unfolding loop
busy_loop k f weight S e = rw e

-- so the loop has ended when its turns are used up
pub loop_ends : (k f : ℕ) (weight : List ℕ → ℕ) (S : List (List ℕ)) → length S ≤ k → Each Meeting S
    → some_above f weight (loop k f weight S).rest ≡ false
unfolding loop some_above
loop_ends zero f weight [] h e = refl
loop_ends zero f weight (s ∷ S) h e = absurd (omega arith)
loop_ends (suc k) f weight S h e = go (some_above f weight S) refl (λ z. loop_ends k f weight (without (heaviest weight S) S) z (each_without Meeting (heaviest weight S) S e))
  where
    next : Loop
    next = loop k f weight (without (heaviest weight S) S)

    go : (b : Bool) → some_above f weight S ≡ b → (length (without (heaviest weight S) S) ≤ k → some_above f weight next.rest ≡ false)
        → some_above f weight (cond {A = Loop} b (record { chosen = heaviest weight S ∷ next.chosen; rest = next.rest }) (record { chosen = []; rest = S })).rest ≡ false
    go true q ih = ih (omega (arith, heaviest_less weight S (above_some f weight S q) e))
    go false q ih = q

-- ---- the subsets that rounds choose

unfoldable pub chosen_of : List (List ℕ) → List ℕ → List (List ℕ)
chosen_of ss [] = []
chosen_of ss (c ∷ cs) = cond (ltb c (length ss)) (get_or ss c [] ∷ chosen_of ss cs) (chosen_of ss cs)

chosen_one : (ss : List (List ℕ)) (c : ℕ) (cs : List ℕ) → c < length ss → chosen_of ss (c ∷ cs) ≡ get_or ss c [] ∷ chosen_of ss cs
unfolding chosen_of
chosen_one ss c cs h = rw (lt-ltb c (length ss) h)

chosen_none : (ss : List (List ℕ)) (cs : List ℕ) → chosen_of ss (length ss ∷ cs) ≡ chosen_of ss cs
unfolding chosen_of
chosen_none ss cs = rw (le-ltb (length ss) (length ss) (omega arith))

greatest_some : (ws : List ℕ) → 0 < greatest ws → 0 < length ws
unfolding greatest
greatest_some [] h = absurd (omega arith)
greatest_some (x ∷ ws) h = omega arith

module _ (f : ℕ) (weight : List ℕ → ℕ) (ss : List (List ℕ)) where
  module _ (live : List ℕ → Bool) where
    above_is : some_above f weight (keep live ss) ≡ ltb f (greatest (zeroed weight live ss))
    above_is = above_greatest weight f (keep live ss) ∙ ap (ltb f) (greatest_kept weight live ss)

    -- a round with a choice: its number stands for the first heaviest of what is left
    some_number : f < greatest (zeroed weight live ss)
        → choice f ss (zeroed weight live ss) ≡ first_at (greatest (zeroed weight live ss)) (zeroed weight live ss)
    unfolding choice
    some_number h = rw (lt-ltb f (greatest (zeroed weight live ss)) h)

    some_within : f < greatest (zeroed weight live ss) → first_at (greatest (zeroed weight live ss)) (zeroed weight live ss) < length ss
    unfolding zeroed
    some_within h = omega (
      arith,
      (greatest_first (zeroed weight live ss) (greatest_some (zeroed weight live ss) (omega arith))).within,
      length-map ss (λ (s : List ℕ). cond (live s) (weight s) 0),
    )

    some_first : f < greatest (zeroed weight live ss)
        → get_or ss (first_at (greatest (zeroed weight live ss)) (zeroed weight live ss)) [] ≡ heaviest weight (keep live ss)
    some_first h =
        sym (hit_first weight (greatest (zeroed weight live ss)) live ss (omega arith))
        ∙ ap (λ (g : ℕ). hit weight g (keep live ss)) (sym (greatest_kept weight live ss)) ∙ sym (heaviest_hit weight (keep live ss))

    none_number : greatest (zeroed weight live ss) ≤ f → choice f ss (zeroed weight live ss) ≡ length ss
    unfolding choice
    none_number h = rw (le-ltb f (greatest (zeroed weight live ss)) h)

    -- a round that chooses none clears nothing
    none_clears : greatest (zeroed weight live ss) ≤ f
        → clear (get_or ss (choice f ss (zeroed weight live ss)) []) ss (zeroed weight live ss) ≡ zeroed weight live ss
    none_clears h = rw (none_number h, get_or-eq_default ss [] {n = length ss} (omega arith)) (clear_nil ss (zeroed weight live ss))

    -- and one that chooses clears what the loop removes
    some_clears : f < greatest (zeroed weight live ss)
        → clear (get_or ss (choice f ss (zeroed weight live ss)) []) ss (zeroed weight live ss) ≡ zeroed weight (unmet weight (heaviest weight (keep live ss)) live) ss
    some_clears h = rw (some_number h, some_first h) (clear_zeroed weight (heaviest weight (keep live ss)) live ss)

  -- as many rounds as leave nothing above the floor choose what the loop chooses
  Agrees : ℕ → (List ℕ → Bool) → ℕ → Type 0
  Agrees r live k =
      greatest (cleared f r ss (zeroed weight live ss)) ≤ f
      → length (keep live ss) ≤ k
      → Each Meeting (keep live ss)
      → chosen_of ss (picks f r ss (zeroed weight live ss)) ≡ (loop k f weight (keep live ss)).chosen

  agrees_none : (r k : ℕ) (live : List ℕ → Bool) → greatest (zeroed weight live ss) ≤ f → Agrees r live k → Agrees (suc r) live k
  unfolding Agrees picks cleared
  agrees_none r k live h ih q l e =
      ap (λ (c : ℕ). chosen_of ss (c ∷ picks f r ss (clear (get_or ss (choice f ss (zeroed weight live ss)) []) ss (zeroed weight live ss)))) (none_number live h)
      ∙ chosen_none ss _ ∙ ap (λ (ws : List ℕ). chosen_of ss (picks f r ss ws)) (none_clears live h)
      ∙ ih (rw (none_clears live h) at q) l e

  agrees_some : (r k : ℕ) (live : List ℕ → Bool) → f < greatest (zeroed weight live ss) → ((next : List ℕ → Bool) (j : ℕ) → Agrees r next j)
      → Agrees (suc r) live k
  unfolding Agrees picks cleared
  agrees_some r k live h ih q l e = turn k l
    where
      c : List ℕ
      c = heaviest weight (keep live ss)

      above : some_above f weight (keep live ss) ≡ true
      above = above_is live ∙ lt-ltb f (greatest (zeroed weight live ss)) h

      left : without c (keep live ss) ≡ keep (unmet weight c live) ss
      left = without_kept weight c live ss

      first : chosen_of ss (picks f (suc r) ss (zeroed weight live ss)) ≡ c ∷ chosen_of ss (picks f r ss (zeroed weight (unmet weight c live) ss))
      first =
          ap (λ (d : ℕ). chosen_of ss (d ∷ picks f r ss (clear (get_or ss (choice f ss (zeroed weight live ss)) []) ss (zeroed weight live ss)))) (some_number live h)
          ∙ chosen_one ss _ _ (some_within live h)
          ∙ ap₂ ◌∷◌ (some_first live h) (ap (λ (ws : List ℕ). chosen_of ss (picks f r ss ws)) (some_clears live h))

      turn : (k : ℕ) → length (keep live ss) ≤ k → chosen_of ss (picks f (suc r) ss (zeroed weight live ss)) ≡ (loop k f weight (keep live ss)).chosen
      turn zero l = absurd (omega (arith, above_some f weight (keep live ss) above))
      turn (suc j) l =
          first
          ∙ ap (λ (cs : List (List ℕ)). c ∷ cs) (
          ih (unmet weight c live) j (rw (some_clears live h) at q)
          (rw (← left) (omega (arith, heaviest_less weight (keep live ss) (above_some f weight (keep live ss) above) e)))
          (rw (← left) (each_without Meeting c (keep live ss) e))
          ∙ ap (λ (S : List (List ℕ)). (loop j f weight S).chosen) (sym left)
          )
          ∙ sym (busy_loop j f weight (keep live ss) above)

  agrees : (r k : ℕ) (live : List ℕ → Bool) → Agrees r live k
  unfolding Agrees picks cleared chosen_of
  agrees zero k live = λ q l e. sym (quiet_loop k f weight (keep live ss) (above_is live ∙ le-ltb f (greatest (zeroed weight live ss)) q))
  agrees (suc r) k live = go (dec_lt f (greatest (zeroed weight live ss))) (λ next j. agrees r j next)
    where
      go : Dec (f < greatest (zeroed weight live ss)) → ((next : List ℕ → Bool) (j : ℕ) → Agrees r next j) → Agrees (suc r) live k
      go (yes h) ih = agrees_some r k live h ih
      go (no h) ih = agrees_none r k live (omega arith) (ih live k)

  -- from the full table on
  all_live : List ℕ → Bool
  all_live s = true

  keep_all : (us : List (List ℕ)) → keep all_live us ≡ us
  unfolding keep all_live
  keep_all [] = refl
  keep_all (u ∷ us) = ap (λ (l : List (List ℕ)). u ∷ l) (keep_all us)

  zeroed_all : zeroed weight all_live ss ≡ map weight ss
  unfolding zeroed all_live
  zeroed_all = refl

  pub rounds-loop : (r : ℕ) → greatest (cleared f r ss (map weight ss)) ≤ f → Each Meeting ss
      → chosen_of ss (picks f r ss (map weight ss)) ≡ (loop (length ss) f weight ss).chosen
  unfolding Agrees
  rounds-loop r q e =
      rw (zeroed_all, keep_all ss) at (agrees r (length ss) all_live (rw zeroed_all q) (rw (keep_all ss) (omega arith)) (rw (keep_all ss) e))
