-- What registering and withdrawing check: what has none of the faults, and that each is there. Assumes nothing.
use mathlib.Core.Path.{◌≡◌, refl, ◌∙◌}
use mathlib.Core.Bool.{not}
use Prim.Native.Nat.{ℕ}
use borrow.Author.Tests.{eqb-true, eqb-false, eq-eqb, not-true, not-false}
use lib.Dec.{eqb}
use Rattle.laws.specs.Below.{any_below}
use Rattle.laws.proofs.Below.{any_none, any_hit, any_found}
use Rattle.refusal.specs.Fault.{none, fault, refuse}
use Rattle.refusal.proofs.Faults.{then_none, none_then, refuse_none, none_refuse, by_refuse, by_then}
use Rattle.pool.specs.Pool.{Pair}
use Rattle.live.specs.Live.{Live, pair_of}
use Rattle.live.specs.Faults.{kept_fault, register_fault, withdraw_fault}
use Rattle.live.specs.Faultless.{Registrable, RegisterFault, Withdrawable, WithdrawFault}
use Rattle.live.proofs.Sizes.{n}
use Rattle.live.proofs.Faults.{kept_none, kept_passed, kept_fault_lem, range_none, range_passed, range_fault_lem, like_none, like_passed, like_fault_lem, more_none, more_passed, more_fault_lem}

-- ## Registering

module _ (p : Pair) (l : Live) where
  pub register_none : Registrable p l → register_fault p l ≡ none
  unfolding register_fault
  register_none r =
      none_then _ _ (kept_none l r.kept)
      ∙ none_then _ _ (range_none p l r.in_range)
      ∙ none_then _ _ (like_none p l r.unlike)
      ∙ more_none p l r.room r.more

  pub register_passed : register_fault p l ≡ none → Registrable p l
  unfolding register_fault
  register_passed e =
      let s = then_none _ _ e in
      let all = then_none _ _ s.1 in
      let others = then_none _ _ all.1 in
      let kept = kept_passed l s.0 in
      let more = more_passed p l kept.few others.1 in
      record { kept = kept; in_range = range_passed p l all.0; unlike = like_passed p l others.0; room = more.0; more = more.1 }

  pub register_fault_lem : (k o : ℕ) → register_fault p l ≡ fault k o → (o ≡ 0) × RegisterFault p l k
  unfolding register_fault
  register_fault_lem =
      let P : ℕ → ℕ → Type 0 = λ k o. (o ≡ 0) × RegisterFault p l k in
      by_then P _ _ (kept_fault_lem l P (λ k f. (refl, RegisterFault.kept k f)))
      (λ a. let kept = kept_passed l a in
      by_then P _ _ (range_fault_lem p l P (λ no. (refl, RegisterFault.out_of_range kept no)))
      (λ b. let in_range = range_passed p l b in
      by_then P _ _ (like_fault_lem p l P (λ no. (refl, RegisterFault.repeated_id kept in_range no)))
      (λ d. let unlike = like_passed p l d in
      more_fault_lem p l kept.few P (λ e. (refl, RegisterFault.full kept in_range unlike e))
      (λ less no. (refl, RegisterFault.no_room kept in_range unlike less no)))))

-- ## Withdrawing

module _ (x : ℕ) (l : Live) where
  abbrev here : ℕ → ℕ
  here j = (pair_of l j).id

  pub withdraw_none : Withdrawable x l → withdraw_fault x l ≡ none
  unfolding withdraw_fault
  withdraw_none r =
      let kept : kept_fault l ≡ none = kept_none l r.kept in
      let there : refuse 16 0 (not (any_below (n l) (λ j. eqb (here j) x))) ≡ none =
      none_refuse 16 0 _ (rw (any_hit (n l) (λ j. eqb (here j) x) r.there.at r.there.below (eq-eqb _ _ r.there.there))) in
      none_then _ _ kept ∙ there

  pub withdraw_passed : withdraw_fault x l ≡ none → Withdrawable x l
  unfolding withdraw_fault
  withdraw_passed e =
      let s = then_none _ _ e in
      let kept : kept_fault l ≡ none = s.0 in
      let f = any_found (n l) (λ j. eqb (here j) x) (not-false _ (refuse_none _ _ _ s.1)) in
      record { kept = kept_passed l kept; there = record { at = f.0; below = f.1; there = eqb-true _ _ f.2 } }

  pub withdraw_fault_lem : (k o : ℕ) → withdraw_fault x l ≡ fault k o → (o ≡ 0) × WithdrawFault x l k
  unfolding withdraw_fault
  withdraw_fault_lem =
      let P : ℕ → ℕ → Type 0 = λ k o. (o ≡ 0) × WithdrawFault x l k in
      by_then P _ _ (kept_fault_lem l P (λ k f. (refl, WithdrawFault.kept k f)))
      (λ a. by_refuse P 16 0 _
      (λ e. (
        refl,
        WithdrawFault.unknown_id (kept_passed l a) (λ j k. eqb-false _ _ (any_none (n l) (λ j. eqb (here j) x) (not-true _ e) j k)),
      )))
