-- What a walk lends for a call, and how it comes back.
--     local_out, local_back      a struct in a local is lent as a `&κ mut T`; it is back in memory, at its last value
--     LentAgain, again_out, again_back      a `&κ mut [T]` is lent again, at any list that it has come to hold
--     LentShared, shared_out, shared_out_free, shared_back      a `&κ mut [T]` is lent as a `&κ' [T]`; it comes back as it was. A shared slice has no ghost name. It is
--                                made by T's law of sharing, with tokens whose lifetimes' meet is within κ', which come back; and with no token where T can be copied
--     array_out, array_back      an array in a local is lent as a `&κ mut [T]`; it is back in memory, at the last list
--     Row, row_val, row_tells, row_makes, row_typed, row_field      an array of a declared struct by value: its row, its machine value and their laws
--     says_two, says_three      a goal P ∗ (⌜φ⌝ ∗ ⌜ψ⌝), as a contract of two clauses has it: φ and ψ are shown, and P is left; the same for three
-- A `&κ mut T` is lent again by the toolchain's own lends_again and comes_back. Assumes `Logic`.
use mathlib.Core.Path.{◌≡◌, refl, sym, ◌∙◌, ap, subst}
use Prim.Native.Nat.{ℕ, zero, suc, ◌-◌, ◌*◌, ◌<◌, ◌≤◌, ◌^◌}
use native.Mathlib.Nat.{mul-le-mul_right}
use native.Mathlib.Omega.{arith}
use mathlib.Core.List.{List, [], ◌∷◌, map}
use lib.ListN.{length, length-map}
use lib.Dec.{T as Holds}
use seplogic.Ra.Ura.{Ura}
use base.Fraction.{full_share}
use mir.Syntax.{Lifetime, Ty, Local, local, ty_unit}
use mir.Val.{Val, vptr, has_ty, WT}
use base.Logic.{SProp, ent, sep, ex, emp, via, assoc∗, comm∗, mono_l, emp∗}
use base.Fml.{Lft, GName, Share, Fml, Incl, fsep, fat, flft, fdead, fres, fobs, fauth, flent, fobor, fhide}
use ghost.Rules.{Toks, span}
use types.Logic.{Logic, sem, lfts}
use contract.Monad.{fact, fact_i}
use types.Kit.{Item, Step, step, prop, ‵, raw, ◌⊛◌, some, later, ◌$◌, ◌∵◌, !, qed, by, move, rewrite, use1, use2, use3, drop, split, pick, feq_i, fsplit, fjoin, fpick, fpack, frame, await, updating, now as at_once, show, done}
use types.SemTy.{cells, Arr, Body}
use types.Share.{parts, arr_parts}
use types.Tokens.{lent_back}
use denote.RattleType.{RattleType}
use denote.Shadow.{shadow, pure_l, pure_i}
use denote.Memory.{mem, shares, shared_of, cell_at, lone, part_at, part_of}
use denote.Laws.{Is, Tells, Makes}
use denote.Array.{Array, each, array_vals, Array-Tells, Array-Makes, Array-Lawful}
use denote.ArrayMemory.{Single, Array-apart, Array-whole}
use denote.Struct.Struct.{Struct, Plains}
use denote.Struct.Declared.{Declared}
use denote.Struct.Declared as D
use denote.Struct.Laws as LL
use denote.Steps.{only}
use denote.Ref.{Bor, MutBor, MutRef}
use denote.Slice.{slice_val, MutSlice, ShrSlice, heres, Room, finally, shr_slice_at, mut_slice_at, coded_holeys, elements_shared}
use denote.Lends.{Lent, Lent-map}
use denote.Shares.{SharesAsFrom}
use denote.Copied.{Copied, each_lends}
use denote.Lend.{Held, lends_slice, slice_back, lends_ref, ref_back, lends_shr_slice}
use borrow.Table.OneValue.{part_in, part_out}
use denote.Index.{row, whole_out, whole_in, opens_slice, closes_slice}

module _ {M : Type 1} {𝓤 : Ura M} (𝓛 : Logic 𝓤) (R : RattleType) where
  open 𝓛 use {H, A}

  pub local_out : (ℓ : Lifetime) (κ : Lft) (h : R.Denot) (vs : List Val) (b o : ℕ)
      → ent 𝓤 (sep 𝓤 (sem 𝓛 (cell_at full_share R.mir vs b o)) (sem 𝓛 (R.own_val h vs)))
      (H.⇛ (ex 𝓤 (λ (γ : GName). sep 𝓤 (sem 𝓛 ((MutRef ℓ κ R).own_val (record { ref_ptr = (b, o); ghost_name = γ; now = h }) (vptr b o ∷ []))) (A.lent κ (Body (mem R) b o γ)))))
  unfolding part_of
  local_out ℓ κ h vs b o =
      qed 𝓛 (‵ (cell_at full_share R.mir vs b o) ∷ ‵ (R.own_val h vs) ∷ []) ∵ fjoin ! $ fpack ! (List Val) (λ us. fsep (cell_at full_share R.mir us b o) (R.own_val h us)) vs $ by ! (lends_ref 𝓛 R ℓ κ h b o)

  pub local_back : (κ : Lft) (γ : GName) (h : R.Denot) (b o : ℕ)
      → ent 𝓤 (sep 𝓤 (A.dead κ) (sep 𝓤 (A.lent κ (Body (mem R) b o γ)) (A.res γ (R.coded.code h))))
      (H.⇛ (ex 𝓤 (λ (vs : List Val). sep 𝓤 (sem 𝓛 (cell_at full_share R.mir vs b o)) (sem 𝓛 (R.own_val h vs)))))
  unfolding part_of
  local_back κ γ h b o =
      qed 𝓛 (‵ (fdead κ) ∷ ‵ (flent κ (Body (mem R) b o γ)) ∷ ‵ (fres γ (R.coded.code h)) ∷ []) ∵ updating ! $
      use3 𝓛 (later (‵ ((mem R).own_at h b o))) (ref_back 𝓛 R κ γ h b o) $ await ! tt $ fpick ! (λ vs. fsplit ! $ at_once ! $
      show ! (λ (us : List Val). sep 𝓤 (sem 𝓛 (cell_at full_share R.mir us b o)) (sem 𝓛 (R.own_val h us))) vs $ done !)

module _ (R : RattleType) (κ κ' : Lft) (q : Share) (γ : GName) (b o : ℕ) where
  abbrev pub at_list : GName → List R.Denot → MutBor (List R.Denot)
  at_list δ ys = record { ref_ptr = (b, o); ghost_name = δ; now = ys }

  abbrev pub LentAgain : GName → List R.Denot → Fml
  LentAgain γ₁ ys = fsep (flent κ' (Held R (length ys) b o γ₁)) (fsep (fobor κ q (Held R (length ys) b o γ)) (fsep (fobs γ ((coded_holeys R).code (heres R ys))) (fauth γ ((coded_holeys R).code (heres R ys)))))

  module _ {M : Type 1} {𝓤 : Ura M} (𝓛 : Logic 𝓤) (ℓ ℓ' : Lifetime) (vs : List Val) (ys : List R.Denot) where
    open 𝓛 use {H, A}

    pub again_out : ent 𝓤 (sep 𝓤 (sem 𝓛 ((MutSlice ℓ κ R).own_val (at_list γ ys) vs)) (A.lft κ q))
        (H.⇛ (ex 𝓤 (λ (γ₁ : GName). sep 𝓤 (sem 𝓛 ((MutSlice ℓ' κ' R).own_val (at_list γ₁ ys) vs)) (sem 𝓛 (LentAgain γ₁ ys)))))
    again_out =
        qed 𝓛 (‵ ((MutSlice ℓ κ R).own_val (at_list γ ys) vs) ∷ ‵ (flft κ q) ∷ []) ∵ updating ! $ fsplit ! $ pure_l ! (mut_slice_at R (at_list γ ys) vs) (λ p. fsplit ! $ opens_slice ! tt R ys b o $
        use1 𝓛 (‵ (cells (mem R) ys b o)) (whole_in 𝓛 R ys b o) $
        use1 𝓛 (later (some (λ (γ₁ : GName). ‵ ((MutSlice ℓ' κ' R).own_val (at_list γ₁ ys) (slice_val (b, o) (length ys) ∷ [])) ⊛ ‵ (flent κ' (Held R (length ys) b o γ₁)))))
        (lends_slice 𝓛 R ℓ' κ' ys b o p.1) $ await ! tt $ pick ! (λ γ₁. split ! $
        rewrite ! 0 (λ (us : List Val). ‵ ((MutSlice ℓ' κ' R).own_val (at_list γ₁ ys) us)) (sym p.0) refl $
        -- [the new slice; the lender's part at κ'; the open borrow at κ; obs γ; auth γ]
        at_once ! $ show ! (λ (γ' : GName). sep 𝓤 (sem 𝓛 ((MutSlice ℓ' κ' R).own_val (at_list γ' ys) vs)) (sem 𝓛 (LentAgain γ' ys))) γ₁ $ frame ! $
        move ! (2 ∷ 3 ∷ []) $ fjoin ! $ move ! (2 ∷ 0 ∷ []) $ fjoin ! $ move ! (1 ∷ 0 ∷ []) $ fjoin ! $ done !))

    pub again_back : (γ₁ : GName) (zs : List R.Denot) → vs ≡ slice_val (b, o) (length ys) ∷ [] → Room R (length ys) → length zs ≡ length ys
        → ent 𝓤 (sep 𝓤 (A.dead κ') (sep 𝓤 (sem 𝓛 (LentAgain γ₁ ys)) (sem 𝓛 (finally R γ₁ zs)))) (H.⇛ (sep 𝓤 (sem 𝓛 ((MutSlice ℓ κ R).own_val (at_list γ zs) vs)) (A.lft κ q)))
    again_back γ₁ zs v room e =
        qed 𝓛 (‵ (fdead κ') ∷ ‵ (LentAgain γ₁ ys) ∷ ‵ (finally R γ₁ zs) ∷ []) ∵ updating ! $ move ! (1 ∷ []) $ fsplit ! $ move ! (2 ∷ 0 ∷ 3 ∷ []) $
        use3 𝓛 (later (‵ ((Arr (mem R) (length ys)).own_at zs b o))) (slice_back 𝓛 R κ' γ₁ zs (length ys) b o) $ await ! tt $ fsplit ! $ drop ! $ use1 𝓛 (‵ (row R full_share zs b o)) (whole_out 𝓛 R zs b o) $
        move ! (1 ∷ []) $ fsplit ! $ move ! (1 ∷ []) $ fsplit ! $ move ! (3 ∷ 2 ∷ 0 ∷ 1 ∷ []) $ closes_slice ! tt R ys zs e b o $ at_once ! $
        fjoin ! $ pure_i ! (mut_slice_at R (at_list γ zs) vs) (tt, (tt, tt)) (v ∙ ap (λ (m : ℕ). slice_val (b, o) m ∷ []) (sym e), subst (Room R) (sym e) room) $ fjoin ! $ done !

  abbrev pub shared_list : List R.Denot → Bor (List R.Denot)
  shared_list ys = record { ref_ptr = (b, o); now = ys }

  abbrev pub LentShared : List R.Denot → Fml
  LentShared ys = fsep (flent κ' ((arr_parts (shares R) (length ys)).part full_share ys b o)) (fsep (fobor κ q (Held R (length ys) b o γ)) (fsep (fobs γ ((coded_holeys R).code (heres R ys))) (fauth γ ((coded_holeys R).code (heres R ys)))))

  module _ {M : Type 1} {𝓤 : Ura M} (𝓛 : Logic 𝓤) (ℓ ℓ' : Lifetime) (vs : List Val) (ys : List R.Denot) where
    open 𝓛 use {H, A}

    pub shared_out : (l : Lft) → SharesAsFrom 𝓛 full_share R (shared_of R) l → (ts : Toks) → Incl (span ts) l → Incl (span ts) κ'
        → ent 𝓤 (sep 𝓤 (sem 𝓛 ((MutSlice ℓ κ R).own_val (at_list γ ys) vs)) (sep 𝓤 (A.lft κ q) (lfts 𝓛 ts)))
        (H.⇛ (sep 𝓤 (sem 𝓛 ((ShrSlice ℓ' κ' R).own_val (shared_list ys) vs)) (sep 𝓤 (sem 𝓛 (LentShared ys)) (lfts 𝓛 ts))))
    shared_out l law ts inc sp =
        qed 𝓛 (‵ ((MutSlice ℓ κ R).own_val (at_list γ ys) vs) ∷ ‵ (flft κ q) ∷ raw (lfts 𝓛 ts) ∷ []) ∵ updating ! $ fsplit ! $ pure_l ! (mut_slice_at R (at_list γ ys) vs) (λ p. fsplit ! $ opens_slice ! tt R ys b o $
        -- [the elements; the open borrow at κ; obs γ; auth γ; the tokens]
        feq_i ! ℕ (length ys) (length ys) refl $ fjoin ! $ move ! (0 ∷ 4 ∷ []) $
        use2 𝓛 (later ((‵ ((ShrSlice ℓ' κ' R).own_val (shared_list ys) (slice_val (b, o) (length ys) ∷ [])) ⊛ ‵ (flent κ' ((arr_parts (shares R) (length ys)).part full_share ys b o))) ⊛ raw (lfts 𝓛 ts)))
        (lends_shr_slice 𝓛 R ℓ' κ' full_share ys b o p.1 l law ts inc sp) $ await ! tt $ split ! $ split ! $
        rewrite ! 0 (λ (us : List Val). ‵ ((ShrSlice ℓ' κ' R).own_val (shared_list ys) us)) (sym p.0) refl $
        -- [the new slice; the lender's part at κ'; the tokens; the open borrow at κ; obs γ; auth γ]
        at_once ! $ frame ! $ move ! (3 ∷ 4 ∷ []) $ fjoin ! $ move ! (3 ∷ 0 ∷ []) $ fjoin ! $ move ! (1 ∷ 0 ∷ []) $ fjoin ! $ done !)

    elements_lent : Copied 𝓛 R → Lent 𝓛 ((arr_parts (shares R) (length ys)).part full_share ys b o) (elements_shared R ys b o)
    elements_lent c =
        let P : Fml = (arr_parts (shares R) (length ys)).part full_share ys b o in
        let G : Fml = parts (mem R) (shares R) full_share ys b o in
        Lent-map 𝓛 P G (elements_shared R ys b o) (qed 𝓛 (‵ P ∷ []) {P = sem 𝓛 G} (fsplit ! $ drop ! $ done !))
        (qed 𝓛 (‵ G ∷ []) {P = sem 𝓛 P} (feq_i ! ℕ (length ys) (length ys) refl $ done !)) (each_lends 𝓛 R c full_share ys b o)

    pub shared_out_free : Copied 𝓛 R
        → ent 𝓤 (sep 𝓤 (sem 𝓛 ((MutSlice ℓ κ R).own_val (at_list γ ys) vs)) (A.lft κ q))
        (H.⇛ (sep 𝓤 (sem 𝓛 ((ShrSlice ℓ' κ' R).own_val (shared_list ys) vs)) (sem 𝓛 (LentShared ys))))
    shared_out_free c =
        qed 𝓛 (‵ ((MutSlice ℓ κ R).own_val (at_list γ ys) vs) ∷ ‵ (flft κ q) ∷ []) ∵ updating ! $ fsplit ! $ pure_l ! (mut_slice_at R (at_list γ ys) vs) (λ p. fsplit ! $ opens_slice ! tt R ys b o $
        feq_i ! ℕ (length ys) (length ys) refl $ fjoin ! $
        use1 𝓛 (later (‵ (fhide (elements_shared R ys b o κ')) ⊛ ‵ (flent κ' ((arr_parts (shares R) (length ys)).part full_share ys b o)))) (elements_lent c κ') $ await ! tt $ split ! $
        -- [what the shared elements hold; the lender's part at κ'; the open borrow at κ; obs γ; auth γ]
        pure_i ! (shr_slice_at R (shared_list ys) vs) (tt, (tt, tt)) p $ fjoin ! $
        at_once ! $ frame ! $ move ! (2 ∷ 3 ∷ []) $ fjoin ! $ move ! (2 ∷ 0 ∷ []) $ fjoin ! $ move ! (1 ∷ 0 ∷ []) $ fjoin ! $ done !)

    pub shared_back : vs ≡ slice_val (b, o) (length ys) ∷ [] → Room R (length ys)
        → ent 𝓤 (sep 𝓤 (A.dead κ') (sem 𝓛 (LentShared ys))) (H.⇛ (sep 𝓤 (sem 𝓛 ((MutSlice ℓ κ R).own_val (at_list γ ys) vs)) (A.lft κ q)))
    shared_back v room =
        qed 𝓛 (‵ (fdead κ') ∷ ‵ (LentShared ys) ∷ []) ∵ updating ! $ move ! (1 ∷ []) $ fsplit ! $ move ! (2 ∷ 0 ∷ []) $
        lent_back ! tt $ fsplit ! $ drop ! $
        move ! (1 ∷ []) $ fsplit ! $ move ! (1 ∷ []) $ fsplit ! $ move ! (3 ∷ 2 ∷ 0 ∷ 1 ∷ []) $ closes_slice ! tt R ys ys refl b o $ at_once ! $
        fjoin ! $ pure_i ! (mut_slice_at R (at_list γ ys) vs) (tt, (tt, tt)) (v, room) $ fjoin ! $ done !

-- the reference r under another name, at another value
abbrev pub renamed : {X : Type 0} → MutBor X → GName → X → MutBor X
renamed r δ y = record { ref_ptr = r.ref_ptr; ghost_name = δ; now = y }

-- the type of a function's local
abbrev pub ty_of : List Local → ℕ → Ty
ty_of [] k = ty_unit
ty_of (local τ h ∷ ls) zero = τ
ty_of (local τ h ∷ ls) (suc k) = ty_of ls k

-- a difference is no wider than what it is taken from
pub less_fits : (a b : ℕ) {w : ℕ} → a < w → a - b < w
less_fits a b l = omega (arith, l)

more : {M : Type 1} (𝓤 : Ura M) (P : SProp 𝓤) (φ : Type 0) → φ → ent 𝓤 P (sep 𝓤 P (fact 𝓤 φ))
more 𝓤 P φ x = via 𝓤 (sep 𝓤 (emp 𝓤) P) (emp∗ 𝓤 P) (via 𝓤 (sep 𝓤 (fact 𝓤 φ) P) (mono_l 𝓤 P (fact_i 𝓤 φ (emp 𝓤) x)) (comm∗ 𝓤 (fact 𝓤 φ) P))

more_two : {M : Type 1} (𝓤 : Ura M) (P : SProp 𝓤) (φ ψ : Type 0) → φ → ψ → ent 𝓤 P (sep 𝓤 P (sep 𝓤 (fact 𝓤 φ) (fact 𝓤 ψ)))
more_two 𝓤 P φ ψ x y =
    via 𝓤 (sep 𝓤 P (fact 𝓤 φ)) (more 𝓤 P φ x) (via 𝓤 (sep 𝓤 (sep 𝓤 P (fact 𝓤 φ)) (fact 𝓤 ψ)) (more 𝓤 (sep 𝓤 P (fact 𝓤 φ)) ψ y) (assoc∗ 𝓤 P (fact 𝓤 φ) (fact 𝓤 ψ)))

more_three : {M : Type 1} (𝓤 : Ura M) (P : SProp 𝓤) (φ ψ χ : Type 0) → φ → ψ → χ → ent 𝓤 P (sep 𝓤 P (sep 𝓤 (fact 𝓤 φ) (sep 𝓤 (fact 𝓤 ψ) (fact 𝓤 χ))))
more_three 𝓤 P φ ψ χ x y z =
    via 𝓤 (sep 𝓤 P (fact 𝓤 φ)) (more 𝓤 P φ x)
    (via 𝓤 (sep 𝓤 (sep 𝓤 P (fact 𝓤 φ)) (sep 𝓤 (fact 𝓤 ψ) (fact 𝓤 χ))) (more_two 𝓤 (sep 𝓤 P (fact 𝓤 φ)) ψ χ y z) (assoc∗ 𝓤 P (fact 𝓤 φ) (sep 𝓤 (fact 𝓤 ψ) (fact 𝓤 χ))))

pub says_two : {M : Type 1} {𝓤 : Ura M} {𝓛 : Logic 𝓤} {K : Type 0} {Γ : List (Item 𝓤)} → K → {φ ψ : Type 0} {P : SProp 𝓤} → φ → ψ
    → Step K 𝓛 Γ (prop P) Γ (prop (sep 𝓤 P (sep 𝓤 (fact 𝓤 φ) (fact 𝓤 ψ))))
says_two {𝓤 = 𝓤} t {φ} {ψ} {P} x y = step (λ s. record { prf = via 𝓤 P s.prf (more_two 𝓤 P φ ψ x y) })

pub says_three : {M : Type 1} {𝓤 : Ura M} {𝓛 : Logic 𝓤} {K : Type 0} {Γ : List (Item 𝓤)} → K → {φ ψ χ : Type 0} {P : SProp 𝓤} → φ → ψ → χ
    → Step K 𝓛 Γ (prop P) Γ (prop (sep 𝓤 P (sep 𝓤 (fact 𝓤 φ) (sep 𝓤 (fact 𝓤 ψ) (fact 𝓤 χ)))))
says_three {𝓤 = 𝓤} t {φ} {ψ} {χ} {P} x y z = step (λ s. record { prf = via 𝓤 P s.prf (more_three 𝓤 P φ ψ χ x y z) })

module _ {M : Type 1} {𝓤 : Ura M} (𝓛 : Logic 𝓤) (R : RattleType) (single : Single R.mir) (n b o : ℕ) where
  open 𝓛 use {H, A}

  abbrev in_memory : List R.Denot → Val → SProp 𝓤
  in_memory l v = sep 𝓤 (sem 𝓛 (fat full_share (lone (Array R n).mir) b o v)) (sem 𝓛 ((Array R n).own_val l (v ∷ [])))

  abbrev slice_of : Lifetime → Lft → List R.Denot → GName → ℕ → Fml
  slice_of ℓ κ l γ m = (MutSlice ℓ κ R).own_val (record { ref_ptr = (b, o); ghost_name = γ; now = l }) (slice_val (b, o) m ∷ [])

  pub array_out : (ℓ : Lifetime) (κ : Lft) (l : List R.Denot) (v : Val) → length l ≡ n → Room R n
      → ent 𝓤 (in_memory l v) (H.⇛ (ex 𝓤 (λ (γ : GName). sep 𝓤 (sem 𝓛 (slice_of ℓ κ l γ n)) (A.lent κ (Held R n b o γ)))))
  array_out ℓ κ l v e room =
      qed 𝓛 (‵ (fat full_share (lone (Array R n).mir) b o v) ∷ ‵ ((Array R n).own_val l (v ∷ [])) ∷ []) ∵ updating ! $
      use2 𝓛 (‵ (part_at (Array R n) full_share l b o)) (part_in 𝓛 (Array R n) refl full_share l b o v) $
      use1 𝓛 (‵ ((arr_parts (shares R) n).part full_share l b o)) (Array-apart 𝓛 R full_share single n l b o) $ fsplit ! $ drop ! $
      use1 𝓛 (‵ (cells (mem R) l b o)) (whole_in 𝓛 R l b o) $
      use1 𝓛 (later (some (λ (γ : GName). ‵ (slice_of ℓ κ l γ (length l)) ⊛ ‵ (flent κ (Held R (length l) b o γ))))) (lends_slice 𝓛 R ℓ κ l b o (subst (Room R) (sym e) room)) $ await ! tt $ pick ! (λ γ. split ! $
      rewrite ! 0 (λ (m : ℕ). ‵ (slice_of ℓ κ l γ m)) e refl $ rewrite ! 1 (λ (m : ℕ). ‵ (flent κ (Held R m b o γ))) e refl $
      at_once ! $ show ! (λ (γ' : GName). sep 𝓤 (sem 𝓛 (slice_of ℓ κ l γ' n)) (A.lent κ (Held R n b o γ'))) γ $ done !)

  pub array_back : (κ : Lft) (γ : GName) (l : List R.Denot) → ent 𝓤 (sep 𝓤 (A.dead κ) (sep 𝓤 (A.lent κ (Held R n b o γ)) (sem 𝓛 (finally R γ l)))) (H.⇛ (ex 𝓤 (in_memory l)))
  array_back κ γ l =
      qed 𝓛 (‵ (fdead κ) ∷ ‵ (flent κ (Held R n b o γ)) ∷ ‵ (finally R γ l) ∷ []) ∵ updating ! $
      use3 𝓛 (later (‵ ((Arr (mem R) n).own_at l b o))) (slice_back 𝓛 R κ γ l n b o) $ await ! tt $ fsplit ! $ move ! (1 ∷ []) $
      use1 𝓛 (‵ (row R full_share l b o)) (whole_out 𝓛 R l b o) $ move ! (1 ∷ 0 ∷ []) $ fjoin ! $
      use1 𝓛 (‵ (part_at (Array R n) full_share l b o)) (Array-whole 𝓛 R full_share n l b o) $
      use1 𝓛 (some (λ (v : Val). ‵ (fat full_share (lone (Array R n).mir) b o v) ⊛ ‵ ((Array R n).own_val l (v ∷ [])))) (part_out 𝓛 (Array R n) refl full_share l b o) $ pick ! (λ v. split ! $
      at_once ! $ show ! (in_memory l) v $ done !)

-- an array of n of a declared struct T by value
module _ (T : Declared) (L : LL.Laws T) (n : ℕ) where
  abbrev pub Row : RattleType
  Row = Array (D.row T) n

  abbrev pub row_val : List T.D → Val
  row_val l = only (array_vals (LL.vals T L) l)

  pub row_tells : Tells Row (Is Row) (array_vals (LL.vals T L))
  row_tells = Array-Tells (D.row T) (LL.vals T L) (LL.tells T L) n

  each_of : (l : List T.D) (us : List Val) → shadow (each _ (Struct (D.shape T)).own_val (map T.to l) us) → shadow (each T.D (D.row T).own_val l us)
  each_of [] [] s = tt
  each_of [] (u ∷ us) s = absurd s
  each_of (x ∷ l) [] s = absurd s
  each_of (x ∷ l) (u ∷ us) s = (s.0, each_of l us s.1)

  -- a struct's field that is such an array stands at the elements' tuples
  pub row_field : (l : List T.D) (vs : List Val) → Is (Array (Struct (D.shape T)) n) (map T.to l) vs → Is Row l (row_val l ∷ [])
  row_field l vs p =
      let is : Is Row l vs = (p.0, ((p.1.0.0, sym (length-map l T.to) ∙ p.1.0.1), each_of l p.0 p.1.1)) in
      subst (Is Row l) (row_tells l vs is) is

  module _ {M : Type 1} {𝓤 : Ura M} (𝓛 : Logic 𝓤) where
    pub row_makes : Plains (D.fields T) → Makes 𝓛 Row (Is Row)
    row_makes pl = Array-Makes 𝓛 (D.row T) (LL.makes T pl 𝓛) n

    pub row_typed : (l : List T.D) (v : Val) → Is Row l (v ∷ []) → Holds (has_ty (lone Row.mir) v) × WT v
    row_typed l v is = ((Array-Lawful 𝓛 (D.row T) (LL.lawful T L 𝓛) n).typed l _ is).0

-- the offset of an element of a slice
pub place_fits : (R : RattleType) (i n : ℕ) → Room R n → i < n → i * (mem R).size < 2 ^ 64
place_fits R i n room l =
    let bytes : i * (mem R).size ≤ n * (mem R).size = mul-le-mul_right (mem R).size (omega arith) in
    omega (arith, bytes, room.1)
