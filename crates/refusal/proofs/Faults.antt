-- What follows where there is no fault, and where there is one. Assumes nothing.
use mathlib.Core.Path.{◌≡◌, refl, sym, ap, ◌∙◌, subst₂}
use mathlib.Core.Bool.{Bool, true, false, false≢true}
use mathlib.Core.Logic.{◌⊎◌, inl, inr, ⊎_elim}
use Rattle.std.specs.Prelude.{Result, Ok, Err}
use Rattle.std.specs.Result.{IsErr, IsErrAnd}
use Rattle.std.proofs.lemmas.Result.{err_from_is_err_and}
use Prim.Native.Nat.{ℕ, zero, suc, ◌+◌, ◌<◌}
use native.Mathlib.Numerals.{add-one}
use native.Mathlib.Omega.{arith}
use native.Mathlib.Decide.{dec_lt}
use Rattle.laws.proofs.Below.{below_suc}
use Rattle.refusal.specs.Fault.{Fault, none, fault, refuse, only, ◌then◌, first_below}
use Rattle.refusal.specs.Answer.{finished, refused, outcome, unless}
use Rattle.refusal.specs.Number.{number_of, fault_at, found_fault}
use Rattle.refusal.specs.declared.Refusal.{Refusal}
use Rattle.refusal.specs.declared.Refused.{Refused}

-- a fault is not none
pub none_fault : {A : Type 0} {f : Fault} {k o : ℕ} → f ≡ none → f ≡ fault k o → A
none_fault e g =
    let z : ◌≡◌ {A = ℕ} 0 1 = cc in
    absurd (omega arith)

-- ## refuse

pub refuse_none : (k o : ℕ) (t : Bool) → refuse k o t ≡ none → t ≡ false
unfolding refuse
refuse_none k o true e = none_fault e refl
refuse_none k o false e = refl

pub none_refuse : (k o : ℕ) (t : Bool) → t ≡ false → refuse k o t ≡ none
unfolding refuse
none_refuse k o t e = rw e

pub refuse_fault : (k o : ℕ) (t : Bool) {j p : ℕ} → refuse k o t ≡ fault j p → (t ≡ true) × (k ≡ j) × (o ≡ p)
unfolding refuse
refuse_fault k o true e = (refl, (cc), (cc))
refuse_fault k o false e = none_fault refl e

pub fault_refuse : (k o : ℕ) (t : Bool) → t ≡ true → refuse k o t ≡ fault k o
unfolding refuse
fault_refuse k o t e = rw e

-- ## only

pub none_only : (t : Bool) (f : Fault) → (t ≡ true → f ≡ none) → only t f ≡ none
unfolding only
none_only true f h = h refl
none_only false f h = refl

pub only_none : (t : Bool) (f : Fault) → only t f ≡ none → t ≡ true → f ≡ none
unfolding only
only_none true f e h = e
only_none false f e h = absurd (false≢true h)

pub only_fault : (t : Bool) (f : Fault) {k o : ℕ} → only t f ≡ fault k o → (t ≡ true) × (f ≡ fault k o)
unfolding only
only_fault true f e = (refl, e)
only_fault false f e = none_fault refl e

-- ## then

pub then_none : (f g : Fault) → (f then g) ≡ none → (f ≡ none) × (g ≡ none)
unfolding ◌then◌
then_none none g e = (refl, e)
then_none (fault k o) g e = none_fault e refl

pub none_then : (f g : Fault) → f ≡ none → (f then g) ≡ g
unfolding ◌then◌
none_then f g e = rw e

pub then_nothing : (f : Fault) → (f then none) ≡ f
unfolding ◌then◌
then_nothing none = refl
then_nothing (fault k o) = refl

pub fault_then : (f g : Fault) {k o : ℕ} → f ≡ fault k o → (f then g) ≡ fault k o
unfolding ◌then◌
fault_then f g e = rw e

pub then_fault : (f g : Fault) {k o : ℕ} → (f then g) ≡ fault k o → (f ≡ fault k o) ⊎ ((f ≡ none) × (g ≡ fault k o))
unfolding ◌then◌
then_fault none g e = inr (refl, e)
then_fault (fault j p) g e = inl e

pub then_assoc : (f g h : Fault) → ((f then g) then h) ≡ (f then g then h)
unfolding ◌then◌
then_assoc none g h = refl
then_assoc (fault k o) g h = refl

-- ## firstBelow

pub first_none : (n : ℕ) (f : ℕ → Fault) → first_below n f ≡ none → (i : ℕ) → i < n → f i ≡ none
unfolding first_below
first_none zero f e i l = absurd (omega arith)
first_none (suc n) f e i l =
    let h = then_none (first_below n f) (f n) e in
    below_suc {P = λ i. f i ≡ none} n (first_none n f h.0) h.1 i l

pub none_first : (n : ℕ) (f : ℕ → Fault) → ((i : ℕ) → i < n → f i ≡ none) → first_below n f ≡ none
unfolding first_below ◌then◌
none_first zero f h = refl
none_first (suc n) f h = rw (none_first n f (λ i l. h i (omega arith)), h n (omega arith))

pub first_hit : (n : ℕ) (f : ℕ → Fault) (i : ℕ) {k o : ℕ} → i < n → first_below i f ≡ none → f i ≡ fault k o → first_below n f ≡ fault k o
unfolding first_below ◌then◌
first_hit zero f i l e x = absurd (omega arith)
first_hit (suc n) f i {k} {o} l e x = go (λ s. first_hit n f i s e x) (dec_lt i n)
  where
    go : (i < n → first_below n f ≡ fault k o) → Dec (i < n) → (first_below n f then f n) ≡ fault k o
    go r (yes s) = rw (r s)
    go r (no s) =
        let q : i ≡ n = omega arith in
        rw (← q) (rw (e, x))

-- the first fault is one of them, and none before it has one
pub first_fault : (n : ℕ) (f : ℕ → Fault) {k o : ℕ} → first_below n f ≡ fault k o → (i : ℕ) × (i < n) × (first_below i f ≡ none) × (f i ≡ fault k o)
unfolding first_below
first_fault zero f e = none_fault refl e
first_fault (suc n) f {k} {o} e = go (first_fault n f) (then_fault (first_below n f) (f n) e)
  where
    go : (first_below n f ≡ fault k o → (i : ℕ) × (i < n) × (first_below i f ≡ none) × (f i ≡ fault k o))
        → (first_below n f ≡ fault k o) ⊎ ((first_below n f ≡ none) × (f n ≡ fault k o))
        → (i : ℕ) × (i < suc n) × (first_below i f ≡ none) × (f i ≡ fault k o)
    go r (inl h) = ((r h).0, omega (arith, (r h).1), (r h).2, (r h).3)
    go r (inr h) = (n, omega arith, h.0, h.1)

-- a turn of a loop that looks for a fault
pub first_more : (n : ℕ) (f : ℕ → Fault) → first_below n f ≡ none → f n ≡ none → first_below (n + 1) f ≡ none
unfolding first_below ◌then◌
first_more n f h e = rw (add-one, h, e)

-- and its end, where it went through all of them
pub passed_all : (n : ℕ) (f : ℕ → Fault) (i : ℕ) → i ≡ n → first_below i f ≡ none → fault_at 0 (Ok tt) ≡ first_below n f
unfolding fault_at
passed_all n f i e h = sym (ap (λ (k : ℕ). first_below k f) (sym e) ∙ h)

-- ## A property of a fault's number and place, fault by fault

module _ (P : ℕ → ℕ → Type 0) where
  pub by_refuse : (k o : ℕ) (t : Bool) → (t ≡ true → P k o) → (j p : ℕ) → refuse k o t ≡ fault j p → P j p
  by_refuse k o t h j p e =
      let r = refuse_fault k o t e in
      subst₂ P r.1 r.2 (h r.0)

  pub by_only : (t : Bool) (f : Fault) → (t ≡ true → (j p : ℕ) → f ≡ fault j p → P j p) → (j p : ℕ) → only t f ≡ fault j p → P j p
  by_only t f h j p e =
      let r = only_fault t f e in
      h r.0 j p r.1

  pub by_then : (f g : Fault) → ((j p : ℕ) → f ≡ fault j p → P j p) → (f ≡ none → (j p : ℕ) → g ≡ fault j p → P j p)
      → (j p : ℕ) → (f then g) ≡ fault j p → P j p
  by_then f g one other j p e = ⊎_elim (one j p) (λ r. other r.0 j p r.1) (then_fault f g e)

  pub by_first : (n : ℕ) (f : ℕ → Fault) → ((i : ℕ) → i < n → ((h : ℕ) → h < i → f h ≡ none) → (j p : ℕ) → f i ≡ fault j p → P j p)
      → (j p : ℕ) → first_below n f ≡ fault j p → P j p
  by_first n f h j p e =
      let r = first_fault n f e in
      h r.0 r.1 (first_none r.0 f r.2) j p r.3

-- ## faultAt: what a check found

module _ (o : ℕ) (v : Result Unit Refusal) {f : Fault} (e : fault_at o v ≡ f) where
  pub sound_none : v ≡ Ok tt → f ≡ none
  unfolding fault_at
  sound_none s = sym e ∙ rw s

  pub faulty_fault : (why : Refusal) → v ≡ Err why → f ≡ fault (number_of why) o
  unfolding fault_at
  faulty_fault why s = sym e ∙ rw s

-- and what a search found that tells a place too
module _ (v : Result Unit Refused) {f : Fault} (e : found_fault v ≡ f) where
  pub nothing_none : v ≡ Ok tt → f ≡ none
  unfolding found_fault
  nothing_none s = sym e ∙ rw s

  pub found_fault_lem : (r : Refused) → v ≡ Err r → f ≡ fault (number_of r.why) r.place
  unfolding found_fault
  found_fault_lem r s = sym e ∙ rw s

-- what `?` hands on is what it met
pub handed_on : {A E : Type 0} (r : Result A E) (why : E) → IsErr r × IsErrAnd r (λ e. e ≡ why) → r ≡ Err why
handed_on r why h =
    let p = err_from_is_err_and r h.1 in
    p.1 ∙ ap Err p.2

-- a step whose first check found v: what is found next is the fault, or v's is
module _ (o : ℕ) (v : Result Unit Refusal) (f g : Fault) (e : fault_at o v ≡ f) where
  pub sound_then : v ≡ Ok tt → {h : Fault} → h ≡ g → h ≡ (f then g)
  sound_then s h = h ∙ sym (none_then f g (sound_none o v e s))

  pub faulty_then : (why : Refusal) → v ≡ Err why → fault (number_of why) o ≡ (f then g)
  faulty_then why s = sym (fault_then f g (faulty_fault o v e why s))

-- ## unless: what a call answers and leaves

module _ {Result Lent : Type 0} (f : Fault) (result : Result) (new old : Lent) where
  pub unless_none : f ≡ none → unless f result new old ≡ outcome (finished result) new
  unfolding unless
  unless_none e = rw e

  pub unless_fault : (k o : ℕ) → f ≡ fault k o → unless f result new old ≡ outcome (refused k o) old
  unfolding unless
  unless_fault k o e = rw e

-- what has no fault says nothing of what follows
pub unless_then : {Result Lent : Type 0} (f g : Fault) (result : Result) (new old : Lent) → f ≡ none
    → unless (f then g) result new old ≡ unless g result new old
unfolding ◌then◌
unless_then f g result new old e = rw e

pub finished_none : {Result Lent : Type 0} (f : Fault) (result : Result) (new old : Lent) {r : Result}
    → (unless f result new old).answer ≡ finished r → (f ≡ none) × (result ≡ r)
unfolding unless
finished_none none result new old e = (refl, (cc))
finished_none (fault k o) result new old e =
    let z : ◌≡◌ {A = ℕ} 0 1 = cc in
    absurd (omega arith)

pub refused_fault : {Result Lent : Type 0} (f : Fault) (result : Result) (new old : Lent) {k o : ℕ}
    → (unless f result new old).answer ≡ refused k o → f ≡ fault k o
unfolding unless
refused_fault none result new old e =
    let z : ◌≡◌ {A = ℕ} 0 1 = cc in
    absurd (omega arith)
refused_fault (fault j p) result new old {k} {o} e =
    let ek : j ≡ k = cc in
    let eo : p ≡ o = cc in
    rw (ek, eo)
