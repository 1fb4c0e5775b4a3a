-- Donors and recipients: the order of the cycles, each other's inverse, and those of Algorithm 1. Assumes nothing.
use Prim.Native.Nat.{ℕ, zero, suc, ◌≤◌, ◌<◌}
use mathlib.Core.Bool.{true, false, cond}
use mathlib.Core.List.Memᴰ
use mathlib.Core.List.{List, [], ◌∷◌, ◌++◌, map, flat_map, Memᴰ}
use mathlib.Core.Logic.{inl, inr}
use mathlib.Core.Path.{◌≡◌, refl, sym, ap, ap₂, ◌∙◌}
use native.Mathlib.Omega.{arith}
use native.Mathlib.Nat.{eq-zero-or-pos}
use native.Mathlib.Decide.{dec_lt}
use lib.Dec.{eqb, ltb}
use lib.ListN.{length, get_or, length-append, length-map, get_or-append}
use lib.Seq.{get_or_at}
use borrow.Author.Tests.{lt-ltb, le-ltb, eq-eqb, ne_eqb, leb-true, le-leb, lt-leb}
use Rattle.laws.specs.Below.{ExactlyOne}
use Rattle.greedy.specs.Places.{among}
use Rattle.greedy.proofs.Counts.{times, NoneTwice, AllBelow, Alike, one_eq, same, other, same?, times_append, times_cons, among_times}
use Rattle.exchange.specs.Subsets.{Edge, along, edges, pairs_at}
use Rattle.exchange.specs.Resolution.{recipient_by, donor_by}
use Rattle.exchange.specs.Input.{Input}
use Rattle.exchange.specs.Algorithm1 as Algorithm1
use Rattle.exchange.specs.Algorithm1.{next, Partner}
use Rattle.exchange.specs.Algorithm1.Partner.{somebody, nobody}
use Rattle.exchange.specs.Promises.{GivingOrder, Consistent}
use Rattle.exchange.specs.Rivals.{Each}
use Rattle.exchange.proofs.Ordered.{each_append}
use Rattle.exchange.proofs.Charged.{joined}
use Rattle.exchange.proofs.Sets.{Inside, edges_inside, below_pool}

-- ---- donors are recipients along the edges turned round

abbrev pub turned : Edge → Edge
turned e = record { donor = e.patient; patient = e.donor }

pub donor_turned : (es : List Edge) (none i : ℕ) → donor_by es none i ≡ recipient_by (map turned es) none i
unfolding donor_by recipient_by
donor_turned [] none i = refl
donor_turned (e ∷ es) none i = ap (cond (eqb i e.patient) e.donor) (donor_turned es none i)

abbrev pub from : List Edge → List ℕ
from es = map (λ (e : Edge). e.donor) es

abbrev to : List Edge → List ℕ
to es = map (λ (e : Edge). e.patient) es

-- ---- whom a donor gives to

pub absent : (es : List Edge) (none i : ℕ) → times i (from es) ≡ 0 → recipient_by es none i ≡ none
unfolding recipient_by times
absent [] none i h = refl
absent (e ∷ es) none i h = elim (same? i e.donor) [
  | same q z ↦ absurd (omega arith)
  | other q z ↦ rw (ne_eqb i e.donor q) (absent es none i (omega arith))
]

named : (es : List Edge) (e : Edge) → Memᴰ e es → 1 ≤ times e.donor (from es)
unfolding times
named [] e x' = elim x' [ ]
named (d ∷ es) e (Memᴰ.head q) = omega (arith, one_eq e.donor d.donor (ap (λ (x : Edge). x.donor) q))
named (d ∷ es) e (Memᴰ.tail k) = omega (arith, named es e k)

present : (es : List Edge) (none : ℕ) (e : Edge) → Memᴰ e es → NoneTwice (from es) → recipient_by es none e.donor ≡ e.patient
unfolding recipient_by times
present [] none e x'' o = elim x'' [ ]
present (d ∷ es) none e (Memᴰ.head q) o =
    rw (eq-eqb e.donor d.donor (ap (λ (x : Edge). x.donor) q)) (ap (λ (x : Edge). x.patient) (sym q))
present (d ∷ es) none e (Memᴰ.tail k) o = elim (same? e.donor d.donor) [
  | same q z ↦ absurd (omega (arith, o e.donor, named es e k))
  | other q z ↦ rw (ne_eqb e.donor d.donor q) (present es none e k (λ p. omega (arith, o p)))
]

found : (es : List Edge) (i : ℕ) → 1 ≤ times i (from es) → (e : Edge) × Memᴰ e es × (e.donor ≡ i)
unfolding times
found [] i h = absurd (omega arith)
found (e ∷ es) i h = elim (same? i e.donor) [
  | same q z ↦ (e, Memᴰ.head refl, sym q)
  | other q z ↦ let r = found es i (omega arith) in (r.0, Memᴰ.tail r.1, r.2)
]

mem_turned : (e : Edge) (es : List Edge) → Memᴰ e es → Memᴰ (turned e) (map turned es)
mem_turned e [] x' = elim x' [ ]
mem_turned e (d ∷ es) (Memᴰ.head q) = Memᴰ.head (ap (λ (x : Edge). turned x) q)
mem_turned e (d ∷ es) (Memᴰ.tail k) = Memᴰ.tail (mem_turned e es k)

pub from_turned : (es : List Edge) → from (map turned es) ≡ to es
from_turned [] = refl
from_turned (e ∷ es) = ap (λ (l : List ℕ). e.patient ∷ l) (from_turned es)

to_turned : (es : List Edge) → to (map turned es) ≡ from es
to_turned [] = refl
to_turned (e ∷ es) = ap (λ (l : List ℕ). e.donor ∷ l) (to_turned es)

twice : (es : List Edge) → map turned (map turned es) ≡ es
twice [] = refl
twice (e ∷ es) = ap (λ (l : List Edge). e ∷ l) (twice es)

each_mem : {A : Type 0} (P : A → Type 0) (x : A) (xs : List A) → Memᴰ x xs → Each P xs → P x
each_mem {A = A} P x [] x3 h = elim x3 [ ]
each_mem P x (y ∷ xs) (Memᴰ.head e) h = rw e h.0
each_mem P x (y ∷ xs) (Memᴰ.tail k) h = each_mem P x xs k h.1

pub each_turned : (n : ℕ) (es : List Edge) → Each (Inside n) es → Each (Inside n) (map turned es)
each_turned n [] h = tt
each_turned n (e ∷ es) h = ((h.0.1, h.0.0), each_turned n es h.1)

-- ---- one way round: edges between n pairs, no donor in two

module _ (n : ℕ) (es : List Edge) (inside : Each (Inside n) es) (once : NoneTwice (from es)) where
  gives : (i : ℕ) → recipient_by es n i < n → (e : Edge) × Memᴰ e es × (e.donor ≡ i)
  gives i h = elim (eq-zero-or-pos (times i (from es))) [
    | inl z ↦ absurd (omega (arith, absent es n i z))
    | inr z ↦ found es i z
  ]

  given : (i : ℕ) → 1 ≤ times i (from es) → recipient_by es n i < n
  given i h =
      let r = found es i h in
      omega (arith, (each_mem (Inside n) r.0 es r.1 inside).1, rw r.2 at (present es n r.0 r.1 once))

  -- whom i's donor gives to has i's donor
  back : NoneTwice (to es) → (i j : ℕ) → j < n → recipient_by es n i ≡ j → donor_by es n j ≡ i
  back o i j h e =
      let r = gives i (omega arith) in
      let q : recipient_by es n i ≡ r.0.patient = rw r.2 at (present es n r.0 r.1 once) in
      let p : j ≡ r.0.patient = sym e ∙ q in
      donor_turned es n j ∙ (rw p (present (map turned es) n (turned r.0) (mem_turned r.0 es r.1) (rw (from_turned es) o) ∙ r.2))

-- ---- the edges of cycles: each pair of theirs gives once and receives once

from_along : (xs : List ℕ) (b : ℕ) → from (along (xs ++ (b ∷ []))) ≡ xs
unfolding along
from_along [] b = refl
from_along (a ∷ []) b = refl
from_along (a ∷ c ∷ xs) b = ap (λ (l : List ℕ). a ∷ l) (from_along (c ∷ xs) b)

to_along : (a : ℕ) (xs : List ℕ) → to (along (a ∷ xs)) ≡ xs
unfolding along
to_along a [] = refl
to_along a (b ∷ xs) = ap (λ (l : List ℕ). b ∷ l) (to_along b xs)

from_edges : (c : List ℕ) → from (edges c) ≡ c
unfolding edges
from_edges [] = refl
from_edges (a ∷ c) = from_along (a ∷ c) a

to_edges : (c : List ℕ) → Alike (to (edges c)) c
unfolding edges times
to_edges [] p = refl
to_edges (a ∷ c) p = rw (to_along a (c ++ (a ∷ []))) (omega (arith, times_append p c (a ∷ []), times_cons p a []))

map-edges : (f : Edge → ℕ) (a b : List Edge) → map f (a ++ b) ≡ map f a ++ map f b
map-edges f [] b = refl
map-edges f (x ∷ a) b = ap (λ (l : List ℕ). f x ∷ l) (map-edges f a b)

pub from_all : (cs : List (List ℕ)) → from (flat_map edges cs) ≡ joined cs
unfolding flat_map joined
from_all [] = refl
from_all (c ∷ cs) = map-edges (λ (e : Edge). e.donor) (edges c) (flat_map edges cs) ∙ ap₂ ◌++◌ (from_edges c) (from_all cs)

pub to_all : (cs : List (List ℕ)) → Alike (to (flat_map edges cs)) (joined cs)
unfolding flat_map joined
to_all [] p = refl
to_all (c ∷ cs) p = rw (map-edges (λ (e : Edge). e.patient) (edges c) (flat_map edges cs)) (omega (
  arith,
  times_append p (to (edges c)) (to (flat_map edges cs)),
  times_append p c (joined cs),
  to_edges c p,
  to_all cs p,
))

pub edges_all : (n : ℕ) (cs : List (List ℕ)) → Each (AllBelow n) cs → Each (Inside n) (flat_map edges cs)
unfolding flat_map
edges_all n [] h = tt
edges_all n (c ∷ cs) h = each_append (Inside n) (edges c) (flat_map edges cs) (edges_inside n c (below_pool n c h.0)) (edges_all n cs h.1)

-- ---- the edge from a place of a cycle to the next, and from the last to the first

abbrev edge : ℕ → ℕ → Edge
edge a b = record { donor = a; patient = b }

along_at : (xs : List ℕ) (q : ℕ) → suc q < length xs → Memᴰ (edge (get_or xs q 0) (get_or xs (suc q) 0)) (along xs)
unfolding along
along_at [] q h = absurd (omega arith)
along_at (a ∷ []) q h = absurd (omega arith)
along_at (a ∷ b ∷ xs) zero h = Memᴰ.head refl
along_at (a ∷ b ∷ xs) (suc q) h = Memᴰ.tail (along_at (b ∷ xs) q (omega arith))

edge-next : (c : List ℕ) (q : ℕ) → suc q < length c → Memᴰ (edge (get_or c q 0) (get_or c (suc q) 0)) (edges c)
unfolding edges
edge-next [] q h = absurd (omega arith)
edge-next (a ∷ c) q h = Memᴰ.cast
    (ap₂ edge (sym (get_or-append (a ∷ c) (a ∷ []) 0 q (omega arith))) (sym (get_or-append (a ∷ c) (a ∷ []) 0 (suc q) h)))
    (along_at (a ∷ c ++ (a ∷ [])) q (omega (arith, length-append (a ∷ c) (a ∷ []))))

edge_last : (c : List ℕ) (q : ℕ) → suc q ≡ length c → Memᴰ (edge (get_or c q 0) (get_or c 0 0)) (edges c)
unfolding edges
edge_last [] q h = absurd (omega arith)
edge_last (a ∷ c) q h = Memᴰ.cast
    (ap₂ edge (sym (get_or-append (a ∷ c) (a ∷ []) 0 q (omega arith))) (sym (get_or_at (a ∷ c) a [] 0 (suc q) (sym h))))
    (along_at (a ∷ c ++ (a ∷ [])) q (omega (arith, length-append (a ∷ c) (a ∷ []))))

edge_at : (c : List ℕ) (k : ℕ) → k < length c → Memᴰ (edge (get_or c k 0) (get_or c (next (length c) k) 0)) (edges c)
unfolding next
edge_at c k h = elim (dec_lt (suc k) (length c)) [
  | yes z ↦ rw (lt-ltb (suc k) (length c) z) (edge-next c k z)
  | no z ↦ rw (le-ltb (suc k) (length c) (omega arith)) (edge_last c k (omega arith))
]

next-below : (size k : ℕ) → k < size → next size k < size
unfolding next
next-below size k h = elim (dec_lt (suc k) size) [
  | yes z ↦ rw (lt-ltb (suc k) size z) z
  | no z ↦ rw (le-ltb (suc k) size (omega arith)) (omega arith)
]

-- and each edge of a cycle goes from a place to the next

record Step (c : List ℕ) (i j : ℕ) : Type 0 where
  at : ℕ
  within : at < length c
  giver : get_or c at 0 ≡ i
  receiver : get_or c (next (length c) at) 0 ≡ j

along_place : (xs : List ℕ) (e : Edge) → Memᴰ e (along xs)
    → (k : ℕ) × (suc k < length xs) × (get_or xs k 0 ≡ e.donor) × (get_or xs (suc k) 0 ≡ e.patient)
unfolding along
along_place [] e x' = elim x' [ ]
along_place (a ∷ []) e x4 = elim x4 [ ]
along_place (a ∷ b ∷ xs) e (Memᴰ.head q) = (0, omega arith, ap (λ (x : Edge). x.donor) (sym q), ap (λ (x : Edge). x.patient) (sym q))
along_place (a ∷ b ∷ xs) e (Memᴰ.tail k) = let r = along_place (b ∷ xs) e k in (suc r.0, omega (arith, r.1), r.2, r.3)

edge_place : (c : List ℕ) (e : Edge) → Memᴰ e (edges c) → Step c e.donor e.patient
unfolding edges next
edge_place [] e m = elim m [ ]
edge_place (a ∷ c) e m =
    let r = along_place (a ∷ c ++ (a ∷ [])) e m in
    let h : r.0 < length (a ∷ c) = omega (arith, r.1, length-append (a ∷ c) (a ∷ [])) in
    record { at = r.0; within = h; giver = sym (get_or-append (a ∷ c) (a ∷ []) 0 r.0 h) ∙ r.2; receiver = closing r.0 h ∙ r.3 }
  where
    closing : (k : ℕ) → k < length (a ∷ c) → get_or (a ∷ c) (cond (ltb (suc k) (length (a ∷ c))) (suc k) 0) 0 ≡ get_or (a ∷ c ++ (a ∷ [])) (suc k) 0
    closing k h = elim (dec_lt (suc k) (length (a ∷ c))) [
      | yes z ↦ rw (lt-ltb (suc k) (length (a ∷ c)) z) (sym (get_or-append (a ∷ c) (a ∷ []) 0 (suc k) z))
      | no z ↦ rw (le-ltb (suc k) (length (a ∷ c)) (omega arith)) (sym (get_or_at (a ∷ c) a [] 0 (suc k) (omega arith)))
    ]

mem_all : (e : Edge) (c : List ℕ) (cs : List (List ℕ)) → Memᴰ c cs → Memᴰ e (edges c) → Memᴰ e (flat_map edges cs)
unfolding flat_map
mem_all e c [] x'' k = elim x'' [ ]
mem_all e c (d ∷ cs) (Memᴰ.head q) k = Memᴰ.append_left (flat_map edges cs) (rw q at k)
mem_all e c (d ∷ cs) (Memᴰ.tail m) k = Memᴰ.append_right (edges d) (mem_all e c cs m k)

all_place : (e : Edge) (cs : List (List ℕ)) → Memᴰ e (flat_map edges cs) → (c : List ℕ) × Memᴰ c cs × Memᴰ e (edges c)
unfolding flat_map
all_place e [] k = elim k [ ]
all_place e (c ∷ cs) k = elim (Memᴰ.append_cases (edges c) k) [
  | inl m ↦ (c, Memᴰ.head refl, m)
  | inr m ↦ let r = all_place e cs m in (r.0, Memᴰ.tail r.1, r.2)
]

each_is : {A : Type 0} (P : A → Type 0) (xs : List A) → ((x : A) → Memᴰ x xs → P x) → Each P xs
each_is P [] h = tt
each_is P (x ∷ xs) h = (h x (Memᴰ.head refl), each_is P xs (λ y k. h y (Memᴰ.tail k)))

-- ---- in exactly one cycle

joined_at : (cs : List (List ℕ)) (k i : ℕ) → times i (get_or cs k []) ≤ times i (joined cs)
unfolding joined
joined_at [] k i = omega arith
joined_at (c ∷ cs) zero i = omega (arith, times_append i c (joined cs))
joined_at (c ∷ cs) (suc k) i = omega (arith, times_append i c (joined cs), joined_at cs k i)

is_among : (i : ℕ) (c : List ℕ) → 1 ≤ times i c → among i c ≡ true
is_among i c h = among_times i c ∙ le-leb 1 (times i c) h

among_is : (i : ℕ) (c : List ℕ) → among i c ≡ true → 1 ≤ times i c
among_is i c h = leb-true 1 (times i c) (sym (among_times i c) ∙ h)

not_among : (i : ℕ) (c : List ℕ) → times i c ≡ 0 → among i c ≡ false
not_among i c h = among_times i c ∙ lt-leb 1 (times i c) (omega arith)

in_one_lem : (i : ℕ) (cs : List (List ℕ)) → NoneTwice (joined cs) → 1 ≤ times i (joined cs) → ExactlyOne (length cs) (λ k. among i (get_or cs k []) ≡ true)
unfolding joined times
in_one_lem i [] o h = absurd (omega arith)
in_one_lem i (c ∷ cs) o h = elim (eq-zero-or-pos (times i c)) [
  | inr z ↦ record { at = 0; below = omega arith; there = is_among i c z; only = λ k y e. first k e z }
  | inl z ↦
      let r = in_one_lem i cs (λ p. omega (arith, o p, times_append p c (joined cs))) (omega (arith, h, times_append i c (joined cs))) in
      record { at = suc r.at; below = omega (arith, r.below); there = r.there; only = λ k y e. later k y e z (λ j q d. r.only j q d) }
]
  where
    first : (k : ℕ) → among i (get_or (c ∷ cs) k []) ≡ true → 1 ≤ times i c → k ≡ 0
    first zero e z = refl
    first (suc k) e z = absurd (omega (arith, o i, times_append i c (joined cs), joined_at cs k i, among_is i (get_or cs k []) e))

    later : {at : ℕ} (k : ℕ) → k < length (c ∷ cs) → among i (get_or (c ∷ cs) k []) ≡ true → times i c ≡ 0
        → ((j : ℕ) → j < length cs → among i (get_or cs j []) ≡ true → j ≡ at) → k ≡ suc at
    later zero y e z g = absurd (omega (arith, among_is i c e))
    later (suc k) y e z g = ap suc (g k (omega arith) e)

-- ---- the two tables

module _ (n : ℕ) (cs : List (List ℕ)) (below : Each (AllBelow n) cs) (once : NoneTwice (joined cs)) where
  es : List Edge
  es = flat_map edges cs

  inside : Each (Inside n) es
  unfolding es
  inside = edges_all n cs below

  gives_once : NoneTwice (from es)
  unfolding es
  gives_once = rw (from_all cs) once

  receives_once : NoneTwice (to es)
  unfolding es
  receives_once p = omega (arith, to_all cs p, once p)

  turned_once : NoneTwice (from (map turned es))
  turned_once = rw (from_turned es) receives_once

  -- a donor is a recipient the other way round
  recipient_turned : (i : ℕ) → donor_by (map turned es) n i ≡ recipient_by es n i
  recipient_turned i = donor_turned (map turned es) n i ∙ ap (λ (l : List Edge). recipient_by l n i) (twice es)

  forth : (i j : ℕ) → i < n → donor_by es n j ≡ i → recipient_by es n i ≡ j
  forth i j h e =
      sym (recipient_turned i)
      ∙ back n (map turned es) (each_turned n es inside) turned_once (rw (to_turned es) gives_once) j i h (sym (donor_turned es n j) ∙ e)

  recipient_known : (i : ℕ) → recipient_by es n i ≤ n
  recipient_known i = elim (eq-zero-or-pos (times i (from es))) [
    | inl z ↦ omega (arith, absent es n i z)
    | inr z ↦ omega (arith, given n es inside gives_once i z)
  ]

  -- a pair gives if and only if it is in a cycle, and receives if and only if it is
  gives_in : (i : ℕ) → recipient_by es n i < n → 1 ≤ times i (joined cs)
  unfolding es
  gives_in i h = elim (eq-zero-or-pos (times i (from es))) [
    | inl z ↦ absurd (omega (arith, absent es n i z))
    | inr z ↦ rw (from_all cs) at z
  ]

  in_gives : (i : ℕ) → 1 ≤ times i (joined cs) → recipient_by es n i < n
  unfolding es
  in_gives i h = given n es inside gives_once i (rw (from_all cs) h)

  receives_in : (i : ℕ) → donor_by es n i < n → 1 ≤ times i (joined cs)
  unfolding es
  receives_in i h = elim (eq-zero-or-pos (times i (to es))) [
    | inl z ↦ absurd (omega (arith, donor_turned es n i, absent (map turned es) n i (rw (from_turned es) z)))
    | inr z ↦ omega (arith, to_all cs i)
  ]

  in_receives : (i : ℕ) → 1 ≤ times i (joined cs) → donor_by es n i < n
  unfolding es
  in_receives i h =
      let k : 1 ≤ times i (to es) = omega (arith, to_all cs i) in
      omega (arith, donor_turned es n i, given n (map turned es) (each_turned n es inside) turned_once i (rw (from_turned es) k))

  donor_known_lem : (i : ℕ) → donor_by es n i ≤ n
  donor_known_lem i = elim (eq-zero-or-pos (times i (from (map turned es)))) [
    | inl z ↦ omega (arith, donor_turned es n i, absent (map turned es) n i z)
    | inr z ↦ omega (arith, donor_turned es n i, given n (map turned es) (each_turned n es inside) turned_once i z)
  ]

  -- the two ends of an edge
  gives_to : (e : Edge) → Memᴰ e es → recipient_by es n e.donor ≡ e.patient
  gives_to e k = present es n e k gives_once

  receives_from : (e : Edge) → Memᴰ e es → donor_by es n e.patient ≡ e.donor
  receives_from e k = donor_turned es n e.patient ∙ present (map turned es) n (turned e) (mem_turned e es k) turned_once

  pub consistent : (donors recipients : List ℕ) → ((i : ℕ) → i < n → get_or donors i 0 ≡ donor_by (flat_map edges cs) n i)
      → ((i : ℕ) → i < n → get_or recipients i 0 ≡ recipient_by (flat_map edges cs) n i) → Consistent n cs donors recipients
  unfolding es
  consistent donors recipients d r = record {
    inverse = λ i j h k. (
      λ e. d j k ∙ back n es inside gives_once receives_once i j k (sym (r i h) ∙ e),
      λ e. r i h ∙ forth i j h (sym (d j k) ∙ e),
    );
    both = λ i h. (
      λ e. omega (arith, d i h, in_receives i (gives_in i (omega (arith, r i h)))),
      λ e. omega (arith, r i h, in_gives i (receives_in i (omega (arith, d i h)))),
    );
    in_one = λ i h e. in_one_lem i cs once (gives_in i (omega (arith, r i h)));
    in_none = λ i k h e. not_among i (get_or cs k []) (absent_at i k h e);
    known = λ i h. omega (arith, r i h, recipient_known i);
    donor_known = λ i h. omega (arith, d i h, donor_known_lem i);
    in_order = each_is (λ (c : List ℕ). GivingOrder c donors recipients) cs (λ c k. record {
      gives = λ q h. recipient_of _ (mem_all _ c cs k (edge_at c q h));
      receives = λ q h. donor_of _ (mem_all _ c cs k (edge_at c q h));
    });
  }
    where
      recipient_of : (e : Edge) → Memᴰ e es → get_or recipients e.donor 0 ≡ e.patient
      recipient_of e k = r e.donor (each_mem (Inside n) e es k inside).0 ∙ gives_to e k

      donor_of : (e : Edge) → Memᴰ e es → get_or donors e.patient 0 ≡ e.donor
      donor_of e k = d e.patient (each_mem (Inside n) e es k inside).1 ∙ receives_from e k

      absent_at : (i k : ℕ) → i < n → get_or recipients i 0 ≡ n → times i (get_or cs k []) ≡ 0
      absent_at i k h e = elim (eq-zero-or-pos (times i (get_or cs k []))) [
        | inl z ↦ z
        | inr z ↦ absurd (omega (arith, r i h, in_gives i (omega (arith, joined_at cs k i))))
      ]

-- ---- the partners of Algorithm 1

-- edges of which no donor is in two: the partner of i, or none
partner_by : (n : ℕ) (es : List Edge) → NoneTwice (from es) → (i : ℕ) → Partner n (λ j. Memᴰ (edge i j) es) (recipient_by es n i)
partner_by n es once i = elim (eq-zero-or-pos (times i (from es))) [
  | inl z ↦ nobody (absent es n i z) (λ j k. omega (arith, named es (edge i j) k))
  | inr z ↦
      let r = found es i z in
      let e : recipient_by es n i ≡ r.0.patient = rw r.2 at (present es n r.0 r.1 once) in
      somebody (Memᴰ.cast (ap₂ edge (sym r.2) e) r.1) (λ j k. sym (present es n (edge i j) k once))
]

-- the same partner, said in other words
partner_as : {n v : ℕ} {P Q : ℕ → Type 0} → ((j : ℕ) → P j → Q j) → ((j : ℕ) → Q j → P j) → Partner n P v → Partner n Q v
partner_as to back (somebody p only) = somebody (to _ p) (λ j h. only j (back j h))
partner_as to back (nobody e alone) = nobody e (λ j h. alone j (back j h))

-- a cycle of nodes, and its pairs

pair_at_lem : (s c : List ℕ) (k : ℕ) → k < length c → get_or (pairs_at s c) k 0 ≡ get_or s (get_or c k 0) 0
unfolding pairs_at
pair_at_lem s [] k h = absurd (omega arith)
pair_at_lem s (p ∷ c) zero h = refl
pair_at_lem s (p ∷ c) (suc k) h = pair_at_lem s c k (omega arith)

pairs_long : (s c : List ℕ) → length (pairs_at s c) ≡ length c
unfolding pairs_at
pairs_long s c = length-map c (λ (p : ℕ). get_or s p 0)

mem_mapped : (f : List ℕ → List ℕ) (d : List ℕ) (cs : List (List ℕ)) → Memᴰ d (map f cs) → (c : List ℕ) × Memᴰ c cs × (d ≡ f c)
mem_mapped f d [] x' = elim x' [ ]
mem_mapped f d (c ∷ cs) (Memᴰ.head q) = (c, Memᴰ.head refl, q)
mem_mapped f d (c ∷ cs) (Memᴰ.tail k) = let r = mem_mapped f d cs k in (r.0, Memᴰ.tail r.1, r.2)

module _ (q : Input) where
  abbrev cycles : List (List ℕ)
  cycles = map (pairs_at q.shuffle) (Algorithm1.chosen_cycles q)

  gives_edge : (i j : ℕ) → Algorithm1.Gives q i j → Memᴰ (edge i j) (flat_map edges cycles)
  gives_edge i j g =
      let s : List ℕ = q.shuffle in
      let c : List ℕ = g.cycle in
      let long : length (pairs_at s c) ≡ length c = pairs_long s c in
      mem_all _ (pairs_at s c) cycles (Memᴰ.map (pairs_at s) g.chosen)
      (Memᴰ.cast
      (ap₂ edge (sym (pair_at_lem s c g.at g.within ∙ g.giver))
      (sym (ap (λ (k : ℕ). get_or (pairs_at s c) (next k g.at) 0) long ∙ pair_at_lem s c (next (length c) g.at) (next-below (length c) g.at g.within) ∙ g.receiver)))
      (edge_at (pairs_at s c) g.at (omega (arith, long, g.within))))

  edge_gives : (i j : ℕ) → Memᴰ (edge i j) (flat_map edges cycles) → Algorithm1.Gives q i j
  edge_gives i j k =
      let s : List ℕ = q.shuffle in
      let r = all_place (edge i j) cycles k in
      let m = mem_mapped (pairs_at s) r.0 (Algorithm1.chosen_cycles q) r.1 in
      let c : List ℕ = m.0 in
      let long : length (pairs_at s c) ≡ length c = pairs_long s c in
      let step : Step (pairs_at s c) i j = edge_place (pairs_at s c) (edge i j) (rw m.2 at r.2) in
      let h : step.at < length c = omega (arith, step.within, long) in
      record {
        cycle = c;
        chosen = m.1;
        at = step.at;
        within = h;
        giver = sym (pair_at_lem s c step.at h) ∙ step.giver;
        receiver =
            sym (pair_at_lem s c (next (length c) step.at) (next-below (length c) step.at h))
            ∙ ap (λ (l : ℕ). get_or (pairs_at s c) (next l step.at) 0) (sym long)
            ∙ step.receiver;
      }

  turned_edge : (i j : ℕ) → Memᴰ (edge j i) (map turned (flat_map edges cycles)) → Memᴰ (edge i j) (flat_map edges cycles)
  turned_edge i j k = rw (twice (flat_map edges cycles)) at (mem_turned (edge j i) (map turned (flat_map edges cycles)) k)

  module _ (once : NoneTwice (joined cycles)) (donors recipients : List ℕ)
      (d : (i : ℕ) → i < q.scope.pairs → get_or donors i 0 ≡ donor_by (flat_map edges cycles) q.scope.pairs i)
      (r : (i : ℕ) → i < q.scope.pairs → get_or recipients i 0 ≡ recipient_by (flat_map edges cycles) q.scope.pairs i) where
    pub algorithm_partners : Algorithm1.Partners q donors recipients
    algorithm_partners =
        let n : ℕ = q.scope.pairs in
        let es : List Edge = flat_map edges cycles in
        record {
          recipient = λ i h. rw (r i h)
              (partner_as (edge_gives i) (gives_edge i) (partner_by n es (rw (from_all cycles) once) i));
          donor = λ j h. rw (d j h ∙ donor_turned es n j)
              (partner_as
              (λ i k. edge_gives i j (turned_edge i j k))
              (λ i g. mem_turned (edge i j) es (gives_edge i j g))
              (partner_by n (map turned es) (rw (from_turned es) (λ p. omega (arith, to_all cycles p, once p))) j));
        }
