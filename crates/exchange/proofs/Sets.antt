-- "Different pairs", "no pair in two of them" and "executable", by counts and by weight. Assumes nothing.
use Prim.Native.Nat.{ℕ, ◌≤◌, ◌<◌}
use mathlib.Core.Bool.{false}
use mathlib.Core.List.{List, [], ◌∷◌, ◌++◌}
use mathlib.Core.Logic.{inl, inr}
use mathlib.Core.Path.{◌≡◌, refl, sym, ap, ◌∙◌}
use native.Mathlib.Omega.{arith}
use native.Mathlib.Nat.{eq-zero-or-pos, zero-mul, mul-zero}
use borrow.Author.Tests.{leb-false, lt-leb}
use Rattle.greedy.specs.Places.{among, meets}
use Rattle.greedy.proofs.Counts.{times, shared, NoneTwice, AllBelow, one_same, same, other, same?, times_append, shared_both, among_times, meets_shared, below-head, below_tail}
use Rattle.exchange.specs.Subsets.{Edge, along, edges, product_of, weigh}
use Rattle.exchange.specs.Rivals.{Each, Different, Executable, Apart}
use Rattle.exchange.proofs.Ordered.{each_append}
use Rattle.exchange.proofs.Charged.{joined}

-- ---- pairs of the pool

pub pool_below : (n : ℕ) (c : List ℕ) → Each (λ (p : ℕ). p < n) c → AllBelow n c
unfolding times
pool_below n [] h p k = refl
pool_below n (q ∷ c) h p k = elim (same? p q) [ same e z ↦ absurd (omega (arith, h.0)) | other e z ↦ omega (arith, pool_below n c h.1 p k) ]

pub below_pool : (n : ℕ) (c : List ℕ) → AllBelow n c → Each (λ (p : ℕ). p < n) c
below_pool n [] h = tt
below_pool n (q ∷ c) h = (below-head n q c h, below_pool n c (below_tail n q c h))

-- ---- different

among_none : (p : ℕ) (c : List ℕ) → among p c ≡ false → times p c ≡ 0
among_none p c h = omega (arith, leb-false 1 (times p c) (sym (among_times p c) ∙ h))

pub none_among : (p : ℕ) (c : List ℕ) → times p c ≡ 0 → among p c ≡ false
none_among p c h = among_times p c ∙ lt-leb 1 (times p c) (omega arith)

different_once : (c : List ℕ) → Different c → NoneTwice c
unfolding times
different_once [] h p = omega arith
different_once (q ∷ c) h p = elim (same? p q) [
  | same e z ↦ omega (arith, ap (λ (x : ℕ). times x c) e, among_none q c h.0)
  | other e z ↦ omega (arith, different_once c h.1 p)
]

pub once_different : (c : List ℕ) → NoneTwice c → Different c
unfolding times
once_different [] h = tt
once_different (q ∷ c) h = (none_among q c (omega (arith, h q, one_same q)), once_different c (λ p. omega (arith, h p)))

-- ---- no pair in two

meets_none : (c d : List ℕ) → meets c d ≡ false → (p : ℕ) → 1 ≤ times p c → times p d ≡ 0
meets_none c d h p k = omega (arith, leb-false 1 (shared c d) (sym (meets_shared c d) ∙ h), shared_both p c d k)

none_meets : (c d : List ℕ) → ((p : ℕ) → 1 ≤ times p c → times p d ≡ 0) → meets c d ≡ false
unfolding shared times
none_meets c d h = meets_shared c d ∙ lt-leb 1 (shared c d) (omega (arith, none c h))
  where
    none : (c : List ℕ) → ((p : ℕ) → 1 ≤ times p c → times p d ≡ 0) → shared c d ≡ 0
    none [] h = refl
    none (q ∷ c) h = omega (arith, h q (omega (arith, one_same q)), none c (λ p k. h p (omega arith)))

apart_none : (c : List ℕ) (cs : List (List ℕ)) → Each (λ (d : List ℕ). meets c d ≡ false) cs → (p : ℕ) → 1 ≤ times p c → times p (joined cs) ≡ 0
unfolding joined times
apart_none c [] h p k = refl
apart_none c (d ∷ cs) h p k = rw times_append (omega (arith, meets_none c d h.0 p k, apart_none c cs h.1 p k))

pub apart_once : (cs : List (List ℕ)) → Each Different cs → Apart cs → NoneTwice (joined cs)
unfolding joined times
apart_once [] h k p = omega arith
apart_once (c ∷ cs) h k p = rw times_append (elim (eq-zero-or-pos (times p c)) [
  | inl e ↦ omega (arith, apart_once cs h.1 k.1 p)
  | inr e ↦ omega (arith, different_once c h.0 p, apart_none c cs k.0 p e)
])

pub once_each : (cs : List (List ℕ)) → NoneTwice (joined cs) → Each NoneTwice cs
unfolding joined
once_each [] h = tt
once_each (c ∷ cs) h = ((λ p. omega (arith, h p, times_append p c (joined cs))), once_each cs (λ p. omega (arith, h p, times_append p c (joined cs))))

pub once_apart : (cs : List (List ℕ)) → NoneTwice (joined cs) → Apart cs
unfolding joined
once_apart [] h = tt
once_apart (c ∷ cs) h = (later cs (λ p k. omega (arith, h p, times_append p c (joined cs))), once_apart cs (λ p. omega (arith, h p, times_append p c (joined cs))))
  where
    later : (ds : List (List ℕ)) → ((p : ℕ) → 1 ≤ times p c → times p (joined ds) ≡ 0) → Each (λ (d : List ℕ). meets c d ≡ false) ds
    later [] k = tt
    later (d ∷ ds) k = (none_meets c d (λ p z. omega (arith, k p z, times_append p d (joined ds))), later ds (λ p z. omega (arith, k p z, times_append p d (joined ds))))

-- ---- executable: where M entries are 0 or 1, a cycle that has a weight

module _ (n : ℕ) where
  -- an edge between pairs of the pool
  abbrev pub Inside : Edge → Type 0
  Inside e = (e.donor < n) × (e.patient < n)

  along_inside : (c : List ℕ) → Each (λ (p : ℕ). p < n) c → Each Inside (along c)
  unfolding along
  along_inside [] h = tt
  along_inside (a ∷ []) h = tt
  along_inside (a ∷ b ∷ c) h = ((h.0, h.1.0), along_inside (b ∷ c) h.1)

  pub edges_inside : (c : List ℕ) → Each (λ (p : ℕ). p < n) c → Each Inside (edges c)
  unfolding edges
  edges_inside [] h = tt
  edges_inside (a ∷ c) h = along_inside (a ∷ c ++ (a ∷ [])) (each_append (λ (p : ℕ). p < n) (a ∷ c) (a ∷ []) h (h.0, tt))

  module _ (m : ℕ → ℕ → ℕ) (bits : (i j : ℕ) → i < n → j < n → m i j ≤ 1) where
    pub product_executable : (es : List Edge) → Each Inside es → 0 < product_of m es → Each (λ (e : Edge). m e.donor e.patient ≡ 1) es
    unfolding product_of
    product_executable [] h k = tt
    product_executable (e ∷ es) h k = elim (eq-zero-or-pos (m e.donor e.patient)) [
      | inl z ↦ absurd (omega (arith, rw (z, zero-mul) at k))
      | inr z ↦ elim (eq-zero-or-pos (product_of m es)) [
        | inl y ↦ absurd (omega (arith, rw (y, mul-zero) at k))
        | inr y ↦ (omega (arith, bits e.donor e.patient h.0.0 h.0.1), product_executable es h.1 y)
      ]
    ]

    pub weigh_executable : (w : ℕ → ℕ → ℕ) (c : List ℕ) → Each (λ (p : ℕ). p < n) c → 0 < weigh m w c → Executable m c
    unfolding weigh
    weigh_executable w c h k = elim (eq-zero-or-pos (product_of m (edges c))) [
      | inl z ↦ absurd (omega (arith, rw (z, zero-mul) at k))
      | inr z ↦ product_executable (edges c) (edges_inside c h) z
    ]
