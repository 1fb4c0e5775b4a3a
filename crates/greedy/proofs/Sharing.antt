-- Two lists share a place where some place stands in both. Assumes nothing.
use Prim.Native.Nat.{ℕ}
use mathlib.Core.Bool.{Bool, true, false}
use mathlib.Core.List.{List, [], ◌∷◌, Memᴰ}
use mathlib.Core.Path.{◌≡◌, refl}
use native.Mathlib.Omega.{arith}
use lib.Dec.{eqb}
use borrow.Author.Tests.{eqb-true, eq-eqb}
use Rattle.laws.specs.Below.{either}
use Rattle.laws.proofs.Below.{either_true}
use Rattle.greedy.specs.Places.{among, meets}
use Rattle.greedy.specs.Promises.{MeetsIsSharing}

among_stands : (p : ℕ) (s : List ℕ) → among p s ≡ true → Memᴰ p s
unfolding among either
among_stands p [] e = let z : ◌≡◌ {A = ℕ} 0 1 = cc in absurd (omega arith)
among_stands p (q ∷ s) e = go (eqb p q) refl e (λ k. among_stands p s k)
  where
    go : (b : Bool) → eqb p q ≡ b → either b (among p s) ≡ true → (among p s ≡ true → Memᴰ p s) → Memᴰ p (q ∷ s)
    go true d e ih = Memᴰ.head (eqb-true p q d)
    go false d e ih = Memᴰ.tail (ih e)

stands_among : (p : ℕ) (s : List ℕ) → Memᴰ p s → among p s ≡ true
unfolding among either
stands_among p [] m = elim m [ ]
stands_among p (q ∷ s) (Memᴰ.head e) = rw (eq-eqb p q e)
stands_among p (q ∷ s) (Memᴰ.tail m) = rw (stands_among p s m) (either_true (eqb p q))

meets_share : (s t : List ℕ) → meets s t ≡ true → (p : ℕ) × Memᴰ p s × Memᴰ p t
unfolding meets either
meets_share [] t e = let z : ◌≡◌ {A = ℕ} 0 1 = cc in absurd (omega arith)
meets_share (p ∷ s) t e = go (among p t) refl e (λ k. meets_share s t k)
  where
    go : (b : Bool) → among p t ≡ b → either b (meets s t) ≡ true → (meets s t ≡ true → (q : ℕ) × Memᴰ q s × Memᴰ q t)
        → (q : ℕ) × Memᴰ q (p ∷ s) × Memᴰ q t
    go true d e ih = (p, Memᴰ.head refl, among_stands p t d)
    go false d e ih = let r = ih e in (r.0, Memᴰ.tail r.1, r.2)

share_meets : (s t : List ℕ) (p : ℕ) → Memᴰ p s → Memᴰ p t → meets s t ≡ true
unfolding meets either
share_meets [] t p k m = elim k [ ]
share_meets (q ∷ s) t p (Memᴰ.head e) m = rw (← e, stands_among p t m)
share_meets (q ∷ s) t p (Memᴰ.tail k) m = rw (share_meets s t p k m) (either_true (among q t))

pub meets_is_sharing : MeetsIsSharing
meets_is_sharing s t = (λ e. meets_share s t e, λ r. share_meets s t r.0 r.1 r.2)
