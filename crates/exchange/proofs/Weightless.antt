-- Where no present edge weighs 0, every executable cycle of two or more pairs weighs something, and with floor 0 every rival set is above the floor.
-- Assumes nothing.
use Prim.Native.Nat.{ℕ, ◌*◌, ◌≤◌, ◌<◌}
use mathlib.Core.List.{List, [], ◌∷◌}
use mathlib.Core.Path.{◌≡◌, refl, ap₂}
use native.Mathlib.Omega.{arith}
use lib.ListN.{length}
use Rattle.exchange.specs.Subsets.{Edge, along, edges, product_of, sum_of, weigh}
use Rattle.exchange.specs.Input.{Input}
use Rattle.exchange.specs.Faultless.{Weighty}
use Rattle.exchange.specs.Rivals.{Each, Executable, Exchange}
use Rattle.exchange.specs.Promises.{ExecutableWeighs, AcceptedWeighs}
use Rattle.exchange.proofs.Ordered.{each_mono}

module _ (n : ℕ) (m w : ℕ → ℕ → ℕ) (weighty : Weighty n m w) where
  product_one : (es : List Edge) → Each (λ (e : Edge). m e.donor e.patient ≡ 1) es → product_of m es ≡ 1
  unfolding product_of
  product_one [] h = refl
  product_one (e ∷ es) h = ap₂ ◌*◌ h.0 (product_one es h.1)

  -- its edges are all present, and the first of them weighs something
  executable_weighs : (c : List ℕ) → 2 ≤ length c → Each (λ (p : ℕ). p < n) c → Executable m c → 0 < weigh m w c
  unfolding weigh edges along sum_of
  executable_weighs [] l h x = absurd (omega arith)
  executable_weighs (a ∷ []) l h x = absurd (omega arith)
  executable_weighs (a ∷ b ∷ c) l h x = rw (product_one (edges (a ∷ b ∷ c)) x) (omega (arith, weighty a b h.0 h.1.0 x.0))

pub weighty_weighs : (q : Input) → Weighty q.scope.pairs q.compatible q.weight → ExecutableWeighs q
weighty_weighs q weighty =
    let weighs = executable_weighs q.scope.pairs q.compatible q.weight weighty in
    record {
      cycle = weighs;
      set =
          λ e cs h.
          each_mono (Exchange q.scope.largest q.scope.pairs q.compatible) (λ (c : List ℕ). q.floor < weigh q.compatible q.weight c)
          (λ c x. omega (arith, e, weighs c x.least x.pool x.executable)) cs h.exchanges;
    }

pub accepted_weighs : AcceptedWeighs
accepted_weighs r t h = weighty_weighs _ h.weighty
