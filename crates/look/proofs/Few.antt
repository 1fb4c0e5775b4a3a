-- An accepted sheet has at most 200 pairs. Assumes nothing.
use Rattle.std.specs.Prelude.{Result, Ok}
use mathlib.Core.Path.{◌≡◌, ap}
use mathlib.Core.List.{List}
use Prim.Native.Nat.{ℕ, ◌≤◌}
use Rattle.pool.specs.Tables.{Tables}
use Rattle.pool.specs.Calls.{Head, head}
use Rattle.pool.specs.Promises.{ReadsRightly}
use Rattle.refusal.specs.Answer.{outcome}
use Rattle.reader.specs.Answers.{answer_of}
use Rattle.refusal.specs.declared.Refused.{Refused}
use Rattle.reader.specs.declared.Head.{Head as Found}

pub few : (b : List ℕ) (t : Tables) (r : Result Found Refused) (f : Found) {u : Tables} → ReadsRightly b t (outcome (answer_of r) u) → r ≡ Ok f → f.pairs ≤ 200
unfolding answer_of
few b t r f w e =
    let a = w.accepted (head f.version f.pairs) (rw e) in
    rw (ap (λ (h : Head). h.pairs) a.0) a.1.head.few
