-- `joining::join` meets its contract: each answer is what the definition says, and so keeps the promise. Assumes nothing.
use mathlib.Core.Path.{◌≡◌}
use lib.ListN.{length}
use Rattle.refusal.specs.Fault.{none}
use Rattle.pool.specs.Joining.{join_fault}
use Rattle.pool.specs.Promises.{EntriesBelow}
use Rattle.pool.proofs.Joined.{length_joined}
use Rattle.pool.proofs.Joining.{join_passed}
use Rattle.refusal.proofs.Faults.{nothing_none, found_fault_lem, handed_on}
use Rattle.joining.proofs.Answered.{answered_fault, answered_joined, answered_rightly}
use Rattle.joining.proofs.join.Goals as goal

pub put_joined-requires : goal.put_joined-requires
put_joined-requires c =
    let p = join_passed _ _ _ (nothing_none _ c.judge.ensures c.in_ok-judge.was) in
    (p.0, rw (length_joined _ _) at p.1)

pub returns-in_err-judge : goal.returns-in_err-judge
returns-in_err-judge c =
    let first-bytes : EntriesBelow 256 c.args.first.now =
    λ j.
    (c.type_inv.first j).fits in
    let second-bytes : EntriesBelow 256 c.args.second.now =
    λ j.
    (c.type_inv.second j).fits in
    let s = c.args in
    let e =
    answered_fault s.first.now s.second.now s.out.now _ (found_fault_lem _ c.judge.ensures _ c.in_err-judge.was) in
    rw (handed_on _ _ c.from_residual.ensures) (record { equals = e; rightly = answered_rightly _ _ _ first-bytes second-bytes _ _ e })

pub returns : goal.returns
returns c =
    let first-bytes : EntriesBelow 256 c.args.first.now =
    λ j.
    (c.type_inv.first j).fits in
    let second-bytes : EntriesBelow 256 c.args.second.now =
    λ j.
    (c.type_inv.second j).fits in
    let passed : join_fault c.args.first.now c.args.second.now (length c.args.out.now) ≡ none =
    nothing_none _ c.judge.ensures c.in_ok-judge.was in
    let s = c.args in
    let e = answered_joined s.first.now s.second.now s.out.now passed _ _ c.put_joined.ensures.0 c.put_joined.ensures.1 in
    record { equals = e; rightly = answered_rightly _ _ _ first-bytes second-bytes _ _ e }
