-- `buffers::plan_tables` meets its contract. Assumes nothing.
use Rattle.std.proofs.Common.{ℕ, ◌≤◌, List, length, arith}
use lib.Dec.{lit≤}
use lib.ListN.{replicate, length-replicate}
use Rattle.exchange.specs.Input.{no_floor, request}
use Rattle.exchange.specs.Planning.{Lent, lent}
use Rattle.buffers.specs.Preconditions.{FaultlessTables, no_records}
use Rattle.buffers.proofs.Plans.{Roomy, never_refused, partnered}
use Rattle.buffers.proofs.plan_tables.Goals as goal

-- the lent tables, before the call
abbrev lent_to : List ℕ → List ℕ → Lent
lent_to donors recipients = lent (replicate 10660 0) (replicate 20 0) donors recipients no_records

roomy : (n : ℕ) (M W s donors recipients : List ℕ) (p : FaultlessTables (request n no_floor M W s)) → n ≤ length donors → n ≤ length recipients
    → Roomy n M W s p (lent_to donors recipients)
roomy n M W s donors recipients p d r =
    record {
      weights = omega (arith, length-replicate {A = ℕ} 10660 0);
      choices = lit≤ tt;
      donors = d;
      recipients = r;
      records = lit≤ tt;
    }

pub unwrap-requires : goal.unwrap-requires
unwrap-requires c =
    let a = c.args in
    let p = c.plan_recorded in
    never_refused a.n _ _ _ c.requires.0 (lent_to a.donors.now a.recipients.now) (roomy a.n _ _ _ _ _ c.requires.0 c.requires.1 c.requires.2)
    p.result _ p.ensures.rightly

pub returns : goal.returns
returns c =
    let a = c.args in
    let p = c.plan_recorded in
    partnered a.n _ _ _ c.requires.0 (lent_to a.donors.now a.recipients.now) (roomy a.n _ _ _ _ _ c.requires.0 c.requires.1 c.requires.2)
    p.result _ p.ensures.rightly _ c.unwrap.ensures
