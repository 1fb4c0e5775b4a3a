-- Planning's five lent tables as a contract has them: one value, with what was lent (`.entry`) and what is left (`.exit`). All five are lent to be
-- changed. Assumes nothing.
use Rattle.std.specs.Prelude.{List}
use Rattle.std.specs.Borrow.{MutBor}
use denote.Triple.Both.{Both}
use Rattle.pool.specs.Lent.{MutSlice}
use Rattle.cycle.specs.declared.Cycle.{Cycle}
use Rattle.exchange.specs.Planning.{Lent, lent}

-- the lent records, at entry and exit
abbrev pub RecordSlice : Type 0
RecordSlice = Both (MutBor (List Cycle)) (MutBor (List Cycle))

-- weights, choices, donors, recipients and records
abbrev pub lent_plan : MutSlice → MutSlice → MutSlice → MutSlice → RecordSlice → Both Lent Lent
lent_plan a b c d e =
    record {
      entry = lent a.entry.now b.entry.now c.entry.now d.entry.now e.entry.now;
      exit = lent a.exit.now b.exit.now c.exit.now d.exit.now e.exit.now;
    }
