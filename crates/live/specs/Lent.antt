-- A live pool as a contract has it: one value for the count and all tables, with what was lent (`.entry`) and what is left (`.exit`).
-- The count and all tables but the points are lent to be changed. Assumes nothing.
use Rattle.std.specs.Prelude.{ℕ}
use Rattle.std.specs.Borrow.{MutBor}
use denote.Triple.Both.{Both}
use Rattle.pool.specs.Lent.{Ref, Slice, MutRef, MutSlice, mut_fields_now}
use Rattle.graph.specs.Lent.{graph_now}
use Rattle.live.specs.Live.{Live, live}
use Rattle.live.specs.Calls.{Beginning, beginning}

-- a lent number
abbrev pub Number : Type 0
Number = Both (MutBor ℕ) (MutBor ℕ)

abbrev pub live_now : MutBor ℕ → Ref → MutRef → MutRef → MutRef → MutRef → MutRef → MutRef → MutRef → MutRef → MutRef → MutRef → MutRef → Live
live_now n p a b c d e f g h m w s = live n.now p.now (mut_fields_now a b c d e f g h) (graph_now m w) s.now

abbrev pub lent_live : Number → Slice → MutSlice → MutSlice → MutSlice → MutSlice → MutSlice → MutSlice → MutSlice → MutSlice → MutSlice → MutSlice → MutSlice → Both Live Live
lent_live n p a b c d e f g h m w s =
    record {
      entry =
          live_now n.entry p.entry a.entry b.entry c.entry d.entry e.entry f.entry g.entry h.entry m.entry w.entry s.entry;
      exit =
          live_now n.exit p.exit a.exit b.exit c.exit d.exit e.exit f.exit g.exit h.exit m.exit w.exit s.exit;
    }

abbrev pub lent_beginning : Number → MutSlice → Both Beginning Beginning
lent_beginning n p =
    record { entry = beginning n.entry.now p.entry.now; exit = beginning n.exit.now p.exit.now }
