-- `writer::put_pairs` meets its contract. The invariant: the fields of i pairs are written after the head. Assumes nothing.
use Rattle.laws.proofs.Lent.{Pieces}
use Rattle.pool.specs.Sheet.{first_pair, pair_field}
use Rattle.pool.specs.Tables.{pair_in}
use Rattle.fields.specs.Lent.{fields_in}
use Rattle.writer.proofs.put_pairs.Given as goal

abbrev pub invariant-loop-i : goal.invariant-loop-i
invariant-loop-i l = Pieces (first_pair l.version) l.i pair_field
    (pair_in (fields_in l.fields)) l.initial.out l.out
