-- `vadivuzhen::vadivuzhen_read` meets its contract: it answers what `read` answered, in numbers, and the tables that were lent are those that were filled.
-- Assumes nothing.
use Rattle.std.proofs.Common.{rules}
use Rattle.numbers.proofs.Own.{read_numbered}
use Rattle.vadivuzhen.proofs.Exported.{kept_read, left_filled}
use Rattle.vadivuzhen.proofs.vadivuzhen_read.Goals as goal

pub returns : goal.returns
returns c =
    let w = c.read in
    let k = kept_read c.into.ensures (read_numbered w.result) w.ensures.equals w.ensures.rightly in
    record {
      numbers = k.0;
      lent =
          left_filled w.new.tables w.ensures.equals (search rules) (search rules) (search rules) (search rules) (search rules) (search rules)
          (search rules) (search rules) (search rules) (search rules);
      rightly = k.1.1;
    }
