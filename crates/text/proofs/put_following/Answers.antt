-- `text::put_following` meets its contract: the number goes where the space ends. Assumes nothing.
use native.Mathlib.Omega.{arith}
use Rattle.text.proofs.Puts.{put_following}
use Rattle.text.proofs.put_following.Goals as goal

pub returns : goal.returns
returns c = put_following c.args.at _ c.args.out.now (omega (arith, c.requires)) c.put_number.ensures
