-- `gates::demux_readout` meets its contract. Assumes nothing.
use Rattle.gates.proofs.Readout.{readout_is}
use Rattle.gates.proofs.demux_readout.Goals as goal

pub returns : goal.returns
returns c = readout_is _ _ _ _
