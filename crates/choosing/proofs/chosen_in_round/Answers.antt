-- `choosing::chosen_in_round` meets its contract. Assumes nothing.
use Rattle.choosing.proofs.InRound.{asks_choice}
use Rattle.choosing.proofs.chosen_in_round.Goals as goal

pub choice-chosen-requires : goal.choice-chosen-requires
choice-chosen-requires c = asks_choice _ _ _ _ _ c.requires _ c.begin_round.ensures
