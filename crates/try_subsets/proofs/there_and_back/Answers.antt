use Rattle.cursor.proofs.Order.{in_range_lem}
use Rattle.try_subsets.proofs.there_and_back.Goals as goal

pub number_of-requires : goal.number_of-requires
number_of-requires c =
    in_range_lem _ _ c.requires.0 c.requires.1 _ c.at.ensures
