use Rattle.model.proofs.theorems.listing_of_selections_is_their_layout.Goals as goal
use Rattle.model.proofs.Laying.{listing_of_selections}

pub returns : goal.returns
returns c = listing_of_selections
