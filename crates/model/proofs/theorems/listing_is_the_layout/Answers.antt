use Rattle.model.proofs.theorems.listing_is_the_layout.Goals as goal
use Rattle.model.proofs.Laying.{listing_is_layout}

pub returns : goal.returns
returns c = listing_is_layout
