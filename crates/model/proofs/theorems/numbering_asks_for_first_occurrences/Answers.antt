use Rattle.model.proofs.theorems.numbering_asks_for_first_occurrences.Goals as goal
use Rattle.model.proofs.Fronts.{front_thinned}

pub returns : goal.returns
returns c = front_thinned
