use Rattle.model.proofs.theorems.numbering_lists_the_reached_nodes.Goals as goal
use Rattle.model.proofs.Reach.{numbering_reaches}

pub returns : goal.returns
returns c = numbering_reaches
