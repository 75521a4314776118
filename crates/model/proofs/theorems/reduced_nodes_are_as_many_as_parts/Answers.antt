use Rattle.model.proofs.theorems.reduced_nodes_are_as_many_as_parts.Goals as goal
use Rattle.model.proofs.Reach.{as_many_as_parts}

pub returns : goal.returns
returns c = as_many_as_parts
