use Rattle.model.proofs.theorems.own_nodes_are_a_least_diagram.Goals as goal
use Rattle.model.proofs.Reach.{own_nodes_least}

pub returns : goal.returns
returns c = own_nodes_least
