use Rattle.model.proofs.theorems.no_rival_has_fewer_nodes.Goals as goal
use Rattle.model.proofs.Walks.{no_rival_fewer}

pub returns : goal.returns
returns c = no_rival_fewer
