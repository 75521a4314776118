use Rattle.model.proofs.theorems.reading_ends_where_nodes_send.Goals as goal
use Rattle.model.proofs.Walks.{reading_ends}

pub returns : goal.returns
returns c = reading_ends
