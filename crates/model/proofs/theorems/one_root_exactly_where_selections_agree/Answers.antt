use Rattle.model.proofs.theorems.one_root_exactly_where_selections_agree.Goals as goal
use Rattle.model.proofs.Reach.{one_root}

pub returns : goal.returns
returns c = one_root
