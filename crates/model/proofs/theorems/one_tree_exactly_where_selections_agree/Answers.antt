use Rattle.model.proofs.theorems.one_tree_exactly_where_selections_agree.Goals as goal
use Rattle.model.proofs.Views.{one_tree}

pub returns : goal.returns
returns c = one_tree
