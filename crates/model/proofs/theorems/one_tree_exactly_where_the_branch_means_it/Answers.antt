use Rattle.model.proofs.theorems.one_tree_exactly_where_the_branch_means_it.Goals as goal
use Rattle.model.proofs.Walks.{tree_means}

pub returns : goal.returns
returns c = tree_means
