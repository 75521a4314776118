use Rattle.model.proofs.theorems.tree_of_a_join_joins_the_trees.Goals as goal
use Rattle.model.proofs.Views.{joins}

pub returns : goal.returns
returns c = joins
