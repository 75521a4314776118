use Rattle.model.proofs.theorems.tree_of_a_strap_straps_the_tree.Goals as goal
use Rattle.model.proofs.Views.{straps}

pub returns : goal.returns
returns c = straps
