use Rattle.model.proofs.theorems.trees_read_as_their_selections.Goals as goal
use Rattle.model.proofs.Views.{tree_reads}

pub returns : goal.returns
returns c = tree_reads
