use Rattle.model.proofs.theorems.reading_follows_the_tree.Goals as goal
use Rattle.model.proofs.Walks.{reading_follows}

pub returns : goal.returns
returns c = reading_follows
