use Rattle.trees.proofs.Order.{ordered}
use Rattle.trees.proofs.Meaning.{sound, complete}
use Rattle.trees.proofs.laws.mixed_blocks_listed.Goals as goal

pub returns : goal.returns
returns c = record { sound = sound; complete = complete; in_order = ordered }
