use Rattle.model.proofs.theorems.one_part_more_is_more_parts_than_nodes.Goals as goal
use Rattle.model.proofs.Grow.{one_part_more}

pub returns : goal.returns
returns c = one_part_more
