use Rattle.model.proofs.theorems.equal_bytes_exactly_where_lines_are_equal.Goals as goal
use Rattle.model.proofs.Bytes.{bytes_tell_trees}

pub returns : goal.returns
returns c = bytes_tell_trees
