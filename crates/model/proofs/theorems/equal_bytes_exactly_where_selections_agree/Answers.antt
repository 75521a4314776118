use Rattle.model.proofs.theorems.equal_bytes_exactly_where_selections_agree.Goals as goal
use Rattle.model.proofs.Bytes.{bytes_tell_selections}

pub returns : goal.returns
returns c = bytes_tell_selections
