use Rattle.model.proofs.theorems.one_part_exactly_where_rests_agree.Goals as goal
use Rattle.model.proofs.Views.{one_part}

pub returns : goal.returns
returns c = one_part
