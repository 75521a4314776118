use Rattle.model.proofs.theorems.constants_alone_have_no_parts.Goals as goal
use Rattle.model.proofs.Constants.{constants_have_none}

pub returns : goal.returns
returns c = constants_have_none
