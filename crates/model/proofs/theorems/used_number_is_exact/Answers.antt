use Rattle.model.proofs.theorems.used_number_is_exact.Goals as goal
use Rattle.model.proofs.Reach.{used_is_exact}

pub returns : goal.returns
returns c = used_is_exact
