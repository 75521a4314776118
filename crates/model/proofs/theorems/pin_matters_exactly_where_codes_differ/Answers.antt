use Rattle.model.proofs.theorems.pin_matters_exactly_where_codes_differ.Goals as goal
use Rattle.model.proofs.Mattering.{pin_matters}

pub returns : goal.returns
returns c = pin_matters
