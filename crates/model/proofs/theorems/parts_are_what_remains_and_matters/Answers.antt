use Rattle.model.proofs.theorems.parts_are_what_remains_and_matters.Goals as goal
use Rattle.model.proofs.Parts.{parts_are}

pub returns : goal.returns
returns c = parts_are
