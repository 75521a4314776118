use Rattle.model.proofs.theorems.examples_settle.Goals as goal
use Rattle.model.proofs.Settling.{settled}

pub returns : goal.returns
returns c = settled
