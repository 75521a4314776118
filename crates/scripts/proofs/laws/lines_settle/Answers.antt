use Rattle.scripts.proofs.Settled.{settled}
use Rattle.scripts.proofs.laws.lines_settle.Goals as goal

pub returns : goal.returns
returns c = settled
