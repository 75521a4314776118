use Rattle.trees.proofs.Few.{records_few}
use Rattle.trees.proofs.laws.records_few.Goals as goal

pub returns : goal.returns
returns c = records_few
