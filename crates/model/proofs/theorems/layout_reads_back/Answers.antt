use Rattle.model.proofs.theorems.layout_reads_back.Goals as goal
use Rattle.model.proofs.Laying.{layout_reads_back}

pub returns : goal.returns
returns c = layout_reads_back
