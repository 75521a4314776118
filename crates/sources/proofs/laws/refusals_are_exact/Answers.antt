use Rattle.sources.proofs.Judged.{refusals_exact}
use Rattle.sources.proofs.laws.refusals_are_exact.Goals as goal

pub returns : goal.returns
returns c = refusals_exact
