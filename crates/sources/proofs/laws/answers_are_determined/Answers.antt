use Rattle.ends.specs.Same.{same_end}
use Rattle.sources.proofs.Answering.{just_one}
use Rattle.sources.proofs.laws.answers_are_determined.Goals as goal

pub returns : goal.returns
returns g c = just_one g.E.End.code (same_end g.E.End.code g.E.End.decoded g.met.E.End.back)
