use Rattle.sources.proofs.Flips.{flip_whole}
use Rattle.sources.proofs.Mounts.{at_base, at_others}
use Rattle.sources.proofs.laws.layers_are_exact.Goals as goal

pub returns : goal.returns
returns g c = record { flips = flip_whole; mounts = record { base = at_base; others = at_others } }
