use Rattle.growths.proofs.Passing.{every_address_passes}
use Rattle.growths.proofs.codes.every_address_passes.Goals as goal

pub returns : goal.returns
returns c = every_address_passes
