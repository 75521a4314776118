use Rattle.plans.proofs.Naming.{orders_told}
use Rattle.plans.proofs.laws.orders_are_told.Goals as goal

pub returns : goal.returns
returns c = orders_told
