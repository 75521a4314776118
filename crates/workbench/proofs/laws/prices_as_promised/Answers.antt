use Rattle.workbench.proofs.Prices.{prices}
use Rattle.workbench.proofs.laws.prices_as_promised.Goals as goal

pub returns : goal.returns
returns c = prices
