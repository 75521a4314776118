use Rattle.plans.proofs.Listed.{listings_tell}
use Rattle.plans.proofs.laws.listings_tell_selections.Goals as goal

pub returns : goal.returns
returns c = listings_tell
