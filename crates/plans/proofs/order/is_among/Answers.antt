use Rattle.std.proofs.Common.{◌∙◌}
use Rattle.plans.proofs.Naming.{any_among}
use Rattle.plans.proofs.order.is_among.Goals as goal

pub returns : goal.returns
returns c = c.contains.ensures.value ∙ any_among c.args.order.now c.args.pin c.args.k c.requires
