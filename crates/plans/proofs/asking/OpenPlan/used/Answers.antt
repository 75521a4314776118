use Rattle.plans.proofs.Reckonings.{used_holds}
use Rattle.plans.proofs.asking.OpenPlan.used.Goals as goal

pub returns : goal.returns
returns c = λ nodes p o. used_holds c.args.self.now.header nodes p o
