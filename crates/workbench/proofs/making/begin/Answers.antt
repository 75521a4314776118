use Rattle.std.proofs.Common.{refl}
use Rattle.workbench.proofs.Makings.{plan_begun}
use Rattle.workbench.proofs.making.begin.Goals as goal

pub returns-in-Ok : goal.returns-in-Ok
returns-in-Ok c = λ s r w b o.
    plan_begun c.args.order.now c.args.count c.args.nodes.now c.if-count-nodes.false c.in-Ok.plan c.in-Ok.ensures _ refl refl r w b s c.args.desk.now.lengths o.lengths
