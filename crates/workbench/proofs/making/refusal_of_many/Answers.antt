use Rattle.workbench.proofs.Makings.{many_told, none_made}
use Rattle.workbench.proofs.making.refusal_of_many.Goals as goal

pub returns-in-Ok : goal.returns-in-Ok
returns-in-Ok c = none_made c.args.order.now c.args.count c.requires c.in-Ok.ensures.accepted

pub returns-in-Err : goal.returns-in-Err
returns-in-Err c = rw c.retold.ensures (many_told c.args.order.now c.args.count c.requires c.in-Err.fault c.in-Err.ensures)
