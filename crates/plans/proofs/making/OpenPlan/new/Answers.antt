use Rattle.std.proofs.Common.{length, sym, refl, arith}
use Rattle.plans.proofs.Beginning.{new_holds}
use Rattle.plans.proofs.Naming.{make_accepted}
use Rattle.plans.proofs.making.OpenPlan.new.Goals as goal

pub returns : goal.returns
returns c = record { accepted = make_accepted c.args.order.now (length c.args.nodes.now) (omega arith) (omega arith) (sym c.in_ok-check_order.ensures) (omega arith) (omega arith); holds = rw c.over.ensures (new_holds c.args.order.now c.args.nodes.now _ (sym c.padded.ensures) refl refl refl) }
