use Rattle.std.proofs.Common.{ℕ, List, length, subst, refl}
use Rattle.workbench.specs.Calls.{all_lent}
use Rattle.workbench.specs.Requests.{Begun}
use Rattle.workbench.proofs.carrying.carry_out.Goals as goal

pub returns-in-Plan-clause-carried : goal.returns-in-Plan-clause-carried
returns-in-Plan-clause-carried c = rw c.in-Plan.is (λ s o.
    let l = all_lent c.args.tables.now c.args.buffer.now in
    let b = subst (λ (ps : List ℕ). Begun l s c.in-Plan.count ps c.begin.new.desk c.args.tables.now.nodes.now c.begin.result) c.deref.ensures.value
    (c.begin.ensures s (length c.args.tables.now.records.now) (length c.args.tables.now.work.now) (length c.args.buffer.now) o) in
    record { stands = b.stands; answers = b.answers; wrote = refl })
