use Rattle.std.proofs.Common.{length, subst}
use Rattle.scripts.specs.Requests.{act_of}
use Rattle.workbench.specs.declared.desk.Stage.{Stage}
use Rattle.workbench.specs.Calls.{handed, Stepped}
use Rattle.workbench.specs.Desks.{Bench, StandsAt}
use Rattle.workbench.proofs.Standings.{issued_stands}
use Rattle.workbench.proofs.carrying.step.Goals as goal

pub returns-in-Issued : goal.returns-in-Issued
returns-in-Issued c = λ b s.
    issued_stands c.in-Issued.plan c.in-Issued.sheet c.args.nodes.now
    (λ (x : Bench). Stepped (handed (length c.args.nodes.now) (length c.args.records.now) (length c.args.work.now) (length c.args.buffer.now)) x (act_of c.args.call.now) c.args.bytes.now c.args.buffer.now c.step_issued.result.0 c.args.nodes.now c.step_issued.result.1 c.step_issued.new.buffer)
    (λ p t. c.step_issued.ensures p c.args.bytes.now (length c.args.records.now) t) b (subst (λ (x : Stage). StandsAt x c.args.nodes.now b) c.in-Issued.is s)
