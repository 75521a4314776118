use Rattle.std.proofs.Common.{Ok, ap, refl, rules, length}
use Rattle.plans.specs.Plain.{code_of, line}
use Rattle.workbench.specs.declared.answer.Answer.TheVariants as answer
use Rattle.workbench.proofs.Steps.{answer_made, told_value, listed}
use Rattle.workbench.proofs.issued.step_issued.Goals as goal

pub returns-in-Read : goal.returns-in-Read
returns-in-Read c = rw c.in-Read.is (λ p bs r s. record {
  stands = s;
  answers = rw (answer_made (λ x. answer.Code x) c.read.result c.answered-answer.result _ (λ x e. search rules) c.answered-answer.ensures) (ap Ok (told_value (λ x. answer.Code x) c.read.result _ (code_of (line p c.in-Read.line) c.in-Read.address) (c.read.ensures.tells p s.holds)));
  wrote = refl;
})

pub returns-in-List : goal.returns-in-List
returns-in-List c = rw c.in-List.is (λ p bs r s.
    let l = listed c.args.plan.header c.args.nodes.now (length c.args.work.now) c.args.buffer.now c.list.new.buffer c.list.result p c.list.ensures s.holds in
    record { stands = s; answers = rw (answer_made (λ b. answer.Listing b) c.list.result c.answered-answer-in-List.result _ (λ x e. search rules) c.answered-answer-in-List.ensures) (ap Ok l.answers); wrote = l.wrote })
