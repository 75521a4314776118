use Rattle.std.proofs.Common.{Ok, ap, refl, rules, length}
use Rattle.plans.specs.Plain.{after, code_of, count_line, line}
use Rattle.workbench.specs.Drawings.{map_told, draw_call}
use Rattle.workbench.specs.declared.answer.Answer.TheVariants as answer
use Rattle.workbench.proofs.Steps.{answer_made, told_value, told_same, drawn, sits_on, after_alongside, unless_alongside}
use Rattle.workbench.proofs.opened.step_open.Goals as goal

pub returns-in-Draw-clause-stepped : goal.returns-in-Draw-clause-stepped
returns-in-Draw-clause-stepped c = rw c.in-Draw.is (λ p s.
    let t = map_told c.in-Draw.map c.args.bytes.now in
    let call = draw_call c.in-Draw.line c.in-Draw.map c.args.bytes.now (length c.args.tables.now.nodes.now) (length c.args.tables.now.records.now) (length c.args.tables.now.work.now) in
    let d = drawn c.args.plan.header c.draw_map-told.new.plan.header c.args.tables.now.nodes.now c.draw_map-told.new.tables.nodes.now p t call c.draw_map-told.result c.draw_map-told.ensures.drew s.holds in
    record {
      stands = sits_on c.args.plan.header _ c.args.sheet c.args.tables.now.nodes.now _ p _ s d.holds (unless_alongside t (after p call) p (after_alongside p call));
      answers = rw (answer_made (λ _. answer.Done) c.draw_map-told.result c.answered.result _ (λ x e. search rules) c.answered.ensures) (ap Ok d.answers);
      wrote = refl;
    })

pub returns-in-Read-clause-stepped : goal.returns-in-Read-clause-stepped
returns-in-Read-clause-stepped c = rw c.in-Read.is (λ p s. record {
  stands = s;
  answers = rw (answer_made (λ x. answer.Code x) c.read.result c.answered-in-Read.result _ (λ x e. search rules) c.answered-in-Read.ensures) (ap Ok (told_value (λ x. answer.Code x) c.read.result _ (code_of (line p c.in-Read.line) c.in-Read.address) (c.read.ensures.tells p s.holds)));
  wrote = refl;
})

pub returns-in-Same-clause-stepped : goal.returns-in-Same-clause-stepped
returns-in-Same-clause-stepped c = rw c.in-Same.is (λ p s. record {
  stands = s;
  answers = rw (answer_made (λ x. answer.Same x) c.same.result c.answered-in-Same.result _ (λ x e. search rules) c.answered-in-Same.ensures) (told_same c.args.plan.header c.args.tables.now.nodes.now p c.in-Same.left c.in-Same.right c.same.result c.same.ensures s.holds);
  wrote = refl;
})

pub returns-in-Used-clause-stepped : goal.returns-in-Used-clause-stepped
returns-in-Used-clause-stepped c = rw c.in-Used.is (λ p s. record {
  stands = s;
  answers = ap (λ x. Ok (answer.Used x)) (c.used.ensures c.args.tables.now.nodes.now p s.holds);
  wrote = refl;
})

pub returns-in-Count-clause-stepped : goal.returns-in-Count-clause-stepped
returns-in-Count-clause-stepped c = rw c.in-Count.is (λ p s. record {
  stands = s;
  answers = rw (answer_made (λ x. answer.Nodes c.in-Count.line x) c.count-told.result c.answered-in-Count.result _ (λ x e. search rules) c.answered-in-Count.ensures) (ap Ok (told_value (λ x. answer.Nodes c.in-Count.line x) c.count-told.result _ (count_line p c.in-Count.line) (c.count-told.ensures.tells p s.holds)));
  wrote = refl;
})
