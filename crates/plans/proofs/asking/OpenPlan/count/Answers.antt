use Rattle.std.proofs.Common.{length}
use Rattle.std.proofs.lemmas.Result.{err_from_is_err_and}
use Rattle.plans.specs.Plain.{count_refusal}
use Rattle.plans.proofs.Holdings.{not_turned}
use Rattle.plans.proofs.Reckonings.{count_empty, count_held}
use Rattle.plans.proofs.asking.OpenPlan.count.Goals as goal

pub returns-in_err-root : goal.returns-in_err-root
returns-in_err-root c =
    let clear = c.in_ok-line.ensures.told in
    let e = rw c.in_ok-line.ensures.same at c.in_err-root.ensures in
    let q = err_from_is_err_and c.from_residual-in_err-root.result c.from_residual-in_err-root.ensures.1 in
    rw (q.1, q.2) (record {
      turned = λ p heads f t. not_turned _ p heads (λ n size. count_refusal n size c.args.line (length c.args.nodes.now) (length c.args.work.now)) clear f t;
      tells = λ p o. count_empty _ _ p o _ _ _ clear _ e.0 e.1;
    })

pub returns : goal.returns
returns c =
    let clear = c.in_ok-line.ensures.told in
    let root = rw c.in_ok-line.ensures.same at c.in_ok-root.ensures in
    record {
      turned = λ p heads f t. not_turned _ p heads (λ n size. count_refusal n size c.args.line (length c.args.nodes.now) (length c.args.work.now)) clear f t;
      tells = λ p o. count_held _ _ p o _ _ _ clear _ _ root (rw c.over-over.ensures at c.reached_from.ensures);
    }
