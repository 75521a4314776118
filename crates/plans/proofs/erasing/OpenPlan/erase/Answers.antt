use Rattle.std.proofs.Common.{length}
use Rattle.std.proofs.lemmas.Result.{err_from_is_err_and}
use Rattle.plans.proofs.Erasings.{erase_empty, erase_held}
use Rattle.plans.proofs.erasing.OpenPlan.erase.Goals as goal

pub returns-in_err-root : goal.returns-in_err-root
returns-in_err-root c =
    let e = rw c.in_ok-line.ensures.same at c.in_err-root.ensures in
    let q = err_from_is_err_and c.from_residual-in_err-root.result c.from_residual-in_err-root.ensures.1 in
    rw (q.1, q.2) (erase_empty _ _ _ _ c.in_ok-line.ensures.told _ e.0 e.1)

pub returns : goal.returns
returns c =
    let root = rw c.in_ok-line.ensures.same at c.in_ok-root.ensures in
    let put = rw (c.over.ensures, c.in_ok-line.ensures.same) at c.put.ensures in
    erase_held _ _ _ (length c.args.work.now) c.in_ok-line.ensures.told _ _ root put
