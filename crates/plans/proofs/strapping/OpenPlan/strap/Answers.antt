use Rattle.std.proofs.Common.{length, refl}
use Rattle.std.proofs.lemmas.Result.{err_from_is_err_and}
use Rattle.plans.proofs.Strappings.{strap_empty, strap_taken, strapped_line}
use Rattle.plans.proofs.strapping.OpenPlan.strap.Goals as goal

pub returns-in_err-root : goal.returns-in_err-root
returns-in_err-root c =
    let e = rw c.in_ok-a.ensures.same.0 at c.in_err-root.ensures in
    let q = err_from_is_err_and c.from_residual-in_err-root.result c.from_residual-in_err-root.ensures.1 in
    rw (q.1, q.2) (strap_empty _ _ _ _ _ _ _ c.in_ok-a.ensures.told _ e.0 e.1)

pub returns-in_err-check_vacant : goal.returns-in_err-check_vacant
returns-in_err-check_vacant c =
    let root = rw c.in_ok-a.ensures.same.0 at c.in_ok-root.ensures in
    let e = rw c.in_ok-a.ensures.same.1 at c.in_err-check_vacant.ensures in
    let q = err_from_is_err_and c.from_residual-in_err-check_vacant.result c.from_residual-in_err-check_vacant.ensures.1 in
    rw (q.1, q.2) (strap_taken _ _ _ _ _ _ _ c.in_ok-a.ensures.told _ root e.0.0 _ e.0.1 e.1)

pub returns : goal.returns
returns c =
    let root = rw c.in_ok-a.ensures.same.0 at c.in_ok-root.ensures in
    let vacant = rw c.in_ok-a.ensures.same.1 at c.in_ok-check_vacant.ensures in
    let settled = rw (c.over.ensures, c.in_ok-a.ensures.same.1) at c.settle.ensures in
    strapped_line _ _ _ _ _ _ (length c.args.work.now) c.in_ok-a.ensures.told _ root vacant _ c.args.work.now refl _ _ _ c.grow_strap-grown.ensures settled
