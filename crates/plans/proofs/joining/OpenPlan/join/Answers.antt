use Rattle.std.proofs.Common.{length, arith}
use Rattle.std.proofs.lemmas.Result.{err_from_is_err_and}
use Rattle.plans.proofs.Joinings.{join_empty_left, join_empty_right, join_taken, join_undecoded_left, join_undecoded_right, joined_line}
use Rattle.plans.proofs.joining.OpenPlan.join.Goals as goal

pub returns-in_err-left : goal.returns-in_err-left
returns-in_err-left g c =
    let e = rw c.in_ok-a.ensures.same.0 at c.in_err-left.ensures in
    let q = err_from_is_err_and c.from_residual-in_err-left.result c.from_residual-in_err-left.ensures.1 in
    rw (q.1, q.2) (join_empty_left _ _ _ _ _ _ _ _ c.in_ok-a.ensures.told _ e.0 e.1)

pub returns-in_err-right : goal.returns-in_err-right
returns-in_err-right g c =
    let left = rw c.in_ok-a.ensures.same.0 at c.in_ok-left.ensures in
    let e = rw c.in_ok-a.ensures.same.1 at c.in_err-right.ensures in
    let q = err_from_is_err_and c.from_residual-in_err-right.result c.from_residual-in_err-right.ensures.1 in
    rw (q.1, q.2) (join_empty_right _ _ _ _ _ _ _ _ c.in_ok-a.ensures.told _ left _ e.0 e.1)

pub returns-in_err-check_vacant : goal.returns-in_err-check_vacant
returns-in_err-check_vacant g c =
    let left = rw c.in_ok-a.ensures.same.0 at c.in_ok-left.ensures in
    let right = rw c.in_ok-a.ensures.same.1 at c.in_ok-right.ensures in
    let e = rw c.in_ok-a.ensures.same.2 at c.in_err-check_vacant.ensures in
    let q = err_from_is_err_and c.from_residual-in_err-check_vacant.result c.from_residual-in_err-check_vacant.ensures.1 in
    rw (q.1, q.2) (join_taken _ _ _ _ _ _ _ _ c.in_ok-a.ensures.told _ left _ right e.0.0 _ e.0.1 e.1)

pub returns-in_err-check_codes : goal.returns-in_err-check_codes
returns-in_err-check_codes g c =
    let left = rw c.in_ok-a.ensures.same.0 at c.in_ok-left.ensures in
    let right = rw c.in_ok-a.ensures.same.1 at c.in_ok-right.ensures in
    let vacant = rw c.in_ok-a.ensures.same.2 at c.in_ok-check_vacant.ensures in
    let told = rw c.in_ok-a.ensures.same.0 at c.in_err-check_codes.ensures in
    let q = err_from_is_err_and c.from_residual-in_err-check_codes.result c.from_residual-in_err-check_codes.ensures.1 in
    rw (q.1, q.2) (join_undecoded_left _ _ _ _ _ _ _ _ c.in_ok-a.ensures.told _ left _ right vacant _ told)

pub returns-in_err-check_codes-2 : goal.returns-in_err-check_codes-2
returns-in_err-check_codes-2 g c =
    let left = rw c.in_ok-a.ensures.same.0 at c.in_ok-left.ensures in
    let right = rw c.in_ok-a.ensures.same.1 at c.in_ok-right.ensures in
    let vacant = rw c.in_ok-a.ensures.same.2 at c.in_ok-check_vacant.ensures in
    let passed = rw c.in_ok-a.ensures.same.0 at c.in_ok-check_codes.ensures in
    let told = rw c.in_ok-a.ensures.same.1 at c.in_err-check_codes-2.ensures in
    let q = err_from_is_err_and c.from_residual-in_err-check_codes-2.result c.from_residual-in_err-check_codes-2.ensures.1 in
    rw (q.1, q.2) (join_undecoded_right _ _ _ _ _ _ _ _ c.in_ok-a.ensures.told _ left _ right vacant tt passed _ told)

pub returns : goal.returns
returns g c =
    let left = rw c.in_ok-a.ensures.same.0 at c.in_ok-left.ensures in
    let right = rw c.in_ok-a.ensures.same.1 at c.in_ok-right.ensures in
    let vacant = rw c.in_ok-a.ensures.same.2 at c.in_ok-check_vacant.ensures in
    let passed_left = rw c.in_ok-a.ensures.same.0 at c.in_ok-check_codes.ensures in
    let passed_right = rw c.in_ok-a.ensures.same.1 at c.in_ok-check_codes-2.ensures in
    let settled = rw (c.over.ensures, c.in_ok-a.ensures.same.2) at c.settle.ensures in
    let i = c.check_codes.auto.work in
    let j = c.check_codes-2.auto.work in
    joined_line _ _ _ _ _ _ _ (length c.args.work.now) c.in_ok-a.ensures.told _ left _ right vacant tt passed_left tt passed_right
    _ c.check_codes-2.new.work (omega arith) _ _ _ c.grow_join-grown.ensures settled
