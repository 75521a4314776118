use Rattle.std.proofs.Common.{◌≡◌, Decides, rules}
use Rattle.std.proofs.lemmas.Result.{err_from_is_err_and}
use Rattle.plans.proofs.Comparings.{left_above, right_above, not_turned_same, left_empty, right_empty, both_held}
use Rattle.plans.proofs.asking.OpenPlan.same.Goals as goal

pub returns-in_err-a : goal.returns-in_err-a
returns-in_err-a c =
    let q = err_from_is_err_and c.from_residual.result c.from_residual.ensures.1 in
    rw (q.1, q.2) (left_above c.args.self.now.header _ _ _ c.in_err-a.ensures.told)

pub returns-in_err-b : goal.returns-in_err-b
returns-in_err-b c =
    let q = err_from_is_err_and c.from_residual-in_err-b.result c.from_residual-in_err-b.ensures.1 in
    rw (q.1, q.2) (right_above c.args.self.now.header _ _ _ c.in_ok-a.ensures.told c.in_err-b.ensures.told)

pub returns-in_err-left : goal.returns-in_err-left
returns-in_err-left c =
    let e = rw c.in_ok-a.ensures.same at c.in_err-left.ensures in
    let q = err_from_is_err_and c.from_residual-in_err-left.result c.from_residual-in_err-left.ensures.1 in
    rw (q.1, q.2) (record {
      turned = not_turned_same _ _ c.in_ok-a.ensures.told c.in_ok-b.ensures.told _;
      tells = λ nodes p o. left_empty _ nodes p o _ _ c.in_ok-a.ensures.told c.in_ok-b.ensures.told _ e.0 e.1;
    })

pub returns-in_err-right : goal.returns-in_err-right
returns-in_err-right c =
    let left = rw c.in_ok-a.ensures.same at c.in_ok-left.ensures in
    let e = rw c.in_ok-b.ensures.same at c.in_err-right.ensures in
    let q = err_from_is_err_and c.from_residual-in_err-right.result c.from_residual-in_err-right.ensures.1 in
    rw (q.1, q.2) (record {
      turned = not_turned_same _ _ c.in_ok-a.ensures.told c.in_ok-b.ensures.told _;
      tells = λ nodes p o. right_empty _ nodes p o _ _ c.in_ok-a.ensures.told c.in_ok-b.ensures.told _ left _ e.0 e.1;
    })

pub returns : goal.returns
returns c =
    let left = rw c.in_ok-a.ensures.same at c.in_ok-left.ensures in
    let right = rw c.in_ok-b.ensures.same at c.in_ok-right.ensures in
    let is : Decides c.eq.result (c.in_ok-left.left ≡ c.in_ok-right.right) = search rules in
    record {
      turned = not_turned_same _ _ c.in_ok-a.ensures.told c.in_ok-b.ensures.told _;
      tells = λ nodes p o. both_held _ nodes p o _ _ c.in_ok-a.ensures.told c.in_ok-b.ensures.told _ left _ _ right is;
    }
