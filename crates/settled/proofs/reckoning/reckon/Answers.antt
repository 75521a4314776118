use Rattle.std.proofs.Common.{refl}
use Rattle.settled.proofs.Reckoned.{trees_fit, drawn_at, both}
use Rattle.settled.proofs.Steps.{never, never_refused, count_is, count_goes}
use Rattle.settled.proofs.reckoning.reckon.Goals as goal

pub returns-in_err-tree : goal.returns-in_err-tree
returns-in_err-tree g c = λ goes. absurd (trees_fit _ _ _ goes _ refl c.in_err-tree.ensures.over)

pub returns-in_err-plan : goal.returns-in_err-plan
returns-in_err-plan g c = λ goes. absurd (never _ _ goes.made c.in_err-plan.ensures)

pub returns-in_err-draw : goal.returns-in_err-draw
returns-in_err-draw g c = λ goes.
    let d = drawn_at _ _ _ goes _ _ _ _ _ _ c.build.auto.table c.in_err-draw.ensures in
    absurd (never_refused _ _ _ _ _ _ _ c.in_ok-plan.ensures.holds goes.drawn_on d)

pub returns-in_err-count : goal.returns-in_err-count
returns-in_err-count g c = λ goes.
    let d = drawn_at _ _ _ goes _ _ _ _ _ _ c.build.auto.table c.in_ok-draw.ensures in
    let o = d.leaves _ c.in_ok-plan.ensures.holds in
    absurd (count_goes _ _ _ _ _ _ _ _ o c.draw.auto.nodes c.draw.auto.work goes.counted c.in_err-count.ensures)

pub returns : goal.returns
returns g c = λ goes.
    let d = drawn_at _ _ _ goes _ _ _ _ _ _ c.build.auto.table c.in_ok-draw.ensures in
    let o = d.leaves _ c.in_ok-plan.ensures.holds in
    let k = count_is _ _ _ _ _ _ _ _ o c.draw.auto.nodes c.draw.auto.work goes.counted c.in_ok-count.ensures in
    both _ _ _ _ c.in_ok-tree.ensures.built.len k
