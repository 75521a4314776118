use Rattle.std.proofs.Common.{length, get_or, sym, ap, ◌∙◌, arith}
use Rattle.model.specs.Diagrams.{listed, next}
use Rattle.tables.proofs.Walks.{walk_on, walk_end}
use Rattle.tables.proofs.reading.read.Goals as goal
use Rattle.model.proofs.Lists.{in_get_or}

pub loop-place-preserved : goal.loop-place-preserved
loop-place-preserved c = λ small.
    let order = c.args.order.now in
    let T = listed c.args.nodes.now in
    let d = c.loop-place.place in
    walk_on (length order) T order d c.loop-place.branch c.step-branch.result c.args.address (omega arith)
    (c.step-branch.ensures ∙ ap (λ v. next T d v c.loop-place.branch) (c.is_high-high.ensures (omega arith) (small (get_or order d 0) (in_get_or order d (omega arith)))))
    ∙ c.loop-place.invariant small

pub returns : goal.returns
returns c = λ few small.
    c.code_of.ensures
    ∙ (sym (walk_end (length c.args.order.now) (listed c.args.nodes.now) c.args.order.now c.loop-place.place c.loop-place.branch c.args.address (omega arith))
    ∙ c.loop-place.invariant small)
