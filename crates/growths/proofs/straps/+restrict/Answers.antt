use Rattle.std.proofs.Common.{◌+◌, Some, None, refl, ◌∙◌, arith, rules}
use Rattle.growths.proofs.Halves.{straps_of, adds_of}
use Rattle.growths.proofs.Strapped.{strap_last, strap_end, strap_here, strap_low_refused, strap_passed, strap_high_refused, strap_node}
use Rattle.growths.proofs.straps.+restrict.Goals as goal
use Rattle.growths.proofs.straps.+restrict.Goals.{then-at-place-via-then-at-place, then-at-place-via-else-at-place+then-place-growing, then-at-place-via-else-at-place+else-place-growing+then-is_end}

pub returns-then-at-place-clause-set : goal.returns-then-at-place-clause-set
returns-then-at-place-clause-set t c =
    elim c.then-at-place.branch [
      | then-at-place-via-then-at-place w ↦ (λ st le lq f. absurd (omega arith))
      | then-at-place-via-else-at-place+then-place-growing w ↦ strap_last c.args.at c.args.high c.args.growing.now.pins c.args.place c.args.branch c.args.growing.now.nodes.now c.args.growing.now.marks.now c.args.growing.now.index.now w.if-place-growing.true
      | then-at-place-via-else-at-place+else-place-growing+then-is_end w ↦ strap_end c.args.at c.args.high c.args.growing.now.pins c.args.place c.args.branch c.args.growing.now.nodes.now c.args.growing.now.marks.now c.args.growing.now.index.now (w.is_end.ensures.0 w.if-is_end.true)
    ]

pub returns-then-place-at-clause-set : goal.returns-then-place-at-clause-set
returns-then-place-at-clause-set t c =
    strap_here c.args.at c.args.high c.args.growing.now.pins c.args.place c.args.branch c.args.growing.now.nodes.now c.args.growing.now.marks.now c.args.growing.now.index.now c.if-place-growing.false c.if-place-at.true c.step.result c.step.ensures

pub returns-in_err-low-clause-set : goal.returns-in_err-low-clause-set
returns-in_err-low-clause-set t c =
    rw c.from_residual.ensures (strap_low_refused c.args.at c.args.high c.args.growing.now.pins c.args.place c.args.branch c.args.growing.now.nodes.now c.args.growing.now.marks.now c.args.growing.now.index.now
    c.if-place-growing.false (omega arith) c.step-low_side.result c.step-high_side.result c.step-low_side.ensures c.step-high_side.ensures
    c.restrict.new.growing.nodes.now c.restrict.new.growing.marks.now c.restrict.new.growing.index.now c.in_err-low.ensures.set)

pub returns-then-eq-clause-set : goal.returns-then-eq-clause-set
returns-then-eq-clause-set t c =
    strap_passed c.args.at c.args.high c.args.growing.now.pins c.args.place c.args.branch c.args.growing.now.nodes.now c.args.growing.now.marks.now c.args.growing.now.index.now
    c.if-place-growing.false (omega arith) c.step-low_side.result c.step-high_side.result c.step-low_side.ensures c.step-high_side.ensures
    c.restrict.new.growing.nodes.now c.restrict.new.growing.marks.now c.restrict.new.growing.index.now c.in_ok-low.low c.in_ok-low.ensures.set (search rules)

pub returns-in_err-up-clause-set : goal.returns-in_err-up-clause-set
returns-in_err-up-clause-set t c =
    rw c.from_residual-in_err-up.ensures (strap_high_refused c.args.at c.args.high c.args.growing.now.pins c.args.place c.args.branch c.args.growing.now.nodes.now c.args.growing.now.marks.now c.args.growing.now.index.now
    c.if-place-growing.false (omega arith) c.step-low_side.result c.step-high_side.result c.step-low_side.ensures c.step-high_side.ensures
    c.restrict.new.growing.nodes.now c.restrict.new.growing.marks.now c.restrict.new.growing.index.now c.in_ok-low.low c.in_ok-low.ensures.set
    c.restrict-2.new.growing.nodes.now c.restrict-2.new.growing.marks.now c.restrict-2.new.growing.index.now (straps_of c.restrict.new.growing c.restrict-2.new.growing c.args.growing.now.pins c.restrict.new.growing.nodes.now c.restrict.ensures.loans.pins refl c.args.at c.args.high (c.args.place + 1) c.step-high_side.result None c.in_err-up.ensures.set))

pub returns-clause-set : goal.returns-clause-set
returns-clause-set t c =
    strap_node c.args.at c.args.high c.args.growing.now.pins c.args.place c.args.branch c.args.growing.now.nodes.now c.args.growing.now.marks.now c.args.growing.now.index.now
    c.if-place-growing.false (omega arith) c.step-low_side.result c.step-high_side.result c.step-low_side.ensures c.step-high_side.ensures
    c.restrict.new.growing.nodes.now c.restrict.new.growing.marks.now c.restrict.new.growing.index.now c.in_ok-low.low c.in_ok-low.ensures.set
    c.restrict-2.new.growing.nodes.now c.restrict-2.new.growing.marks.now c.restrict-2.new.growing.index.now c.in_ok-up.up (straps_of c.restrict.new.growing c.restrict-2.new.growing c.args.growing.now.pins c.restrict.new.growing.nodes.now c.restrict.ensures.loans.pins refl c.args.at c.args.high (c.args.place + 1) c.step-high_side.result (Some c.in_ok-up.up) c.in_ok-up.ensures.set)
    c.node_for.new.self.nodes.now c.node_for.new.self.marks.now c.node_for.new.self.index.now c.node_for.result
    (adds_of c.restrict-2.new.growing c.node_for.new.self c.args.growing.now.pins c.restrict-2.new.growing.nodes.now (c.restrict-2.ensures.loans.pins ∙ c.restrict.ensures.loans.pins) refl c.args.place c.in_ok-low.low c.in_ok-up.up c.node_for.result c.node_for.ensures.adds)
