use Rattle.std.proofs.Common.{None, refl, ◌∙◌, arith}
use Rattle.growths.proofs.Halves.{adds_of}
use Rattle.drawings.proofs.Drawn.{draw_end, draw_past, draw_low_refused, draw_high_refused, draw_node}
use Rattle.drawings.proofs.drawing.+draw_tree.Goals as goal
use Rattle.drawings.proofs.drawing.+draw_tree.Goals.{then-pins-gt-MOST_PINS-via-then-pins-gt-MOST_PINS, then-pins-gt-MOST_PINS-via-else-pins-gt-MOST_PINS+then-place-pins}

pub returns-in-Some-clause-draws : goal.returns-in-Some-clause-draws
returns-in-Some-clause-draws t c = λ pins_are. draw_end c.args.subject.tree c.args.subject.records.now c.args.subject.order.now c.args.fixed.place c.args.fixed.bits.mask c.args.fixed.bits.value c.args.growing.now.nodes.now c.args.growing.now.marks.now c.args.growing.now.index.now c.in-Some.code c.in-Some.ensures

pub returns-then-pins-gt-MOST_PINS-clause-draws : goal.returns-then-pins-gt-MOST_PINS-clause-draws
returns-then-pins-gt-MOST_PINS-clause-draws t c = λ pins_are. draw_past c.args.subject.tree c.args.subject.records.now c.args.subject.order.now c.args.fixed.place c.args.fixed.bits.mask c.args.fixed.bits.value c.args.growing.now.nodes.now c.args.growing.now.marks.now c.args.growing.now.index.now c.in_default.ensures
    (elim c.then-pins-gt-MOST_PINS.branch [
      | then-pins-gt-MOST_PINS-via-then-pins-gt-MOST_PINS w ↦ (λ l. absurd (omega (arith, w.if-pins-gt-MOST_PINS.true)))
      | then-pins-gt-MOST_PINS-via-else-pins-gt-MOST_PINS+then-place-pins w ↦ (λ l. w.if-place-pins.true)
    ]) None

pub returns-in_err-low-clause-draws : goal.returns-in_err-low-clause-draws
returns-in_err-low-clause-draws t c = λ pins_are. rw c.from_residual.ensures
    (draw_low_refused c.args.subject.tree c.args.subject.records.now c.args.subject.order.now c.args.fixed.place c.args.fixed.bits.mask c.args.fixed.bits.value c.args.growing.now.nodes.now c.args.growing.now.marks.now c.args.growing.now.index.now c.if-place-pins.false c.pin_bit-bit.result c.pin_bit-bit.ensures c.draw_tree.new.growing.nodes.now c.draw_tree.new.growing.marks.now c.draw_tree.new.growing.index.now (c.in_err-low.ensures.draws pins_are))

pub returns-in_err-high-clause-draws : goal.returns-in_err-high-clause-draws
returns-in_err-high-clause-draws t c = λ pins_are.
    rw c.from_residual-in_err-high.ensures
    (draw_high_refused c.args.subject.tree c.args.subject.records.now c.args.subject.order.now c.args.fixed.place c.args.fixed.bits.mask c.args.fixed.bits.value c.args.growing.now.nodes.now c.args.growing.now.marks.now c.args.growing.now.index.now c.if-place-pins.false c.pin_bit-bit.result c.pin_bit-bit.ensures c.draw_tree.new.growing.nodes.now c.draw_tree.new.growing.marks.now c.draw_tree.new.growing.index.now c.in_ok-low.low (c.in_ok-low.ensures.draws pins_are)
    c.draw_tree-2.new.growing.nodes.now c.draw_tree-2.new.growing.marks.now c.draw_tree-2.new.growing.index.now (c.in_err-high.ensures.draws (c.draw_tree.ensures.loans.pins ∙ pins_are)))

pub returns-clause-draws : goal.returns-clause-draws
returns-clause-draws t c = λ pins_are.
    draw_node c.args.subject.tree c.args.subject.records.now c.args.subject.order.now c.args.fixed.place c.args.fixed.bits.mask c.args.fixed.bits.value c.args.growing.now.nodes.now c.args.growing.now.marks.now c.args.growing.now.index.now c.if-place-pins.false c.pin_bit-bit.result c.pin_bit-bit.ensures c.draw_tree.new.growing.nodes.now c.draw_tree.new.growing.marks.now c.draw_tree.new.growing.index.now c.in_ok-low.low (c.in_ok-low.ensures.draws pins_are)
    c.draw_tree-2.new.growing.nodes.now c.draw_tree-2.new.growing.marks.now c.draw_tree-2.new.growing.index.now c.in_ok-high.high (c.in_ok-high.ensures.draws (c.draw_tree.ensures.loans.pins ∙ pins_are))
    c.node_for.new.self.nodes.now c.node_for.new.self.marks.now c.node_for.new.self.index.now c.node_for.result
    (adds_of c.draw_tree-2.new.growing c.node_for.new.self c.args.subject.tree.pins c.draw_tree-2.new.growing.nodes.now (c.draw_tree-2.ensures.loans.pins ∙ (c.draw_tree.ensures.loans.pins ∙ pins_are)) refl
    c.args.fixed.place c.in_ok-low.low c.in_ok-high.high c.node_for.result c.node_for.ensures.adds)
