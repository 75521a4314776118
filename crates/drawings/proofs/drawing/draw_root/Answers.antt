use Rattle.std.proofs.Common.{rules}
use Rattle.drawings.proofs.Drawn.{drawn_root}
use Rattle.drawings.proofs.drawing.draw_root.Goals as goal

pub returns : goal.returns
returns c =
    let same = c.prepare-growing.ensures.same in
    let kept = c.draw_tree.ensures.loans.nodes in
    drawn_root c.args.subject.tree c.args.subject.records.now c.args.subject.order.now c.args.pins c.args.nodes.now c.args.work.now c.args.lines.now c.prepare-growing.result c.draw_tree.new.growing
    c.prepare-growing.ensures.pins c.prepare-growing.ensures.nodes c.prepare-growing.ensures.prepared _ (search rules) c.draw_tree.result c.draw_tree.ensures.draws
