use Rattle.std.proofs.Common.{ℕ, length, refl, subst}
use Rattle.std.proofs.lemmas.Result.{err_from_is_err_and}
use Rattle.trees.specs.Mixed.{codes}
use Rattle.trees.specs.Records.{Built}
use Rattle.plans.proofs.Drawings.{turned_draw, draw_taken, draw_tree_full, drawn, draw_pins}
use Rattle.plans.proofs.drawing.OpenPlan.draw.Goals as goal

pub returns-in_err-line : goal.returns-in_err-line
returns-in_err-line g c =
    let q = err_from_is_err_and c.from_residual.result c.from_residual.ensures.1 in
    rw (q.1, q.2) (turned_draw _ _ _ _ _ _ _ _ c.pins.ensures _ c.in_err-line.ensures.told)

pub returns-in_err-check_vacant : goal.returns-in_err-check_vacant
returns-in_err-check_vacant g c =
    let clear = rw c.pins.ensures at c.in_ok-line.ensures.told in
    let e = rw c.in_ok-line.ensures.same at c.in_err-check_vacant.ensures in
    let q = err_from_is_err_and c.from_residual-in_err-check_vacant.result c.from_residual-in_err-check_vacant.ensures.1 in
    rw (q.1, q.2) (draw_taken _ _ _ _ _ _ _ clear e.0.0 _ e.0.1 e.1)

pub returns-in_err-tree : goal.returns-in_err-tree
returns-in_err-tree g c =
    let clear = rw c.pins.ensures at c.in_ok-line.ensures.told in
    let vacant = rw c.in_ok-line.ensures.same at c.in_ok-check_vacant.ensures in
    let e = c.in_err-tree.ensures in
    let q = err_from_is_err_and c.from_residual-in_err-tree.result c.from_residual-in_err-tree.ensures.1 in
    rw (q.1, q.2) (draw_tree_full _ _ _ _ _ _ _ clear vacant _ e.told e.over)

pub returns : goal.returns
returns g c =
    let h = c.args.self.now.header in
    let nodes = c.args.nodes.now in
    let d = c.args.line in
    let m = g.S.Source.width c.args.source.now in
    let f = codes g.S.Of.End.code (g.S.Source.selection c.args.source.now) in
    let tree = length c.args.records.now in
    let work = length c.args.work.now in
    let clear = rw c.pins.ensures at c.in_ok-line.ensures.told in
    let vacant = rw c.in_ok-line.ensures.same at c.in_ok-check_vacant.ensures in
    let settled = rw (c.over.ensures, c.in_ok-line.ensures.same) at c.settle.ensures in
    let written = c.in_ok-tree.ensures in
    let built = subst (λ (n : ℕ). Built n f c.build.new.table c.in_ok-tree.tree) (draw_pins h.pins h.size d m f (length nodes) tree work clear) written.built in
    drawn h nodes d m f tree work clear vacant written.room _ c.args.work.now refl _ _ _ (c.grow_tree-root.ensures f built) settled
