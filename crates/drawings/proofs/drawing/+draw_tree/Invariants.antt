use Rattle.std.proofs.Common.{◌-◌, length}
use Rattle.drawings.proofs.drawing.+draw_tree.Given as goal

abbrev pub decreases-draw_tree : goal.decreases-draw_tree
decreases-draw_tree l = length l.subject.order.now - l.fixed.place
