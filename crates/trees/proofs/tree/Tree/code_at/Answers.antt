use Rattle.trees.proofs.Walk.{root_stands}
use Rattle.trees.proofs.tree.Tree.code_at.Goals as goal

pub returns : goal.returns
returns c = λ f built. c.code_below.ensures c.args.self.pins f 0 0 f (root_stands c.args.self.pins f c.args.table.now c.args.self built)
