use Rattle.std.proofs.Common.{arith, rules, length-set}
use Rattle.tables.proofs.Marks.{mark_astray, mark_node}
use Rattle.tables.proofs.marking.+mark_from.Goals as goal

pub returns-then-not-contains : goal.returns-then-not-contains
returns-then-not-contains t c =
    let e = c.if-not-contains.ensures.cases in
    mark_astray c.args.pins c.args.nodes.now c.args.marks.now c.args.place c.in-Node.i c.node_at-node.result c.args.branch c.in-Node.is c.node_at-node.ensures (λ l h. search rules)

pub returns : goal.returns
returns t c =
    mark_node c.args.pins c.args.nodes.now c.args.marks.now c.args.place c.in-Node.i c.node_at-node.result c.args.branch c.in-Node.is c.node_at-node.ensures
    c.mark_from.new.marks c.mark_from-2.new.marks (omega arith) (length-set c.args.marks.now c.in-Node.i 1) (let e = length-set c.args.marks.now c.in-Node.i 1 in omega arith) c.mark_from.ensures c.mark_from-2.ensures
