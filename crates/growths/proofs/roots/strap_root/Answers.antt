use Rattle.std.proofs.Common.{rules}
use Rattle.growths.proofs.Rooted.{strapped_root}
use Rattle.growths.proofs.roots.strap_root.Goals as goal

pub returns : goal.returns
returns c =
    let same = c.prepare-growing.ensures.same in
    let kept = c.restrict.ensures.loans.nodes in
    strapped_root c.args.pins c.args.nodes.now c.args.work.now c.args.lines.now c.prepare-growing.result c.restrict.new.growing c.prepare-growing.ensures.pins c.prepare-growing.ensures.nodes
    c.prepare-growing.ensures.prepared _ (search rules) c.restrict.result c.args.at c.args.high c.args.root c.restrict.ensures.set
