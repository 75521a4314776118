use Rattle.std.proofs.Common.{rules}
use Rattle.growths.specs.Codes.{code_join}
use Rattle.growths.proofs.Rooted.{joined_root}
use Rattle.growths.proofs.roots.join_roots.Goals as goal

pub returns : goal.returns
returns g c =
    let same = c.prepare-growing.ensures.same in
    let kept = c.apply.ensures.loans.nodes in
    joined_root c.args.pins c.args.nodes.now c.args.work.now c.args.lines.now c.prepare-growing.result c.apply.new.growing c.prepare-growing.ensures.pins c.prepare-growing.ensures.nodes
    c.prepare-growing.ensures.prepared _ (search rules) c.apply.result (code_join g.J.Of.End.decoded g.J.Of.End.code g.J.Joining.joined) c.args.left c.args.right c.apply.ensures.joins
