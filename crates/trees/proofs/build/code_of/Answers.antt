use Rattle.std.proofs.Common.{Some, ap, ◌∙◌}
use Rattle.trees.proofs.Differ.{differing_code, uniform_code}
use Rattle.trees.proofs.build.code_of.Goals as goal

pub returns-in-All : goal.returns-in-All
returns-in-All g c =
    let s = c.args.source.now in
    ap Some c.encode.ensures ∙ uniform_code g.S.Of.End.code g.S.Of.End.decoded g.met.S.Of.End.back (g.S.Source.width s) (g.S.Source.selection s) c.args.block.level c.args.block.number c.in-All.end c.in-All.ensures

pub returns-in-Mixed : goal.returns-in-Mixed
returns-in-Mixed g c =
    let s = c.args.source.now in
    differing_code g.S.Of.End.code g.S.Of.End.decoded g.met.S.Of.End.back (g.S.Source.width s) (g.S.Source.selection s) c.args.block.level c.args.block.number c.in-Mixed.ensures
