use Rattle.sources.proofs.Flips.{flip_follows}
use Rattle.sources.proofs.flipped.FlippedSource.ask.Goals as goal

pub returns : goal.returns
returns g c =
    let s = c.args.self.now in
    let here = c.is_in.ensures.0 c.if-not-is_in.false in
    flip_follows (g.S.Source.width s.below) (g.S.Source.selection s.below) c.pins-pins.result s.mask c.args.block.level c.args.block.number c.turned_block.result c.pins-pins.ensures here c.turned_block.ensures c.ask.result c.ask.ensures
