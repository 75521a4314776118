use Rattle.ends.specs.Same.{same_end}
use Rattle.sources.specs.declared.overlap.Overlap.TheVariants.{Apart, Within, Around}
use Rattle.sources.proofs.Mounts.{mount_follows}
use Rattle.sources.proofs.mount.MountedSource.ask.Goals as goal

pub returns-in-Apart : goal.returns-in-Apart
returns-in-Apart g c =
    let s = c.args.self.now in
    let same = same_end g.S.Of.End.code g.S.Of.End.decoded g.met.S.Of.End.back in
    mount_follows g.S.Of.End.code same s.pins (g.S.Source.width s.below) s.base s.fill (g.S.Source.selection s.below) c.args.block.level c.args.block.number (c.is_in.ensures.0 c.if-not-is_in.false) c.pins.result Apart c.pins.ensures c.in-Apart.ensures

pub returns-in-Within : goal.returns-in-Within
returns-in-Within g c =
    let s = c.args.self.now in
    let same = same_end g.S.Of.End.code g.S.Of.End.decoded g.met.S.Of.End.back in
    mount_follows g.S.Of.End.code same s.pins (g.S.Source.width s.below) s.base s.fill (g.S.Source.selection s.below) c.args.block.level c.args.block.number (c.is_in.ensures.0 c.if-not-is_in.false) c.pins.result (Within c.in-Within.block) c.pins.ensures c.in-Within.ensures
    c.ask.result c.ask.ensures

pub returns-in-Around : goal.returns-in-Around
returns-in-Around g c =
    let s = c.args.self.now in
    let same = same_end g.S.Of.End.code g.S.Of.End.decoded g.met.S.Of.End.back in
    mount_follows g.S.Of.End.code same s.pins (g.S.Source.width s.below) s.base s.fill (g.S.Source.selection s.below) c.args.block.level c.args.block.number (c.is_in.ensures.0 c.if-not-is_in.false) c.pins.result Around c.pins.ensures c.in-Around.ensures
    c.whole.result c.ask-in-Around.result c.with_fill.result c.whole.ensures c.with_fill.ensures c.ask-in-Around.ensures
