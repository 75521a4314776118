use Rattle.std.proofs.Common.{◌∙◌, rules}
use Rattle.model.specs.Diagrams.{listed}
use Rattle.listings.specs.Rows.{filled, room}
use Rattle.listings.proofs.Written.{lines_fit, room_written}
use Rattle.listings.proofs.writing.write_listing.Goals as goal

pub put_lines-requires : goal.put_lines-requires
put_lines-requires c =
    lines_fit c.args.pins.order.now (listed c.args.nodes.now) c.args.numbering.order.now c.args.numbering.numbers.now c.args.lines.now (filled c.over-out.result) (filled c.put_head.new.out) (filled c.put_nodes.new.out)
    c.over-out.ensures.empty c.put_head.ensures.written c.put_nodes.ensures.written _ c.requires (room c.put_nodes.new.out) (c.put_nodes.ensures.loan.room ∙ (c.put_head.ensures.loan.room ∙ c.over-out.ensures.room))

pub returns : goal.returns
returns c =
    let w = room_written c.args.pins.order.now (listed c.args.nodes.now) c.args.numbering.order.now c.args.numbering.numbers.now c.args.lines.now (filled c.over-out.result) (filled c.put_head.new.out) (filled c.put_nodes.new.out)
    c.over-out.ensures.empty c.put_head.ensures.written c.put_nodes.ensures.written _ c.requires
    c.put_lines.new.out.entries.now c.put_lines.new.out.len c.put_lines.new.out.inside (c.put_lines.ensures.loan.room ∙ (c.put_nodes.ensures.loan.room ∙ (c.put_head.ensures.loan.room ∙ c.over-out.ensures.room))) c.put_lines.ensures.written in
    search (rules, w)
