use Rattle.std.proofs.Common.{length, refl}
use Rattle.plans.proofs.Listed.{listed_plan}
use Rattle.plans.proofs.header.Header.list.Goals as goal

pub returns : goal.returns
returns c =
    let h = c.args.self.now in
    listed_plan h c.args.nodes.now (length c.args.work.now) c.args.buffer.now c.in_ok-check_tables.ensures c.order.result.now h.lines c.list_lines.result c.list_lines.new.buffer
    c.order.ensures refl c.list_lines.ensures
