use Rattle.std.proofs.Common.{◌≡◌, length, arith}
use Rattle.tables.proofs.adding.prepare.Goals as goal

pub returns : goal.returns
returns c = λ us dg f few room.
    let long : length c.mark_roots.new.marks ≡ length c.args.nodes.now = omega arith in
    let m = c.mark_roots.ensures us dg long f in
    record { marked = m; state = c.index_marked.ensures c.args.pins long few (omega arith) m.ordered m.reduced }
