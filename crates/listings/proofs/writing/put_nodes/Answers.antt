use Rattle.std.proofs.Common.{◌≡◌, length, ap, ◌∙◌, arith}
use Rattle.model.specs.Diagrams.{listed}
use Rattle.model.specs.Listings.{node_bytes}
use Rattle.listings.specs.Labels.{short, relabelled}
use Rattle.listings.specs.Rows.{filled}
use Rattle.listings.proofs.Written.{written_length}
use Rattle.model.proofs.Bytes.{node_length}
use Rattle.listings.proofs.writing.put_nodes.Goals as goal

pub extend_from_slice-requires : goal.extend_from_slice-requires
extend_from_slice-requires c =
    let k = c.loop-entry.entry-index in
    let far = written_length node_bytes (λ i. relabelled c.args.numbering.numbers.now (listed c.args.nodes.now (short i))) c.args.numbering.order.now k (filled c.args.out.now) (filled c.loop-entry.out) c.loop-entry.invariant.written 7 node_length (omega arith) in
    let l : length c.node_bytes.result ≡ 7 = ap length c.node_bytes.ensures ∙ node_length c.relabel_node-node.result in
    let same = c.loop-entry.invariant.loan.room in
    let fits = c.requires in
    omega (arith, far, l, same, fits)
