use Rattle.model.specs.Diagrams.{listed}
use Rattle.model.specs.Listings.{node_bytes}
use Rattle.listings.specs.Labels.{short, relabelled}
use Rattle.listings.specs.Rows.{filled, KeepsLoan}
use Rattle.listings.proofs.Written.{WrittenSoFar}
use Rattle.listings.proofs.writing.put_nodes.Given as goal

abbrev pub invariant-loop-entry : goal.invariant-loop-entry
invariant-loop-entry l = record {
  loan : KeepsLoan l.fn.out l.out;
  written : WrittenSoFar node_bytes (λ i. relabelled l.numbering.numbers.now (listed l.nodes (short i))) l.numbering.order.now l.entry-index (filled l.fn.out) (filled l.out);
}
