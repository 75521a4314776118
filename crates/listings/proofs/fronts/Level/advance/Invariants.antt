use Rattle.model.specs.Diagrams.{listed}
use Rattle.listings.specs.Rows.{filled, room, KeepsLoan}
use Rattle.listings.proofs.Leading.{SoFar}
use Rattle.listings.proofs.fronts.Level.advance.Given as goal

abbrev pub invariant-loop-entry : goal.invariant-loop-entry
invariant-loop-entry l = record {
  loan : KeepsLoan l.fn.ahead l.ahead;
  so_far : SoFar (listed l.self.nodes.now) l.self.place l.front l.entry-index (room l.fn.ahead) (filled l.ahead) l.seen;
}
