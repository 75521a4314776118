use Rattle.model.specs.Diagrams.{listed}
use Rattle.listings.specs.Rows.{filled, room, KeepsLoan}
use Rattle.listings.proofs.Picking.{PickedSoFar}
use Rattle.listings.proofs.fronts.Level.pick_all.Given as goal

abbrev pub invariant-loop-entry : goal.invariant-loop-entry
invariant-loop-entry l = record {
  loan : KeepsLoan l.fn.order l.order;
  so_far : PickedSoFar (listed l.self.nodes.now) l.self.place l.front l.entry-index (room l.fn.order) (filled l.fn.order) (filled l.order);
}
