use Rattle.model.specs.Diagrams.{listed}
use Rattle.listings.specs.Rows.{filled, room}
use Rattle.listings.proofs.Loans.{kept_on}
use Rattle.listings.proofs.Picking.{one_picked}
use Rattle.listings.proofs.fronts.Level.pick_all.Goals as goal

pub loop-entry-preserved : goal.loop-entry-preserved
loop-entry-preserved c = record {
  loan = kept_on c.loop-entry.invariant.loan c.pick.ensures.loan;
  so_far = one_picked (listed c.args.self.nodes.now) c.args.self.place c.args.front.now c.loop-entry.entry-index (room c.args.order.now) (room c.loop-entry.order)
      (filled c.args.order.now) (filled c.loop-entry.order) (filled c.pick.new.order) c.loop-entry-test.true c.loop-entry.invariant.loan.room c.pick.ensures.picks c.loop-entry.invariant.so_far;
}
