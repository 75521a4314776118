use Rattle.model.specs.Diagrams.{listed}
use Rattle.listings.specs.Rows.{filled, room}
use Rattle.listings.proofs.Loans.{kept_on}
use Rattle.listings.proofs.Leading.{one_further}
use Rattle.listings.proofs.Shortening.{short_is}
use Rattle.listings.proofs.fronts.Level.advance.Goals as goal

pub loop-entry-preserved : goal.loop-entry-preserved
loop-entry-preserved c = record {
  loan = kept_on c.loop-entry.invariant.loan c.meet_both.ensures.loan;
  so_far = one_further (listed c.args.self.nodes.now) c.args.self.place c.args.front.now c.loop-entry.entry-index c.number_in.result (room c.args.ahead.now) (room c.loop-entry.ahead)
      (filled c.loop-entry.ahead) c.loop-entry.seen (filled c.meet_both.new.front) c.meet_both.new.seen c.loop-entry-test.true (short_is _ c.number_in.result c.number_in.ensures)
      c.loop-entry.invariant.loan.room c.meet_both.auto.seen c.meet_both.ensures.meets c.loop-entry.invariant.so_far;
}
