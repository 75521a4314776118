use Rattle.model.specs.Diagrams.{listed}
use Rattle.listings.specs.Rows.{filled, room}
use Rattle.listings.proofs.Leading.{both_met}
use Rattle.listings.proofs.fronts.Level.meet_both.Goals as goal

pub returns-clause-meets : goal.returns-clause-meets
returns-clause-meets c =
    both_met (listed c.args.self.nodes.now) c.args.self.place c.args.i c.both_ways-low.result.0 c.both_ways-low.result.1 c.both_ways-low.ensures.low c.both_ways-low.ensures.high
    (room c.args.front.now) (room c.meet.new.front) c.meet.ensures.loan.room (filled c.args.front.now) c.args.seen.now (filled c.meet.new.front) c.meet.new.seen
    (filled c.meet-2.new.front) c.meet-2.new.seen c.meet.ensures.meets c.meet-2.ensures.meets
