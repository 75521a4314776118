use Rattle.model.specs.Diagrams.{listed}
use Rattle.listings.specs.Rows.{filled, room}
use Rattle.listings.proofs.Picking.{not_picked, picked}
use Rattle.listings.proofs.fronts.Level.pick.Goals as goal

pub returns-then-asks_pin-clause-picks : goal.returns-then-asks_pin-clause-picks
returns-then-asks_pin-clause-picks c =
    picked (listed c.args.self.nodes.now) c.args.self.place c.args.entry (room c.args.order.now) (filled c.args.order.now) c.asks_pin.result c.asks_pin.ensures c.if-asks_pin.true (filled c.push.new.self) c.push.ensures.filled

pub returns-else-asks_pin-clause-picks : goal.returns-else-asks_pin-clause-picks
returns-else-asks_pin-clause-picks c =
    not_picked (listed c.args.self.nodes.now) c.args.self.place c.args.entry (room c.args.order.now) (filled c.args.order.now) c.asks_pin.result c.asks_pin.ensures c.if-asks_pin.false
