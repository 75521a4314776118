use Rattle.std.proofs.Common.{ℕ, List, subst}
use Rattle.model.specs.Orders.{Order}
use Rattle.drawings.specs.Draws.{DrawsRoot}
use Rattle.plans.specs.Holding.{order_of}
use Rattle.plans.proofs.Holdings.{order_length, order_names}
use Rattle.plans.proofs.header.Header.grow_tree.Goals as goal

pub returns : goal.returns
returns c =
    let h = c.args.self.now in
    λ f built. subst (λ (order : List ℕ). DrawsRoot c.args.tree c.args.records.now order c.args.nodes.now c.args.work.now h.pins h.lines c.draw_root.new.nodes c.draw_root.result)
    c.order.ensures c.draw_root.ensures f built (order_length h) (subst (λ (n : ℕ). Order n (order_of h)) (order_length h) (order_names h))
