use Rattle.std.proofs.Common.{◌≡◌, refl, rules, arith}
use Rattle.plans.specs.Holding.{Reads}
use Rattle.plans.proofs.Runs.{each_call}
use Rattle.settled.proofs.four_reads.read_each.Goals as goal

pub returns : goal.returns
returns c =
    let plan = c.args.plan.now in
    let nodes = c.args.nodes.now in
    let line = c.args.line in
    let items = c.from_fn.ensures.items in (
      items.long,
      λ e a h. each_call _ (λ s. (s.0.now ≡ plan) × (s.1.now ≡ nodes) × (s.2.now ≡ line)) (λ i y. Reads plan.header nodes line i y)
          (λ s i y t inv call. search rules) e _ _ 0 4 (refl, refl, refl) items.each a (omega arith) (omega arith),
    )
