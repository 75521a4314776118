use Rattle.std.proofs.Common.{◌≡◌, true, false, rules, refl, sym, ◌∙◌}
use Rattle.std.proofs.lemmas.Iterator.{first_from_Range}
use Rattle.plans.specs.Orders.{misplaced}
use Rattle.plans.proofs.Naming.{searched, told_at}
use Rattle.plans.proofs.order.check_order.Goals as goal

pub returns : goal.returns
returns c =
    let order = c.args.order.now in
    told_at c.find.result c.map_or.result _ (λ i e. search rules) c.map_or.ensures
    ∙ sym (searched order _ _ refl refl c.find.result (first_from_Range _ _ _ c.find.result (λ k. misplaced order k ≡ true) (λ k. misplaced order k ≡ false) c.find.ensures.ran (λ x q e. search rules) (λ x q e. search rules)))
