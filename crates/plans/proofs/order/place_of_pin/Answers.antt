use Rattle.std.proofs.Common.{◌≡◌, rules, sym, ◌∙◌}
use Rattle.std.proofs.lemmas.Iterator.{YieldsList-from_slice, IsFirst-from_position}
use Rattle.plans.proofs.Naming.{place_found}
use Rattle.plans.proofs.order.place_of_pin.Goals as goal

pub returns : goal.returns
returns c =
    let order = c.args.order.now in
    let pin = c.args.pin in
    c.unwrap_or.ensures
    ∙ sym (place_found order pin c.position-place.result
    (IsFirst-from_position _ _ c.position-place.result (λ q. q ≡ pin) (λ q. q ≡ pin → ⊥) c.position-place.ensures.ran (YieldsList-from_slice order c.iter.ensures.rest) (λ x q e. search rules) (λ x q e. search rules)))
