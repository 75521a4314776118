use Rattle.std.proofs.Common.{◌≡◌, length, ap, ◌∙◌, arith}
use Rattle.std.proofs.lemmas.Result.{err_from_is_err_and}
use Rattle.files.specs.declared.format.Format.TheVariants.{Bits}
use Rattle.files.specs.Formats.{pins_of}
use Rattle.quotes.specs.Quotes.{address_order}
use Rattle.quotes.proofs.Counted.{never_refused, drawn_refused, drawn_counted}
use Rattle.quotes.proofs.quoting.quote_map.Goals as goal

pub returns-in_err-plan : goal.returns-in_err-plan
returns-in_err-plan c =
    let m = c.args.map.now in
    let bs = m.bytes.now in
    let order : c.address_order.result.now ≡ address_order (pins_of Bits bs) = c.address_order.ensures (let k = m.few in omega (arith, c.pins.ensures)) ∙ ap address_order c.pins.ensures in
    absurd (never_refused bs c.address_order.result.now order m.some m.few _ c.in_err-plan.ensures)

pub returns-in_err-draw : goal.returns-in_err-draw
returns-in_err-draw c =
    let m = c.args.map.now in
    let bs = m.bytes.now in
    let order : c.address_order.result.now ≡ address_order (pins_of Bits bs) = c.address_order.ensures (let k = m.few in omega (arith, c.pins.ensures)) ∙ ap address_order c.pins.ensures in
    let q = err_from_is_err_and c.from_residual-in_err-draw.result c.from_residual-in_err-draw.ensures.1 in
    rw (q.1, q.2) (drawn_refused bs c.address_order.result.now order _ _ c.in_ok-plan.ensures.holds _ _ _ c.in_err-draw.ensures)

pub returns : goal.returns
returns c =
    let m = c.args.map.now in
    let bs = m.bytes.now in
    let order : c.address_order.result.now ≡ address_order (pins_of Bits bs) = c.address_order.ensures (let k = m.few in omega (arith, c.pins.ensures)) ∙ ap address_order c.pins.ensures in
    drawn_counted bs c.address_order.result.now order _ _ c.in_ok-plan.ensures.holds _ _ c.in_ok-draw.ensures c.draw.auto.nodes (length c.draw.new.work) c.draw.auto.work c.count.result c.count.ensures
