use Rattle.std.proofs.Common.{◌≡◌, length, sym, ◌∙◌}
use Rattle.listings.specs.Rows.{filled, room}
use Rattle.listings.proofs.Numbering.{numbers_lines, numbered_nodes}
use Rattle.listings.proofs.numbers.number_nodes.Goals as goal

pub returns : goal.returns
returns c = λ us dg f few enough.
    let nodes = c.args.nodes.now in
    let lines = c.args.lines.now in
    let order = c.into_filled-order.result.now in
    let is = filled c.meet_lines.new.front in
    let seen = c.meet_lines.new.seen in
    let rows : room c.over-front.result ≡ length nodes = c.over-front.ensures.room ∙ c.split_at_mut-front.ensures.front_len in
    let rows₁ : room c.meet_lines.new.front ≡ length nodes = c.meet_lines.ensures.loan.room ∙ rows in
    let rows₂ : room c.over-ahead.result ≡ length nodes = c.over-ahead.ensures.room ∙ c.split_at_mut-ahead.ensures.front_len in
    let places : room c.over-order.result ≡ length nodes = c.over-order.ensures.room ∙ c.split_at_mut-order.ensures.front_len in
    let wide : length seen ≡ length nodes = c.meet_lines.auto.seen ∙ c.split_at_mut-numbers.ensures.front_len in
    let numbers = c.number_from.ensures.numbers (rows₂ ∙ sym rows₁) (wide ∙ sym rows₁) in
    numbered_nodes c.args.pins nodes us dg few lines f order
    (c.into_filled-order.ensures
    ∙ numbers_lines c.args.pins nodes us dg few lines f (room c.over-front.result) (room c.meet_lines.new.front) (room c.over-order.result) is seen (filled c.over-order.result) (filled c.number_from.new.order)
    rows rows₁ places wide c.over-order.ensures.empty c.meet_lines.ensures.meets numbers)
    c.number_from.new.seen c.invert.new.numbers (c.number_from.auto.seen ∙ wide) c.invert.ensures
