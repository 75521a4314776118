use Rattle.std.proofs.lemmas.Result.{err_from_is_err_and}
use Rattle.listings.proofs.Listed.{size_refused, buffer_short, buffer_written}
use Rattle.listings.proofs.listing.list_lines.Goals as goal

pub returns-in_err-check_sizes : goal.returns-in_err-check_sizes
returns-in_err-check_sizes c =
    let p = err_from_is_err_and c.from_residual.result c.from_residual.ensures.1 in
    rw (p.1, p.2) (size_refused _ _ _ _ _ _ c.in_err-check_sizes.ensures)

pub returns-then-buffer-needed : goal.returns-then-buffer-needed
returns-then-buffer-needed c =
    buffer_short c.args.nodes.now c.args.work.now c.args.pins.now c.number_nodes-numbering.result.order.now c.number_nodes-numbering.result.numbers.now c.args.lines.now c.args.buffer.now
    c.told-lines c.in_ok-check_sizes.ensures.0 c.number_nodes-numbering.ensures c.listing_length-needed.result c.listing_length-needed.ensures c.at.result c.at.ensures c.if-buffer-needed.true

pub returns : goal.returns
returns c =
    buffer_written c.args.nodes.now c.args.work.now c.args.pins.now c.number_nodes-numbering.result.order.now c.number_nodes-numbering.result.numbers.now c.args.lines.now c.args.buffer.now
    c.told-lines c.in_ok-check_sizes.ensures.0 c.number_nodes-numbering.ensures c.listing_length-needed.result c.listing_length-needed.ensures c.write_listing.new.room c.if-buffer-needed.false c.write_listing.ensures
