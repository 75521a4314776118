use Rattle.std.proofs.Common.{◌≡◌, length, ap, ◌∙◌, arith}
use Rattle.model.specs.Listings.{line_reference}
use Rattle.model.specs.Lists.{each}
use Rattle.listings.specs.Labels.{relabel}
use Rattle.listings.specs.Rows.{filled}
use Rattle.listings.proofs.Written.{written_length}
use Rattle.model.proofs.Bytes.{line_length}
use Rattle.listings.proofs.writing.put_lines.Goals as goal

pub extend_from_slice-requires : goal.extend_from_slice-requires
extend_from_slice-requires c =
    let k = c.loop-line.line-index in
    let far = written_length line_reference (each (relabel c.args.numbering.numbers.now)) c.args.lines.now k (filled c.args.out.now) (filled c.loop-line.out) c.loop-line.invariant.written 3 line_length (omega arith) in
    let l : length c.line_bytes.result ≡ 3 = ap length c.line_bytes.ensures ∙ line_length c.relabel_line.result in
    let same = c.loop-line.invariant.loan.room in
    let fits = c.requires in
    omega (arith, far, l, same, fits)
