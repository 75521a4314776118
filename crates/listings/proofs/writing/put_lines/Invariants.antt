use Rattle.model.specs.Listings.{line_reference}
use Rattle.model.specs.Lists.{each}
use Rattle.listings.specs.Labels.{relabel}
use Rattle.listings.specs.Rows.{filled, KeepsLoan}
use Rattle.listings.proofs.Written.{WrittenSoFar}
use Rattle.listings.proofs.writing.put_lines.Given as goal

abbrev pub invariant-loop-line : goal.invariant-loop-line
invariant-loop-line l = record {
  loan : KeepsLoan l.fn.out l.out;
  written : WrittenSoFar line_reference (each (relabel l.numbering.numbers.now)) l.lines l.line-index (filled l.fn.out) (filled l.out);
}
