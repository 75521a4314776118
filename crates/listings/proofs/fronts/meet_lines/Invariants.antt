use Rattle.listings.specs.Rows.{filled, room, KeepsLoan}
use Rattle.listings.proofs.Leading.{LinesSoFar}
use Rattle.listings.proofs.fronts.meet_lines.Given as goal

abbrev pub invariant-loop-line : goal.invariant-loop-line
invariant-loop-line l = record {
  loan : KeepsLoan l.fn.front l.front;
  so_far : LinesSoFar l.lines l.line-index (room l.fn.front) (filled l.front) l.seen;
}
