use Rattle.listings.specs.Rows.{filled, room}
use Rattle.listings.proofs.Loans.{kept_on}
use Rattle.listings.proofs.Leading.{line_passed, line_met}
use Rattle.listings.proofs.fronts.meet_lines.Goals as goal
use Rattle.listings.proofs.fronts.meet_lines.Goals.{in-Some, in_default}

pub loop-line-preserved : goal.loop-line-preserved
loop-line-preserved c =
    let lines = c.args.lines.now in
    let k = c.loop-line.line-index in
    let less = c.loop-line-test.true in
    let size = room c.args.front.now in
    let is = filled c.loop-line.front in
    elim c.match-line.branch [
      | in-Some w ↦ rw (w.front-is, w.seen-is) record {
        loan = kept_on c.loop-line.invariant.loan w.meet.ensures.loan;
        so_far = line_met lines k less size is c.loop-line.seen w.in-Some.root w.in-Some.is (room c.loop-line.front) c.loop-line.invariant.loan.room (filled w.meet.new.front) w.meet.new.seen w.meet.auto.seen w.meet.ensures.meets c.loop-line.invariant.so_far;
      }
      | in_default w ↦ rw (w.front-is, w.seen-is) record { loan = c.loop-line.invariant.loan; so_far = line_passed lines k less size is c.loop-line.seen w.in_default.is c.loop-line.invariant.so_far }
    ]
