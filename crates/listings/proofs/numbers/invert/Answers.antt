use Rattle.std.proofs.Common.{length}
use Rattle.listings.proofs.Inverting.{entry_written, entry_outside}
use Rattle.listings.proofs.numbers.invert.Goals as goal
use Rattle.listings.proofs.numbers.invert.Goals.{then-i-numbers, else-i-numbers}

pub loop-k-preserved : goal.loop-k-preserved
loop-k-preserved c =
    let order = c.args.order.now in
    let long = length c.args.numbers.now in
    elim c.if-i-numbers.branch [
      | then-i-numbers w ↦ rw w.numbers-is (entry_written order long c.loop-k.k c.loop-k-test.true c.loop-k.numbers c.loop-k.auto.numbers c.loop-k.invariant)
      | else-i-numbers w ↦ rw w.numbers-is (entry_outside order long c.loop-k.k c.loop-k-test.true c.loop-k.numbers c.loop-k.auto.numbers c.loop-k.invariant w.if-i-numbers.false)
    ]
