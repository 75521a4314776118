use Rattle.std.proofs.Common.{arith}
use Rattle.plans.proofs.Reckonings.{filled_few}
use Rattle.plans.proofs.marking.reached_count.Goals as goal

pub overflow_cast-result : goal.overflow_cast-result
overflow_cast-result c =
    let few = c.args.over.now.few in
    let marked = c.args.over.now.marked in
    omega (arith, c.count_marks.ensures.filled, filled_few c.mark_roots.new.marks, c.mark_roots.auto.marks)
