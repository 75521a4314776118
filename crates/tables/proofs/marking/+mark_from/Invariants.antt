use Rattle.std.proofs.Common.{◌-◌}
use Rattle.tables.proofs.marking.+mark_from.Given as goal

abbrev pub decreases-mark_from : goal.decreases-mark_from
decreases-mark_from l = l.pins - l.place
