use Rattle.std.proofs.Common.{◌-◌}
use Rattle.growths.proofs.joins.+apply.Given as goal

abbrev pub decreases-apply : goal.decreases-apply
decreases-apply g l = l.growing.now.pins - l.place
