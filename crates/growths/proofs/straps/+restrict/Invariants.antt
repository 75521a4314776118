use Rattle.std.proofs.Common.{◌-◌}
use Rattle.growths.proofs.straps.+restrict.Given as goal

abbrev pub decreases-restrict : goal.decreases-restrict
decreases-restrict l = l.growing.now.pins - l.place
