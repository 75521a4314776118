-- Three nodes, two pins: what is drawn, refused, erased and drawn again.
use Rattle.std.specs.Prelude.{◌≡◌, Some, Ok, Result}
use Rattle.faults.specs.declared.fault.Fault.{Fault}
use Rattle.faults.specs.declared.fault.Ground.TheVariants.{Parts}
use Rattle.faults.specs.Refusals.{at}
use Rattle.settled.specs.declared.outcome.Outcome.{Outcome}

-- three nodes are used; the third map is refused for its parts; then two are used
abbrev pub Settles : Result Outcome Fault → Type 0
Settles r = r ≡ Ok (record { used = 3; refusal = Some (at Parts 3); used_then = 2 })
