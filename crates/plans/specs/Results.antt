-- The refusal in a result.
use Rattle.std.specs.Prelude.{Some, None, Ok, Err, Option, Result}
use Rattle.faults.specs.declared.fault.Fault.{Fault}

-- the refusal in a result, if it is one
abbrev pub refusal : {A : Type 0} → Result A Fault → Option Fault
refusal (Ok x) = None
refusal (Err f) = Some f
