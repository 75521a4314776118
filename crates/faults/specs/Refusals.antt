-- Refusals in tests and definitions, and the line that one prints as.
use Rattle.std.specs.Prelude.{ℕ, Bool, true, false, cond, List, ◌++◌, Some, None, codes, decimal, Option}
use Rattle.faults.specs.declared.fault.Fault.{Fault}
use Rattle.faults.specs.declared.fault.Ground.{Ground}
use Rattle.faults.specs.declared.fault.Layer.{Layer}
use Rattle.faults.specs.declared.fault.Layer.TheVariants.{File, Entry, Plan}
use Rattle.faults.specs.Grounds.{number, layer_of}

-- the refusal on a ground at a place
abbrev pub at : (ground : Ground) → ℕ → Fault
at g p = record { ground = g; layer = layer_of g; place = p }

-- the refusal if the test holds, else what is tried next
abbrev pub refuse_if : Bool → Fault → Option Fault → Option Fault
refuse_if b f o = cond b (Some f) o

-- the first of two
abbrev pub or_else : Option Fault → Option Fault → Option Fault
or_else (Some f) o = Some f
or_else None o = o

abbrev pub is_none : {A : Type 0} → Option A → Bool
is_none (Some x) = false
is_none None = true

abbrev pub letter : Layer → List ℕ
letter File = codes "F"
letter Entry = codes "M"
letter Plan = codes "P"

-- as REFUSED 2 F 0
abbrev pub refused : Fault → List ℕ
refused f = codes "REFUSED " ++ (decimal (number f.ground) ++ (codes " " ++ (letter f.layer ++ (codes " " ++ decimal f.place))))
