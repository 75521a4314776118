-- How much of the lent tables a call is handed.
use Rattle.std.specs.Prelude.{ℕ, min, unwrap_or, Option}
use Rattle.plans.specs.Plain.{work_size}
use Rattle.workbench.specs.declared.desk.Lengths.{Lengths}

-- lengths that were set, or else those for a plan of so many pins and nodes
abbrev pub wanted : Option Lengths → (pins nodes : ℕ) → Lengths
wanted set n k = unwrap_or set (record { records = 20480; work = work_size n k })

abbrev pub lengths_of : Option Lengths → (pins nodes : ℕ) → (lent : Lengths) → Lengths
lengths_of set n k lent = record { records = min (wanted set n k).records lent.records; work = min (wanted set n k).work lent.work }
