-- Refusals, made of those that a plan told.
use Rattle.std.specs.Prelude.{ℕ}
use Rattle.faults.specs.declared.fault.Fault.{Fault}
use Rattle.faults.specs.declared.fault.Ground.{Ground}
use Rattle.faults.specs.declared.fault.Ground.TheVariants.{NodeTable}
use Rattle.faults.specs.Refusals.{at}

-- a refusal of the node table, told of a table with so many nodes
abbrev pub retold : Ground → Fault → ℕ → Fault
retold NodeTable f n = at NodeTable n
retold _ f n = f
