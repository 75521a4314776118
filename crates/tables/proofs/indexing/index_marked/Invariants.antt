use Rattle.std.proofs.Common.{◌<◌, length}
use Rattle.model.specs.Diagrams.{listed, Reduced}
use Rattle.tables.specs.States.{Live}
use Rattle.tables.proofs.Entries.{Entering}
use Rattle.tables.proofs.indexing.index_marked.Given as goal

abbrev pub invariant-loop-slot : goal.invariant-loop-slot
invariant-loop-slot l = Reduced (listed l.nodes) (Live l.marks) → length l.nodes < length l.index → Entering l.nodes l.marks l.index l.slot
