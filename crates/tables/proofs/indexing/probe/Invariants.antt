use Rattle.tables.specs.Probes.{Missed}
use Rattle.tables.proofs.indexing.probe.Given as goal

abbrev pub invariant-loop-e : goal.invariant-loop-e
invariant-loop-e l = Missed l.nodes l.index l.wanted l.e
