use Rattle.rows.specs.Rows.{KeepsLoans}
use Rattle.workbench.specs.Calls.{all_lent}
use Rattle.workbench.specs.Desks.{Situation, Stands}
use Rattle.workbench.proofs.Rowing.{Midway}
use Rattle.workbench.proofs.running.run.Given as goal

abbrev pub invariant-loop-given : goal.invariant-loop-given
invariant-loop-given l =
    KeepsLoans l.fn.tables l.tables
    × ((s : Situation) → Stands l.fn.desk l.fn.tables.nodes.now s → Midway (all_lent l.fn.tables l.fn.buffer) s l.row l.fn.buffer l.given-index l.desk l.tables.nodes.now l.buffer)
