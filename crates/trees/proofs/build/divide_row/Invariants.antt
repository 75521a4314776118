use Rattle.trees.specs.Growth.{Advanced, Keeps}
use Rattle.trees.specs.Mixed.{codes}
use Rattle.trees.proofs.build.divide_row.Given as goal

abbrev pub invariant-loop-i : goal.invariant-loop-i
invariant-loop-i g l =
    Advanced (g.S.Source.width l.source) (codes g.S.Of.End.code (g.S.Source.selection l.source)) l.initial.draft.table.now l.initial.draft.len l.draft.table.now l.i l.draft.len
    × Keeps l.initial.draft l.draft
