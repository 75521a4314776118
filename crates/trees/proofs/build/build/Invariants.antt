use Rattle.std.proofs.Common.{◌≡◌, length}
use Rattle.trees.specs.Growth.{Advanced, Keeps}
use Rattle.trees.specs.Mixed.{codes}
use Rattle.trees.proofs.Rows.{rows}
use Rattle.trees.proofs.build.build.Given as goal

abbrev pub invariant-loop-level : goal.invariant-loop-level
invariant-loop-level g l =
    let n = g.S.Source.width l.source in
    let c = codes g.S.Of.End.code (g.S.Source.selection l.source) in
    Advanced n c l.initial.draft.table.now l.initial.draft.len l.draft.table.now l.done l.draft.len × (l.done ≡ length (rows n c l.level))
    × Keeps l.initial.draft l.draft
