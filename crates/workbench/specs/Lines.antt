-- Answers as they print.
use Rattle.std.specs.Prelude.{ℕ, true, false, List, ◌++◌, codes, decimal}
use Rattle.faults.specs.Refusals.{refused}
use Rattle.workbench.specs.declared.answer.Answer.{Answer}
use Rattle.workbench.specs.declared.answer.Answer.TheVariants as answer
use Rattle.workbench.specs.declared.answer.Misplaced.{Misplaced}
use Rattle.workbench.specs.declared.answer.Misplaced.TheVariants as why

abbrev pub line : Answer → List ℕ
line answer.Done = codes "OK"
line (answer.Refused f) = refused f
line (answer.Code c) = codes "CODE " ++ decimal c
line (answer.Same true) = codes "SAME yes"
line (answer.Same false) = codes "SAME no"
line (answer.Used u) = codes "USED " ++ decimal u
line (answer.Nodes l k) = codes "LINE " ++ (decimal l ++ (codes " NODES " ++ decimal k))
line (answer.Listing b) = codes "LISTING " ++ (decimal b ++ codes " BYTES")

abbrev pub misplaced : Misplaced → List ℕ
misplaced why.Bare = codes "there is no plan"
misplaced why.Open = codes "the plan is open"
misplaced why.Issued = codes "the plan is issued"
misplaced why.FewNodes = codes "fewer nodes are there"
