use Rattle.std.proofs.Common.{◌≡◌, ℕ, List, length, take}
use Rattle.model.specs.declared.Branch.{Branch}
use Rattle.model.specs.Lists.{In, held}
use Rattle.model.specs.Diagrams.{listed, From}
use Rattle.tables.specs.Markings.{Diagram}
use Rattle.tables.proofs.Marks.{SoFar}
use Rattle.tables.proofs.marking.mark_roots.Given as goal

abbrev pub invariant-loop-root : goal.invariant-loop-root
invariant-loop-root l =
    (us : List ℕ) → Diagram l.pins l.nodes us → length l.marks ≡ length l.nodes
    → ((b : Branch) → In b (held l.lines) → From (λ i. In i us) (listed l.nodes) 0 b)
    → SoFar (listed l.nodes) (take (length l.yielded) (held l.lines)) l.marks
