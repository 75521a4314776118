-- How many nodes are reached.
use Rattle.std.specs.Prelude.{◌≡◌, ℕ, List, length, Option}
use Rattle.model.specs.declared.Branch.{Branch}
use Rattle.model.specs.declared.Node.{Node}
use Rattle.model.specs.Lists.{In, held}
use Rattle.model.specs.Diagrams.{listed, From, Reaches}
use Rattle.tables.specs.Markings.{Diagram}

-- every list of the nodes reached from the lines, each once, has this length, where their roots stand in some reduced diagram of the table
abbrev pub ReachesMany : ℕ → List Node → List (Option Branch) → ℕ → Type 0
ReachesMany n nodes lines r =
    (us : List ℕ) → Diagram n nodes us → ((b : Branch) → In b (held lines) → From (λ i. In i us) (listed nodes) 0 b)
    → (vs : List ℕ) → Reaches (listed nodes) (held lines) vs → length vs ≡ r
