-- Marking the nodes that are reached, and counting marks.
use Rattle.std.specs.Prelude.{◌≡◌, ℕ, Bool, ◌⊎◌, ◌↔◌, List, length, Option}
use Rattle.model.specs.declared.Branch.{Branch}
use Rattle.model.specs.declared.Branch.TheVariants.{End as end, Node as node}
use Rattle.model.specs.declared.Node.{Node}
use Rattle.model.specs.Lists.{In, Apart, held}
use Rattle.model.specs.Diagrams.{Table, listed, side, follow, From, Ordered, Reduced, Reached}
use Rattle.tables.specs.States.{Live}

-- a branch that is a node is marked
abbrev pub Marked : List ℕ → Branch → Type 0
Marked marks (end c) = Unit {0}
Marked marks (node i) = Live marks i

-- new marks are on nodes that are reached from b, and are closed: where a new one leads is marked too
pub record Marking (T : Table) (marks : List ℕ) (b : Branch) (marks' : List ℕ) : Type 0 where
  pub grows : (i : ℕ) → Live marks i → Live marks' i
  pub entered : Marked marks' b
  pub closed : (i : ℕ) → Live marks' i → Live marks i ⊎ ((v : Bool) → Marked marks' (side v (T i)))
  pub reached : (i : ℕ) → Live marks' i → Live marks i ⊎ ((vs : List Bool) × (follow T vs b ≡ node i))

-- the nodes us of a table are a reduced diagram in n pins
pub record Diagram (n : ℕ) (nodes : List Node) (us : List ℕ) : Type 0 where
  pub ordered : Ordered n (listed nodes) (λ i. In i us)
  pub reduced : Reduced (listed nodes) (λ i. In i us)

-- what marking from a branch of place d does, in any reduced diagram
abbrev pub Marks : ℕ → List Node → List ℕ → ℕ → Branch → List ℕ → Type 0
Marks n nodes marks d b marks' =
    (us : List ℕ) → Diagram n nodes us → length marks ≡ length nodes → From (λ i. In i us) (listed nodes) d b → Marking (listed nodes) marks b marks'

-- the marked nodes are exactly those that are reached from the roots, and are a reduced diagram
pub record MarkedFrom (n : ℕ) (nodes : List Node) (roots : List Branch) (marks : List ℕ) : Type 0 where
  pub exact : (i : ℕ) → Live marks i ↔ Reached (listed nodes) roots i
  pub ordered : Ordered n (listed nodes) (Live marks)
  pub reduced : Reduced (listed nodes) (Live marks)

-- what marking from lines comes to, where their roots stand in some reduced diagram of the table
abbrev pub MarksRoots : ℕ → List Node → List (Option Branch) → List ℕ → Type 0
MarksRoots n nodes lines marks =
    (us : List ℕ) → Diagram n nodes us → length marks ≡ length nodes → ((b : Branch) → In b (held lines) → From (λ i. In i us) (listed nodes) 0 b)
    → MarkedFrom n nodes (held lines) marks

-- every list of the marked nodes, each once, has this length
abbrev pub Counts : List ℕ → ℕ → Type 0
Counts marks r = (us : List ℕ) → Apart us → ((i : ℕ) → In i us ↔ Live marks i) → length us ≡ r
