-- The common step of every growth, and making tables ready for it.
use Rattle.std.specs.Prelude.{◌≡◌, ℕ, suc, ◌+◌, ◌-◌, ◌*◌, ◌<◌, ◌≤◌, List, length, Option}
use Rattle.model.specs.declared.Branch.{Branch}
use Rattle.model.specs.declared.Node.{Node}
use Rattle.model.specs.Lists.{In, held}
use Rattle.model.specs.Trees.{fork}
use Rattle.model.specs.Diagrams.{listed, tree, From}
use Rattle.tables.specs.declared.adding.Growing.{Growing}
use Rattle.tables.specs.States.{Live, State, Outcome}
use Rattle.tables.specs.Markings.{Diagram, MarkedFrom}

-- what a node of place d with these branches comes to: a branch for the tree that they make
abbrev pub Adds : ℕ → ℕ → Branch → Branch → List Node → List ℕ → List ℕ → List Node → List ℕ → List ℕ → Option Branch → Type 0
Adds n d low high nodes marks index nodes' marks' index' r =
    State n nodes marks index → d < n → From (Live marks) (listed nodes) (suc d) low → From (Live marks) (listed nodes) (suc d) high
    → Outcome n d (fork (tree (listed nodes) (n - suc d) (suc d) low) (tree (listed nodes) (n - suc d) (suc d) high)) nodes marks nodes' marks' index' r

-- the same in a growing table
abbrev pub AddsNode : ℕ → Branch → Branch → Growing → Growing → Option Branch → Type 0
AddsNode d low high g g' r = Adds g.pins d low high g.nodes.now g.marks.now g.index.now g'.nodes.now g'.marks.now g'.index.now r

-- a growing table stays in the same memory, with the same pins
pub record KeepsLoans (g g' : Growing) : Type 0 where
  pub nodes : g'.nodes.ghost_name ≡ g.nodes.ghost_name
  pub marks : g'.marks.ghost_name ≡ g.marks.ghost_name
  pub index : g'.index.ghost_name ≡ g.index.ghost_name
  pub pins : g'.pins ≡ g.pins

-- the live nodes are those that are reached from the roots, and the tables are in order
pub record Prepared (n : ℕ) (nodes : List Node) (roots : List Branch) (marks index : List ℕ) : Type 0 where
  pub marked : MarkedFrom n nodes roots marks
  pub state : State n nodes marks index

-- what preparing the work for lines comes to, where their roots stand in some reduced diagram of the table
abbrev pub Prepares : ℕ → List Node → List ℕ → List (Option Branch) → List ℕ → List ℕ → Type 0
Prepares n nodes work lines marks index =
    (us : List ℕ) → Diagram n nodes us → ((b : Branch) → In b (held lines) → From (λ i. In i us) (listed nodes) 0 b)
    → length nodes ≤ 4096 → 3 * length nodes + 2 ≤ length work → Prepared n nodes (held lines) marks index
