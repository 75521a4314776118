-- A node table with marks and an index: the live nodes are ordered, reduced and found.
use Rattle.std.specs.Prelude.{◌≡◌, ℕ, ◌-◌, ◌<◌, ◌≤◌, List, length, Some, None, Option, slice_index}
use Rattle.model.specs.declared.Branch.{Branch}
use Rattle.model.specs.declared.Node.{Node}
use Rattle.model.specs.Lists.{In}
use Rattle.model.specs.Trees.{Tree}
use Rattle.model.specs.Parts.{parts, level, used}
use Rattle.model.specs.Diagrams.{From, Ordered, Reduced, key, listed, tree}
use Rattle.tables.specs.Indexes.{Indexed}

-- node i is marked
abbrev pub Live : List ℕ → ℕ → Type 0
Live marks i = 0 < slice_index marks i

-- the tables are in order
pub record State (n : ℕ) (nodes : List Node) (marks index : List ℕ) : Type 0 where
  pub long : length marks ≡ length nodes
  pub few : length nodes ≤ 4096
  pub ordered : Ordered n (listed nodes) (Live marks)
  pub reduced : Reduced (listed nodes) (Live marks)
  pub indexed : Indexed nodes marks index

-- every live node stands as it stood, and is live still
pub record Grown (nodes : List Node) (marks : List ℕ) (nodes' : List Node) (marks' : List ℕ) : Type 0 where
  pub size : length nodes' ≡ length nodes
  pub kept : (i : ℕ) → Live marks i → listed nodes' i ≡ listed nodes i
  pub live : (i : ℕ) → Live marks i → Live marks' i

-- each live node is a part of the trees
abbrev pub Parted : ℕ → List Node → List ℕ → List Tree → Type 0
Parted n nodes marks ts = (i : ℕ) → Live marks i → In (key n (listed nodes) i) (parts n 0 ts)

-- a branch whose tree, with d pins fixed, is t
abbrev pub Holds : ℕ → List Node → List ℕ → ℕ → Tree → Option Branch → Type 0
Holds n nodes marks d t None = Unit {0}
Holds n nodes marks d t (Some b) = From (Live marks) (listed nodes) d b × (tree (listed nodes) (n - d) d b ≡ t)

-- no node was made that is no part of the trees; and a refusal means that the trees have more parts than the table has nodes
abbrev pub Fair : ℕ → List Node → List ℕ → List Tree → Option Branch → Type 0
Fair n nodes marks ts None = length nodes < used n ts
Fair n nodes marks ts (Some b) = Parted n nodes marks ts

-- what growing a branch for the tree t, with d pins fixed, comes to
pub record Outcome (n d : ℕ) (t : Tree) (nodes : List Node) (marks : List ℕ) (nodes' : List Node) (marks' index' : List ℕ) (r : Option Branch) : Type 0 where
  pub state : State n nodes' marks' index'
  pub grown : Grown nodes marks nodes' marks'
  pub holds : Holds n nodes' marks' d t r
  pub fair : (ts : List Tree) → Parted n nodes marks ts → In t (level d ts) → Fair n nodes' marks' ts r
