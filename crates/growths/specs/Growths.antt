-- What the growths come to.
use Rattle.std.specs.Prelude.{◌≡◌, ℕ, ◌+◌, ◌-◌, ◌*◌, ◌<◌, ◌≤◌, Bool, List, length, Some, Option}
use Rattle.model.specs.declared.Branch.{Branch}
use Rattle.model.specs.declared.Node.{Node}
use Rattle.model.specs.Lists.{In, held}
use Rattle.model.specs.Trees.{Tree}
use Rattle.model.specs.Joins.{join, strap}
use Rattle.model.specs.Diagrams.{listed, tree, From}
use Rattle.tables.specs.declared.adding.Growing.{Growing}
use Rattle.tables.specs.States.{Live, State, Outcome}
use Rattle.tables.specs.Markings.{Diagram, MarkedFrom}

-- growing the join by g of two branches, with d pins fixed
abbrev pub JoinsTo : (ℕ → ℕ → ℕ) → ℕ → ℕ → Branch → Branch → List Node → List ℕ → List ℕ → List Node → List ℕ → List ℕ → Option Branch → Type 0
JoinsTo g n d a b nodes marks index nodes' marks' index' r =
    State n nodes marks index → d ≤ n → From (Live marks) (listed nodes) d a → From (Live marks) (listed nodes) d b
    → Outcome n d (join g (tree (listed nodes) (n - d) d a) (tree (listed nodes) (n - d) d b)) nodes marks nodes' marks' index' r

-- growing a branch with the pin at place q set, with d pins fixed
abbrev pub StrapsTo : ℕ → Bool → ℕ → ℕ → Branch → List Node → List ℕ → List ℕ → List Node → List ℕ → List ℕ → Option Branch → Type 0
StrapsTo q v n d b nodes marks index nodes' marks' index' r =
    State n nodes marks index → d ≤ n → d ≤ q → From (Live marks) (listed nodes) d b
    → Outcome n d (strap (q - d) v (tree (listed nodes) (n - d) d b)) nodes marks nodes' marks' index' r

-- the same in a growing table
abbrev pub JoinsIn : (ℕ → ℕ → ℕ) → ℕ → Branch → Branch → Growing → Growing → Option Branch → Type 0
JoinsIn g d a b t t' r = JoinsTo g t.pins d a b t.nodes.now t.marks.now t.index.now t'.nodes.now t'.marks.now t'.index.now r

abbrev pub StrapsIn : ℕ → Bool → ℕ → Branch → Growing → Growing → Option Branch → Type 0
StrapsIn q v d b t t' r = StrapsTo q v t.pins d b t.nodes.now t.marks.now t.index.now t'.nodes.now t'.marks.now t'.index.now r

-- where the pin was fixed before, the branch is the answer and nothing is changed
abbrev pub Past : ℕ → ℕ → Branch → List Node → List ℕ → List ℕ → List Node → List ℕ → List ℕ → Option Branch → Type 0
Past q d b nodes marks index nodes' marks' index' r = q < d → (r ≡ Some b) × (nodes' ≡ nodes) × (marks' ≡ marks) × (index' ≡ index)

-- what growing a root for the tree t comes to, beside all that is reached from the roots that stand: the marks tell what was reached before, and what is live now
pub record Grew (n : ℕ) (nodes : List Node) (roots : List Branch) (t : Tree) (nodes' : List Node) (r : Option Branch) : Type 0 where
  pub marks : List ℕ
  pub marks' : List ℕ
  pub index' : List ℕ
  pub marked : MarkedFrom n nodes roots marks
  pub outcome : Outcome n 0 t nodes marks nodes' marks' index' r

-- growing beside lines whose roots stand in some reduced diagram of the table
abbrev pub Grows : ℕ → List Node → List ℕ → List (Option Branch) → Tree → List Node → Option Branch → Type 0
Grows n nodes work lines t nodes' r =
    (us : List ℕ) → Diagram n nodes us → ((b : Branch) → In b (held lines) → From (λ i. In i us) (listed nodes) 0 b)
    → length nodes ≤ 4096 → 3 * length nodes + 2 ≤ length work → Grew n nodes (held lines) t nodes' r
