-- Ordered diagrams in a node table.
use Rattle.std.specs.Prelude.{◌≡◌, ℕ, zero, suc, ◌-◌, ◌^◌, ◌<◌, ◌≤◌, Bool, true, false, cond, List, [], ◌∷◌, length, Some, None, Option, ◌==◌, ◌≢◌, slice_index, slice_index_or}
pub use Rattle.model.specs.declared.Branch.{Branch}
pub use Rattle.model.specs.declared.Branch.TheVariants.{End as end, Node as node}
pub use Rattle.model.specs.declared.Node.{Node}
use Rattle.model.specs.Lists.{In, Apart}
use Rattle.model.specs.Trees.{Tree, leaf, fork}
use Rattle.model.specs.Parts.{Part, count}
use Rattle.model.specs.Selections.{Selection, pin, view_of, Agrees}

-- a node table, read by the number of a node
abbrev pub Table : Type 0
Table = ℕ → Node

-- the node of all zeros
abbrev pub blank : Node
blank = record { place = 0; low = end 0; high = end 0 }

-- a list of nodes as a table: blank past its end
abbrev pub listed : List Node → Table
listed nodes i = slice_index_or nodes i blank

-- the branch of a node for a pin that is low (false) or high (true)
abbrev pub side : Bool → Node → Branch
side false k = k.low
side true k = k.high

-- where the pin at place d, low or high, leads from a branch: a node of another place does not ask it
abbrev pub next : Table → ℕ → Bool → Branch → Branch
next T d v (end c) = end c
next T d v (node i) = cond ((T i).place == d) (side v (T i)) (node i)

-- the code of an end
abbrev pub code : Branch → ℕ
code (end c) = c
code (node i) = 0

-- the tree of a branch, unfolded place by place, when d pins are fixed and h are left
abbrev pub tree : Table → ℕ → ℕ → Branch → Tree
tree T zero d b = leaf (code b)
tree T (suc h) d b = fork (tree T h (suc d) (next T d false b)) (tree T h (suc d) (next T d true b))

-- reading an address from a branch, place by place, along the pins from place d on
abbrev pub walk : ℕ → Table → List ℕ → ℕ → Branch → ℕ → ℕ
walk n T [] d b a = code b
walk n T (p ∷ ps) d b a = walk n T ps (suc d) (next T d (pin n a p) b) a

-- the selection that a branch means in an order
abbrev pub meant : ℕ → Table → List ℕ → Branch → Selection
meant n T order b a = walk n T order 0 b a

-- the root of a line means the line's selection, and an empty line is one that holds nothing
abbrev pub Means : ℕ → Table → List ℕ → Option Branch → Option Selection → Type 0
Means n T order None None = Unit {0}
Means n T order None (Some f) = ⊥
Means n T order (Some b) None = ⊥
Means n T order (Some b) (Some f) = Agrees n (meant n T order b) f

-- address a ends at a code: a node sends it to its low or its high branch by the pin at its place in the order
pub data Ends (n : ℕ) (T : Table) (order : List ℕ) (a : ℕ) : Branch → ℕ → Type 0 where
  ended : {c : ℕ} → Ends n T order a (end c) c
  sent : {i c : ℕ} → Ends n T order a (side (pin n a (slice_index order (T i).place)) (T i)) c → Ends n T order a (node i) c

-- a node as a part: its place and its tree
abbrev pub key : ℕ → Table → ℕ → Part
key n T i = ((T i).place, tree T (n - (T i).place) (T i).place (node i))

-- a branch is an end, or a node of U whose place is d or later
abbrev pub From : (ℕ → Type 0) → Table → ℕ → Branch → Type 0
From U T d (end c) = Unit {0}
From U T d (node i) = U i × (d ≤ (T i).place)

-- the nodes of U are ordered in n pins: branches stay in U, and places rise along them
pub record Ordered (n : ℕ) (T : Table) (U : ℕ → Type 0) : Type 0 where
  pub within : (i : ℕ) → U i → (T i).place < n
  pub rising : (i : ℕ) → U i → (v : Bool) → From U T (suc (T i).place) (side v (T i))

-- the nodes of U are reduced: none has equal branches, and no two are alike
pub record Reduced (T : Table) (U : ℕ → Type 0) : Type 0 where
  pub tested : (i : ℕ) → U i → (T i).low ≢ (T i).high
  pub shared : (i k : ℕ) → U i → U k → T i ≡ T k → i ≡ k

-- where choices lead from a branch, one at each node
abbrev pub follow : Table → List Bool → Branch → Branch
follow T [] b = b
follow T (v ∷ vs) (end c) = end c
follow T (v ∷ vs) (node i) = follow T vs (side v (T i))

-- node i is reached from one of the roots
abbrev pub Reached : Table → List Branch → ℕ → Type 0
Reached T roots i = (b : Branch) × In b roots × ((vs : List Bool) × (follow T vs b ≡ node i))

-- us is the list of the nodes reached from the roots, each once
pub record Reaches (T : Table) (roots : List Branch) (us : List ℕ) : Type 0 where
  pub apart : Apart us
  pub reached : (i : ℕ) → In i us → Reached T roots i
  pub all : (i : ℕ) → Reached T roots i → In i us

-- A rival: an ordered diagram, of the nodes us of any table, entered at b, at whose codes the addresses end as f says.
pub record Rival (n : ℕ) (order : List ℕ) (f : Selection) (T : Table) (us : List ℕ) (b : Branch) : Type 0 where
  pub ordered : Ordered n T (λ i. In i us)
  pub entered : From (λ i. In i us) T 0 b
  pub selects : (a : ℕ) → a < 2 ^ n → Ends n T order a b (f a)

-- a rival of exactly as many nodes as f has parts, and so one that no rival has fewer nodes than
pub record LeastRival (n : ℕ) (order : List ℕ) (f : Selection) (T : Table) (us : List ℕ) (b : Branch) : Type 0 where
  pub rival : Rival n order f T us b
  pub exact : length us ≡ count n (view_of n order f)
  pub least : (T' : Table) (vs : List ℕ) (e : Branch) → Rival n order f T' vs e → length us ≤ length vs
