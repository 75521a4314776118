-- Looking up a node in the index, looking for a free slot, and entering nodes.
use Rattle.std.specs.Prelude.{◌≡◌, ℕ, ◌+◌, ◌-◌, ◌<◌, ◌≤◌, List, length, Some, None, Option, ◌≢◌, slice_index, slice_index_or, slice_set}
use Rattle.model.specs.declared.Node.{Node}
use Rattle.model.specs.Diagrams.{listed, Ordered, Reduced}
use Rattle.tables.specs.declared.indexing.Found.{Found}
use Rattle.tables.specs.declared.indexing.Found.TheVariants.{At, Vacant, Full}
use Rattle.tables.specs.Indexes.{probe}
use Rattle.tables.specs.States.{Live, State}

-- the first c probes for k meet entries, and none of k itself
abbrev pub Missed : List Node → List ℕ → Node → ℕ → Type 0
Missed nodes index k c =
    (e : ℕ) → e < c
    → (0 < slice_index index (probe (length index) k e))
    × (slice_index index (probe (length index) k e) - 1 < length nodes → listed nodes (slice_index index (probe (length index) k e) - 1) ≢ k)

-- an empty entry, and a probe for k that is the first to meet one
pub record Vacancy (nodes : List Node) (index : List ℕ) (k : Node) (p : ℕ) : Type 0 where
  pub inside : p < length index
  pub empty : slice_index_or index p 0 ≡ 0
  pub far : ℕ
  pub near : far < length index
  pub here : p ≡ probe (length index) k far
  pub missed : Missed nodes index k far

-- what looking up a node comes to
abbrev pub Probed : List Node → List ℕ → Node → Found → Type 0
Probed nodes index k (At i) = (i < length nodes) × (listed nodes i ≡ k) × ((p : ℕ) × (slice_index index p ≡ i + 1))
Probed nodes index k (Vacant p) = Vacancy nodes index k p
Probed nodes index k Full = Missed nodes index k (length index)

-- a slot that is not live, or none where every slot is
abbrev pub Freed : List ℕ → Option ℕ → Type 0
Freed marks (Some i) = (i < length marks) × (slice_index marks i ≡ 0)
Freed marks None = (i : ℕ) → i < length marks → Live marks i

-- the index with an entry for slot s where a look-up found room
abbrev pub entered_at : Found → List ℕ → ℕ → List ℕ
entered_at (At i) index s = index
entered_at (Vacant p) index s = slice_set index p (s + 1)
entered_at Full index s = index

-- entering the node of slot s
pub record Enters (nodes : List Node) (index : List ℕ) (s : ℕ) (index' : List ℕ) : Type 0 where
  pub found : Found
  pub probed : Probed nodes index (listed nodes s) found
  pub entered : index' ≡ entered_at found index s

-- an index that is made anew over the live nodes
abbrev pub Indexes : List Node → List ℕ → List ℕ → Type 0
Indexes nodes marks index =
    (n : ℕ) → length marks ≡ length nodes → length nodes ≤ 4096 → length nodes < length index
    → Ordered n (listed nodes) (Live marks) → Reduced (listed nodes) (Live marks) → State n nodes marks index
