-- The index of a node table: open addressing, where probes go round at the end. An entry is 0, or the number of a node and 1.
use Rattle.std.specs.Prelude.{◌≡◌, ℕ, zero, suc, ◌+◌, ◌-◌, ◌*◌, ◌%◌, ◌<◌, List, [], ◌∷◌, length, slice_index, slice_index_or}
use Rattle.model.specs.declared.Branch.{Branch}
use Rattle.model.specs.declared.Branch.TheVariants.{End as end, Node as node}
use Rattle.model.specs.declared.Node.{Node}
use Rattle.model.specs.Diagrams.{listed}

abbrev pub spread_branch : Branch → ℕ
spread_branch (end c) = 2 * c
spread_branch (node i) = 2 * i + 1

-- where the probes for a node begin
abbrev pub spread : Node → ℕ
spread k = k.place + 31 * spread_branch k.low + 977 * spread_branch k.high

-- the entry, of l, at which the probe e for a node looks
abbrev pub probe : ℕ → Node → ℕ → ℕ
probe l k e = (spread k + e) % l

abbrev pub nonzero : ℕ → ℕ
nonzero zero = 0
nonzero (suc x) = 1

-- how many entries are not 0
abbrev pub filled : List ℕ → ℕ
filled [] = 0
filled (x ∷ xs) = nonzero x + filled xs

-- in an index of l entries a probe for k meets the entry of node i, and no earlier one meets an empty entry
pub record Leads (l : ℕ) (index : List ℕ) (k : Node) (i : ℕ) : Type 0 where
  pub far : ℕ
  pub near : far < l
  pub entry : slice_index_or index (probe l k far) 0 ≡ i + 1
  pub passed : (e : ℕ) → e < far → 0 < slice_index index (probe l k e)

-- the index leads to each marked node and to no other, and has more entries than the table has nodes
pub record Indexed (nodes : List Node) (marks index : List ℕ) : Type 0 where
  pub room : length nodes < length index
  pub counted : filled index ≡ filled marks
  pub entries : (p : ℕ) → 0 < slice_index index p → 0 < slice_index marks (slice_index index p - 1)
  pub found : (i : ℕ) → 0 < slice_index marks i → Leads (length index) index (listed nodes i) i
