-- Nodes and lines under the numbers of a table.
use Rattle.std.specs.Prelude.{ℕ, ◌%◌, List, ◌∷◌, ◌++◌, length, map, Option, slice_index}
use Rattle.model.specs.declared.Branch.{Branch}
use Rattle.model.specs.declared.Branch.TheVariants.{End as end, Node as node}
use Rattle.model.specs.declared.Node.{Node}
use Rattle.model.specs.Lists.{each}
use Rattle.model.specs.Diagrams.{Table}
use Rattle.model.specs.Layouts.{Layout}
use Rattle.model.specs.Listings.{two_bytes}

-- a number in 16 bits
abbrev pub short : ℕ → ℕ
short x = x % 65536

-- a branch under new numbers
abbrev pub relabel : List ℕ → Branch → Branch
relabel numbers (end c) = end c
relabel numbers (node i) = node (short (slice_index numbers i))

-- a node under new numbers
abbrev pub relabelled : List ℕ → Node → Node
relabelled numbers k = record { place = k.place; low = relabel numbers k.low; high = relabel numbers k.high }

-- the nodes of a list and some lines under new numbers
abbrev pub labelled : Table → List ℕ → List ℕ → List (Option Branch) → Layout
labelled T order numbers lines = record { nodes = map (λ i. relabelled numbers (T (short i))) order; lines = map (each (relabel numbers)) lines }

-- the bytes of a listing before its nodes: the mark LST, version 1, the pins, the order, and the used number
abbrev pub head : List ℕ → ℕ → List ℕ
head order used = 0x4C ∷ (0x53 ∷ (0x54 ∷ (two_bytes 1 ++ (length order ∷ (order ++ two_bytes used)))))
