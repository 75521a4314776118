-- The bytes of a listing.
use Rattle.std.specs.Prelude.{ℕ, ◌/◌, ◌%◌, List, [], ◌∷◌, ◌++◌, length, Some, None, Option}
use Rattle.model.specs.Lists.{flat}
use Rattle.model.specs.Diagrams.{Branch, end, node, Node}
use Rattle.model.specs.Layouts.{Layout}

-- a number in two bytes, the higher first
abbrev pub two_bytes : ℕ → List ℕ
two_bytes x = x / 256 ∷ (x % 256 ∷ [])

-- a reference: 0 and an end code, or 1 and a node number
abbrev pub reference : Branch → List ℕ
reference (end c) = 0 ∷ two_bytes c
reference (node i) = 1 ∷ two_bytes i

-- the reference of a line: an empty one has its own
abbrev pub line_reference : Option Branch → List ℕ
line_reference None = 0xFF ∷ (0 ∷ (0 ∷ []))
line_reference (Some b) = reference b

-- a node: its place in the order, then its low and its high reference
abbrev pub node_bytes : Node → List ℕ
node_bytes k = k.place ∷ (reference k.low ++ reference k.high)

-- the mark LST, version 1, the pins, the order, the used number, the nodes, and the lines
unfoldable pub bytes : List ℕ → Layout → List ℕ
bytes order l =
    0x4C ∷ (0x53 ∷ (0x54 ∷ (two_bytes 1 ++ (length order ∷ (order ++ (two_bytes (length l.nodes) ++ (flat node_bytes l.nodes ++ flat line_reference l.lines)))))))
