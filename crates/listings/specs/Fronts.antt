-- The front of nodes that lines lead to when the first pins are fixed, each node once.
use Rattle.std.specs.Prelude.{◌≡◌, ℕ, ◌+◌, ◌<◌, ◌≤◌, Bool, true, false, ◌↔◌, List, [], ◌∷◌, ◌++◌, length, Option, ◌==◌, nat_eq, slice_index}
use Rattle.model.specs.declared.Branch.{Branch}
use Rattle.model.specs.declared.Branch.TheVariants.{End as end, Node as node}
use Rattle.model.specs.Lists.{In, Apart, keep, once, flat, held}
use Rattle.model.specs.Diagrams.{Table, next}

-- the nodes among some branches, in their order
abbrev pub nodes_of : List Branch → List ℕ
nodes_of [] = []
nodes_of (end c ∷ bs) = nodes_of bs
nodes_of (node i ∷ bs) = i ∷ nodes_of bs

-- the nodes to which a node leads when the pin at place d is low, and when it is high
abbrev pub leads : Table → ℕ → ℕ → List ℕ
leads T d i = nodes_of (next T d false (node i) ∷ (next T d true (node i) ∷ []))

-- whether a node asks the pin at place d
abbrev pub asks : Table → ℕ → ℕ → Bool
asks T d i = (T i).place == d

-- a branch that is an end or one of the first nodes of a table
abbrev pub Small : ℕ → Branch → Type 0
Small size (end c) = Unit {0}
Small size (node i) = i < size

-- the nodes so far in a row are a front: nodes of a table of that size, each once, and just these are marked as seen
pub record Front (size : ℕ) (is seen : List ℕ) : Type 0 where
  pub wide : length seen ≡ size
  pub apart : Apart is
  pub marked : (i : ℕ) → In i is ↔ (0 < slice_index seen i)

-- a front that is grown by some nodes: those that are not there yet follow, each once
pub record Grown (size : ℕ) (before more is seen : List ℕ) : Type 0 where
  pub front : Front size is seen
  pub holds : is ≡ once nat_eq (before ++ more)

-- Meeting, in a row with room for as many nodes as the table has.

-- one more branch
abbrev pub Meets : ℕ → List ℕ → List ℕ → Branch → List ℕ → List ℕ → Type 0
Meets size is seen b is' seen' = Front size is seen → Small size b → Grown size is (nodes_of (b ∷ [])) is' seen'

-- where a node leads
abbrev pub MeetsBoth : Table → ℕ → ℕ → ℕ → List ℕ → List ℕ → List ℕ → List ℕ → Type 0
MeetsBoth T d i size is seen is' seen' = Front size is seen → ((v : Bool) → Small size (next T d v (node i))) → Grown size is (leads T d i) is' seen'

-- the roots of lines
abbrev pub MeetsLines : List (Option Branch) → ℕ → List ℕ → List ℕ → Type 0
MeetsLines lines size is seen = length seen ≡ size → ((b : Branch) → In b (held lines) → Small size b) → Grown size [] (nodes_of (held lines)) is seen

-- every node of a front leads to nodes of a table of that size
abbrev pub LeadsInside : ℕ → Table → ℕ → List ℕ → Type 0
LeadsInside size T d is = (i : ℕ) → In i is → (v : Bool) → Small size (next T d v (node i))

-- numbers of nodes have 16 bits
abbrev pub AllShort : List ℕ → Type 0
AllShort is = (i : ℕ) → In i is → i < 65536

-- the front after the next pin
abbrev pub Advances : Table → ℕ → List ℕ → ℕ → List ℕ → List ℕ → Type 0
Advances T d is size is' seen = length seen ≡ size → AllShort is → LeadsInside size T d is → Grown size [] (flat (leads T d) is) is' seen

-- the nodes of a front that ask the pin at place d are put behind those that have numbers, where there is room
abbrev pub PicksAll : Table → ℕ → List ℕ → ℕ → List ℕ → List ℕ → Type 0
PicksAll T d is room order order' = AllShort is → length order + length (keep (asks T d) is) ≤ room → order' ≡ order ++ keep (asks T d) is

-- the same of one node
abbrev pub Picks : Table → ℕ → ℕ → ℕ → List ℕ → List ℕ → Type 0
Picks T d i room order order' = PicksAll T d (i ∷ []) room order order'
