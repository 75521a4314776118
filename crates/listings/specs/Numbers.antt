-- The nodes that lines reach, by their numbers in a listing, and the number of each node.
use Rattle.std.specs.Prelude.{◌≡◌, ℕ, ◌+◌, ◌-◌, ◌*◌, ◌<◌, ◌≤◌, List, ◌++◌, map, length, Option, nat_eq, slice_index}
use Rattle.model.specs.declared.Branch.{Branch}
use Rattle.model.specs.declared.Branch.TheVariants.{Node as node}
use Rattle.model.specs.declared.Node.{Node}
use Rattle.model.specs.Lists.{In, Apart, spot, held}
use Rattle.model.specs.Diagrams.{listed, From}
use Rattle.model.specs.Numberings.{numbering}
use Rattle.tables.specs.Markings.{Diagram}

-- a front at place d in a reduced diagram of a table
pub record Ready (n : ℕ) (nodes : List Node) (us : List ℕ) (d : ℕ) (is : List ℕ) : Type 0 where
  pub diagram : Diagram n nodes us
  pub few : length nodes ≤ 4096
  pub apart : Apart is
  pub from : (i : ℕ) → In i is → From (λ j. In j us) (listed nodes) d (node i)

-- numbering what is reached from a front, behind those nodes that have numbers, where there is room
abbrev pub NumbersFrom : ℕ → List Node → ℕ → List ℕ → ℕ → ℕ → List ℕ → List ℕ → Type 0
NumbersFrom n nodes d is rows room order order' =
    (us : List ℕ) → Ready n nodes us d is → rows ≡ length nodes → length order + length (numbering (listed nodes) (n - d) d (map node is)) ≤ room
    → order' ≡ order ++ numbering (listed nodes) (n - d) d (map node is)

-- the number of each node of a list is its index there
abbrev pub Inverse : List ℕ → List ℕ → Type 0
Inverse order numbers = (i : ℕ) → In i order → slice_index numbers i ≡ spot nat_eq order i

-- what turning a list of nodes round comes to
abbrev pub Inverts : List ℕ → List ℕ → List ℕ → Type 0
Inverts order numbers numbers' = Apart order → ((i : ℕ) → In i order → i < length numbers) → Inverse order numbers'

-- the nodes in the order of a listing, and their numbers
pub record Numbered (n : ℕ) (nodes : List Node) (roots : List Branch) (order numbers : List ℕ) : Type 0 where
  pub nodes_by_number : order ≡ numbering (listed nodes) n 0 roots
  pub number_of_nodes : Inverse order numbers
  pub few : length order ≤ 4096
  pub apart : Apart order

-- what numbering comes to, where the roots stand in some reduced diagram of the table
abbrev pub Numbers : ℕ → List Node → List ℕ → List (Option Branch) → List ℕ → List ℕ → Type 0
Numbers n nodes work lines order numbers =
    (us : List ℕ) → Diagram n nodes us → ((b : Branch) → In b (held lines) → From (λ i. In i us) (listed nodes) 0 b)
    → length nodes ≤ 4096 → 4 * length nodes ≤ length work → Numbered n nodes (held lines) order numbers
