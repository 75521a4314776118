-- The layout of a listing: numbered nodes, and a reference for each line.
use Rattle.std.specs.Prelude.{ℕ, suc, Bool, cond, ◌&&◌, List, map, Option, ◌==◌, nat_eq}
use Rattle.model.specs.Lists.{spot, held, each}
use Rattle.model.specs.Trees.{Tree, leaf, fork, same, matters}
use Rattle.model.specs.Parts.{Part, parts}
use Rattle.model.specs.Diagrams.{Branch, end, node, Node, Table}
use Rattle.model.specs.Numberings.{numbering}

pub record Layout : Type 0 where
  pub nodes : List Node
  pub lines : List (Option Branch)

-- whether two parts are one
abbrev pub same_part : Part → Part → Bool
same_part k l = k.0 == l.0 && same k.1 l.1

-- the reference to what is left with d pins fixed: it passes over pins that do not matter, to a part or a code
abbrev pub refer : List Part → ℕ → Tree → Branch
refer ps d (leaf c) = end c
refer ps d (fork l r) = cond (matters (fork l r)) (node (spot same_part ps (d, fork l r))) (refer ps (suc d) l)

-- the node of a part
abbrev pub row : List Part → ℕ → Tree → Node
row ps d (leaf c) = record { place = d; low = end c; high = end c }
row ps d (fork l r) = record { place = d; low = refer ps (suc d) l; high = refer ps (suc d) r }

-- The layout for lines of trees of n pins: its nodes are their different parts, numbered as the list of parts is.
unfoldable pub layout : ℕ → List (Option Tree) → Layout
layout n lines = let ps = parts n 0 (held lines) in record { nodes = map (λ k. row ps k.0 k.1) ps; lines = map (each (refer ps 0)) lines }

-- a branch under new numbers
abbrev pub renumber : List ℕ → Branch → Branch
renumber is (end c) = end c
renumber is (node i) = node (spot nat_eq is i)

-- a node under new numbers
abbrev pub renumbered : List ℕ → Node → Node
renumbered is k = record { place = k.place; low = renumber is k.low; high = renumber is k.high }

-- the nodes of a table that are reached from the lines' roots, under the numbers of a listing
unfoldable pub listing : Table → ℕ → List (Option Branch) → Layout
listing T n lines = let is = numbering T n 0 (held lines) in record { nodes = map (λ i. renumbered is (T i)) is; lines = map (each (renumber is)) lines }
