-- Full decision trees: the meaning of selections and of diagrams in an order.
use Rattle.std.specs.Prelude.{ℕ, zero, suc, ◌<◌, Bool, true, false, not, ◌&&◌, List, [], ◌∷◌, ◌==◌}

-- a leaf is a code; a fork has what is left when the next pin of the order is low, and when it is high
pub data Tree : Type 0 where
  leaf : ℕ → Tree
  fork : Tree → Tree → Tree

-- every path through the tree asks h pins
abbrev pub Full : ℕ → Tree → Type 0
Full zero (leaf c) = Unit {0}
Full zero (fork l r) = ⊥
Full (suc h) (leaf c) = ⊥
Full (suc h) (fork l r) = Full h l × Full h r

-- every code is below m
abbrev pub CodesBelow : ℕ → Tree → Type 0
CodesBelow m (leaf c) = c < m
CodesBelow m (fork l r) = CodesBelow m l × CodesBelow m r

-- whether two trees are the same
abbrev pub same : Tree → Tree → Bool
same (leaf a) (leaf b) = a == b
same (leaf a) (fork l r) = false
same (fork l r) (leaf b) = false
same (fork l r) (fork l' r') = same l l' && same r r'

-- whether the next pin matters: low and high leave different trees
abbrev pub matters : Tree → Bool
matters (leaf c) = false
matters (fork l r) = not (same l r)

-- what is left when the next pin is fixed
abbrev pub half : Bool → Tree → Tree
half v (leaf c) = leaf c
half false (fork l r) = l
half true (fork l r) = r

-- what is left when the first pins are fixed so, the first of them first
abbrev pub remains : List Bool → Tree → Tree
remains [] t = t
remains (v ∷ vs) t = remains vs (half v t)
