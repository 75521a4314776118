-- Joining two selections and strapping a pin, on selections and on their trees.
use Rattle.std.specs.Prelude.{ℕ, zero, suc, Bool, cond}
use Rattle.model.specs.Trees.{Tree, leaf, fork}
use Rattle.model.specs.Selections.{Selection, put, address, pin}

-- Join: at every address the code that g gives of the two codes.
abbrev pub joined : (ℕ → ℕ → ℕ) → Selection → Selection → Selection
joined g f h a = g (f a) (h a)

-- Strap: the selection with pin p set low or high.
abbrev pub strapped : ℕ → ℕ → Bool → Selection → Selection
strapped n p v f a = f (address n (put (pin n a) p v))

-- the join of two full trees of one height
abbrev pub join : (ℕ → ℕ → ℕ) → Tree → Tree → Tree
join g (leaf a) (leaf b) = leaf (g a b)
join g (leaf a) (fork l r) = leaf a
join g (fork l r) (leaf b) = leaf b
join g (fork l r) (fork l' r') = fork (join g l l') (join g r r')

-- a tree with the pin at place j set low or high
abbrev pub strap : ℕ → Bool → Tree → Tree
strap j v (leaf c) = leaf c
strap zero v (fork l r) = fork (cond v r l) (cond v r l)
strap (suc j) v (fork l r) = fork (strap j v l) (strap j v r)
