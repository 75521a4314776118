-- The numbering of the nodes reached from roots.
use Rattle.std.specs.Prelude.{ℕ, zero, suc, Bool, true, false, cond, List, [], ◌∷◌, ◌++◌, ◌==◌, nat_eq}
use Rattle.model.specs.Lists.{once}
use Rattle.model.specs.Diagrams.{Branch, end, node, Table, next}

-- whether two branches are one
abbrev pub same_branch : Branch → Branch → Bool
same_branch (end a) (end b) = a == b
same_branch (end a) (node k) = false
same_branch (node i) (end b) = false
same_branch (node i) (node k) = i == k

-- the nodes of place d among the branches
abbrev pub asking : Table → ℕ → List Branch → List ℕ
asking T d [] = []
asking T d (end c ∷ bs) = asking T d bs
asking T d (node i ∷ bs) = cond ((T i).place == d) (i ∷ asking T d bs) (asking T d bs)

-- where the pin at place d leads from the branches: low, then high, of each
abbrev pub ahead : Table → ℕ → List Branch → List Branch
ahead T d [] = []
ahead T d (b ∷ bs) = next T d false b ∷ (next T d true b ∷ ahead T d bs)

-- the nodes reached from the branches, each once: by place, then branch by branch, then from low to high
abbrev pub numbering : Table → ℕ → ℕ → List Branch → List ℕ
numbering T zero d bs = []
numbering T (suc h) d bs = once nat_eq (asking T d bs) ++ numbering T h (suc d) (ahead T d bs)
