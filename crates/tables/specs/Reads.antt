-- The place of a branch.
use Rattle.std.specs.Prelude.{ℕ}
use Rattle.model.specs.declared.Branch.{Branch}
use Rattle.model.specs.declared.Branch.TheVariants.{End as end, Node as node}
use Rattle.model.specs.Diagrams.{Table}

-- the place of a branch's node; an end stands past the n pins
abbrev pub place_of : Table → ℕ → Branch → ℕ
place_of T n (end c) = n
place_of T n (node i) = (T i).place
