use Rattle.std.proofs.Common.{◌≡◌, ℕ, ◌<◌, length, drop}
use Rattle.model.specs.Lists.{In}
use Rattle.model.specs.Diagrams.{listed, walk}
use Rattle.tables.proofs.reading.read.Given as goal

abbrev pub invariant-loop-place : goal.invariant-loop-place
invariant-loop-place l =
    ((p : ℕ) → In p l.order → p < length l.order)
    → walk (length l.order) (listed l.nodes) (drop l.place l.order) l.place l.branch l.address
    ≡ walk (length l.order) (listed l.nodes) l.order 0 l.initial.branch l.address
