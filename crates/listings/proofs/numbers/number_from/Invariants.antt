use Rattle.std.proofs.Common.{◌≡◌, ℕ, List, length}
use Rattle.listings.specs.Rows.{filled, room, KeepsLoan}
use Rattle.listings.specs.Numbers.{NumbersFrom}
use Rattle.listings.proofs.numbers.number_from.Given as goal

-- what is left to number at this place completes the whole
abbrev pub invariant-loop-place : goal.invariant-loop-place
invariant-loop-place l = record {
  loan : KeepsLoan l.fn.order l.order;
  numbers : room l.fn.ahead ≡ room l.fn.front → length l.fn.seen ≡ room l.fn.front
      → (room l.front ≡ room l.fn.front) × (room l.ahead ≡ room l.fn.front)
      × ((order : List ℕ) → NumbersFrom l.pins l.nodes l.place (filled l.front) (room l.fn.front) (room l.fn.order) (filled l.order) order
      → NumbersFrom l.pins l.nodes 0 (filled l.fn.front) (room l.fn.front) (room l.fn.order) (filled l.fn.order) order);
}
