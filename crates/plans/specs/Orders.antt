-- Whether a list of numbers is an order of pins, as a test.
use Rattle.std.specs.Prelude.{◌≡◌, ℕ, zero, suc, Bool, false, ◌||◌, ◌↔◌, List, length, None, Option, ◌==◌, nat_le, slice_index}
use Rattle.faults.specs.declared.fault.Fault.{Fault}
use Rattle.faults.specs.declared.fault.Ground.TheVariants.{OrderPin}
use Rattle.faults.specs.Refusals.{at, refuse_if, or_else}
use Rattle.model.specs.Orders.{Order}

-- a pin stands at one of the first k positions
abbrev pub among : List ℕ → ℕ → ℕ → Bool
among order p zero = false
among order p (suc k) = among order p k || slice_index order k == p

-- the pin at position i is too large, or stands before it too
abbrev pub misplaced : List ℕ → ℕ → Bool
misplaced order i = nat_le (length order) (slice_index order i) || among order (slice_index order i) i

-- the first such position below k
abbrev pub misplaced_below : List ℕ → ℕ → Option Fault
misplaced_below order zero = None
misplaced_below order (suc k) = or_else (misplaced_below order k) (refuse_if (misplaced order k) (at OrderPin k) None)

-- no position is misplaced exactly when the order names each of its pins once
abbrev pub OrdersTold : Type 0
OrdersTold = (order : List ℕ) → (misplaced_below order (length order) ≡ None) ↔ Order (length order) order
