-- A slice that was lent, filled from its front.
use Rattle.std.specs.Prelude.{◌≡◌, ℕ, List, length, take}
use Rattle.listings.specs.declared.row.Row.{Row}

-- the entries so far
abbrev pub filled : {T : Type 0} → Row T → List T
filled row = take row.len row.entries.now

-- how many there is room for
abbrev pub room : {T : Type 0} → Row T → ℕ
room row = length row.entries.now

-- a row stays in the same memory, with the same room
pub record KeepsLoan {T : Type 0} (row row' : Row T) : Type 0 where
  pub memory : row'.entries.ghost_name ≡ row.entries.ghost_name
  pub room : room row' ≡ room row
