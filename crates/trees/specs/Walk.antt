-- A walk down the tree.
use Rattle.std.specs.Prelude.{◌≡◌, ℕ, ◌+◌, ◌*◌, ◌/◌, ◌%◌, ◌^◌, ◌<◌, Bool, cond, List, length, take, Some, None, Option, ◌==◌}
use Rattle.trees.specs.declared.tree.Half.{Half}
use Rattle.trees.specs.declared.tree.Record.{Record}
use Rattle.trees.specs.Mixed.{mixed_blocks}
use Rattle.trees.specs.Records.{half, records}

abbrev pub side : Record → Bool → Half
side r b = cond b r.high r.low

-- bit place of a number, from the lowest on
abbrev pub bit : (number place : ℕ) → Bool
bit x place = (x / 2 ^ place) % 2 == 1

-- the bit of value, if mask has it
abbrev pub fixed : (mask value place : ℕ) → Option Bool
fixed mask value place = cond (bit mask place) (Some (bit value place)) None

-- the one code of two, if they are the same
abbrev pub agreed : ℕ → ℕ → Option ℕ
agreed low high = cond (low == high) (Some low) None

-- in a table with the tree of c, of n pins, h stands for block p of level j, whose last k pins are open, and f are its codes
pub record Stands (n : ℕ) (c : ℕ → ℕ) (t : List Record) (j p k : ℕ) (h : Half) (f : ℕ → ℕ) : Type 0 where
  pub listed : take (length (mixed_blocks n c)) t ≡ records n c
  pub level : j + k ≡ n
  pub block : p < 2 ^ j
  pub half_is : h ≡ half n c j p
  pub codes_are : (i : ℕ) → i < 2 ^ k → f i ≡ c (p * 2 ^ k + i)
