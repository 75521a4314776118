-- Blocks of addresses, and what an answer says of one.
use Rattle.std.specs.Prelude.{◌≡◌, ℕ, ◌+◌, ◌-◌, ◌*◌, ◌^◌, ◌<◌, ◌≤◌}
use Rattle.sources.specs.declared.block.Block.{Block}
use Rattle.sources.specs.declared.source.Answer.{Answer}
use Rattle.sources.specs.declared.source.Answer.TheVariants.{All, Mixed, Outside}

-- address i of block p of level j, of n pins: its top j bits are p
abbrev pub at : (n j p i : ℕ) → ℕ
at n j p i = p * 2 ^ (n - j) + i

-- there is such a block
pub record Inside (n j p : ℕ) : Type 0 where
  pub level : j ≤ n
  pub block : p < 2 ^ j

-- the block of all addresses
abbrev pub whole : Block
whole = record { level = 0; number = 0 }

-- each address of the block has the end e
pub record Uniform {E : Type 0} (n : ℕ) (f : ℕ → E) (j p : ℕ) (e : E) : Type 0 where
  pub inside : Inside n j p
  pub same : (i : ℕ) → i < 2 ^ (n - j) → f (at n j p i) ≡ e

-- two addresses of the block differ
pub record Differing {E : Type 0} (n : ℕ) (f : ℕ → E) (j p : ℕ) : Type 0 where
  pub inside : Inside n j p
  pub left : ℕ
  pub right : ℕ
  pub left_in : left < 2 ^ (n - j)
  pub right_in : right < 2 ^ (n - j)
  pub differ : f (at n j p left) ≡ f (at n j p right) → ⊥

-- the answer is true of the block; just one answer is
abbrev pub Says : {E : Type 0} → (n : ℕ) → (ℕ → E) → (j p : ℕ) → Answer E → Type 0
Says n f j p (All e) = Uniform n f j p e
Says n f j p Mixed = Differing n f j p
Says n f j p Outside = Inside n j p → ⊥
