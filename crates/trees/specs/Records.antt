-- The contracted tree as a list of records, one for each mixed block.
use Rattle.std.specs.Prelude.{◌≡◌, ℕ, ◌+◌, ◌-◌, ◌*◌, ◌^◌, ◌<◌, ◌≤◌, Bool, cond, ◌&&◌, List, [], ◌∷◌, map, length, take, drop, Ok, Err, Result, ◌==◌}
use Rattle.faults.specs.declared.fault.Fault.{Fault}
use Rattle.faults.specs.declared.fault.Ground.TheVariants.{TreeTable}
use Rattle.faults.specs.Refusals.{at}
use Rattle.sources.specs.Blocks.{whole}
use Rattle.trees.specs.declared.tree.Half.{Half}
use Rattle.trees.specs.declared.tree.Half.TheVariants.{Code, Split}
use Rattle.trees.specs.declared.tree.Record.{Record}
use Rattle.trees.specs.declared.tree.Tree.{Tree}
use Rattle.trees.specs.Mixed.{Block, mixed, mixed_blocks}

-- the record of all zeros
abbrev pub blank : Record
blank = record { block = whole; low = Code 0; high = Code 0 }

abbrev pub same_block : Block → Block → Bool
same_block a b = a.0 == b.0 && a.1 == b.1

-- how many blocks of the list stand before b
unfoldable pub place : Block → List Block → ℕ
place b [] = 0
place b (x ∷ xs) = cond (same_block b x) 0 (place b xs + 1)

-- what stands for block p of level j: its one code, or the place of its record
unfoldable pub half : ℕ → (ℕ → ℕ) → (j p : ℕ) → Half
half n c j p = cond (mixed n c j p) (Split (place (j, p) (mixed_blocks n c))) (Code (c (p * 2 ^ (n - j))))

-- a block with its two halves
unfoldable pub divided : ℕ → (ℕ → ℕ) → Block → Record
divided n c b = record {
  block = record { level = b.0; number = b.1 };
  low = half n c (b.0 + 1) (2 * b.1);
  high = half n c (b.0 + 1) (2 * b.1 + 1);
}

-- the records of the tree of c, of n pins
unfoldable pub records : ℕ → (ℕ → ℕ) → List Record
records n c = map (divided n c) (mixed_blocks n c)

-- the table begins with the records of the tree of c, of n pins
pub record Built (n : ℕ) (c : ℕ → ℕ) (table : List Record) (tree : Tree) : Type 0 where
  pub few : n ≤ 20
  pub pins : tree.pins ≡ n
  pub root : tree.root ≡ half n c 0 0
  pub len : tree.len ≡ length (mixed_blocks n c)
  pub listed : take tree.len table ≡ records n c

-- the tree was written over the first records of the table, and no further
pub record Written (n : ℕ) (c : ℕ → ℕ) (before after : List Record) (tree : Tree) : Type 0 where
  pub room : length (mixed_blocks n c) ≤ length before
  pub built : Built n c after tree
  pub past : drop tree.len after ≡ drop tree.len before

-- the tree has more records than the table
pub record Refused (n : ℕ) (c : ℕ → ℕ) (table : List Record) (fault : Fault) : Type 0 where
  pub told : fault ≡ at TreeTable (length table)
  pub over : length table < length (mixed_blocks n c)

-- the outcome of a build
abbrev pub Builds : (n : ℕ) (c : ℕ → ℕ) (before after : List Record) → Result Tree Fault → Type 0
Builds n c before after (Ok tree) = Written n c before after tree
Builds n c before after (Err fault) = Refused n c before fault
