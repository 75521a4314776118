-- The table while the tree is built.
use Rattle.std.specs.Prelude.{◌≡◌, ℕ, ◌+◌, ◌*◌, ◌<◌, ◌≤◌, cond, List, [], ◌∷◌, ◌++◌, length, take, Some, None, Ok, Err, Result, slice_index_or, slice_set}
use Rattle.faults.specs.declared.fault.Fault.{Fault}
use Rattle.faults.specs.declared.fault.Ground.TheVariants.{TreeTable}
use Rattle.faults.specs.Refusals.{at}
use Rattle.trees.specs.declared.draft.Draft.{Draft}
use Rattle.trees.specs.declared.tree.Half.{Half}
use Rattle.trees.specs.declared.tree.Half.TheVariants.{Code, Split}
use Rattle.trees.specs.declared.tree.Record.{Record}
use Rattle.trees.specs.Mixed.{Block, mixed, block_code, mixed_blocks}
use Rattle.trees.specs.Records.{blank, divided, Refused}

-- the block alone, if it is mixed
unfoldable pub alone : ℕ → (ℕ → ℕ) → (j p : ℕ) → List Block
alone n c j p = cond (mixed n c j p) ((j, p) ∷ []) []

-- the mixed halves of a block, and of each block of a list
unfoldable pub halves : ℕ → (ℕ → ℕ) → Block → List Block
halves n c b = alone n c (b.0 + 1) (2 * b.1) ++ alone n c (b.0 + 1) (2 * b.1 + 1)

unfoldable pub flat : ℕ → (ℕ → ℕ) → List Block → List Block
flat n c [] = []
flat n c (b ∷ bs) = halves n c b ++ flat n c bs

-- the blocks that have a record once the first i are divided
unfoldable pub opened : ℕ → (ℕ → ℕ) → ℕ → List Block
opened n c i = alone n c 0 0 ++ flat n c (take i (mixed_blocks n c))

-- the record of a block that is not yet divided
abbrev pub fresh : (j p : ℕ) → Record
fresh j p = record { block = record { level = j; number = p }; low = Code 0; high = Code 0 }

-- a record with its halves
abbrev pub with_halves : Record → (low high : Half) → Record
with_halves r l h = record { block = r.block; low = l; high = h }

abbrev pub record_at : List Record → ℕ → Record
record_at t k = slice_index_or t k blank

abbrev pub block_at : ℕ → (ℕ → ℕ) → ℕ → Block
block_at n c k = slice_index_or (mixed_blocks n c) k (0, 0)

-- block p of level j has one code, and the table of len records stays as it is
pub record Whole (n : ℕ) (c : ℕ → ℕ) (j p : ℕ) (before : List Record) (len code : ℕ) (after : List Record) (m : ℕ) : Type 0 where
  pub one_code : block_code n c j p ≡ Some code
  pub same_len : m ≡ len
  pub same : after ≡ before

-- block p of level j is mixed, and the table of len records has got one for it
pub record Opened (n : ℕ) (c : ℕ → ℕ) (j p : ℕ) (before : List Record) (len i : ℕ) (after : List Record) (m : ℕ) : Type 0 where
  pub two_codes : block_code n c j p ≡ None
  pub index_is : i ≡ len
  pub more_len : m ≡ len + 1
  pub room : len < length before
  pub put : after ≡ slice_set before len (fresh j p)

-- what was done for block p of level j
abbrev pub Grown : (n : ℕ) (c : ℕ → ℕ) (j p : ℕ) (before : List Record) (len : ℕ) → Half → (after : List Record) (m : ℕ) → Type 0
Grown n c j p before len (Code e) after m = Whole n c j p before len e after m
Grown n c j p before len (Split i) after m = Opened n c j p before len i after m

-- block p of level j is mixed, and the table of len records has no room for it
pub record Full (n : ℕ) (c : ℕ → ℕ) (j p : ℕ) (table : List Record) (len : ℕ) (fault : Fault) : Type 0 where
  pub told : fault ≡ at TreeTable (length table)
  pub two_codes : block_code n c j p ≡ None
  pub no_room : length table ≤ len

-- the outcome for block p of level j
abbrev pub Grows : (n : ℕ) (c : ℕ → ℕ) (j p : ℕ) (before : List Record) (len : ℕ) (after : List Record) (m : ℕ) → Result Half Fault → Type 0
Grows n c j p before len after m (Ok h) = Grown n c j p before len h after m
Grows n c j p before len after m (Err fault) = Full n c j p before len fault

-- the draft has the same lent table, as long as before
abbrev pub Keeps : (before after : Draft) → Type 0
Keeps before after = (after.table.ghost_name ≡ before.table.ghost_name) × (length after.table.now ≡ length before.table.now)

-- a table of len records got one for block p of level j
pub record Put (j p : ℕ) (before : List Record) (len : ℕ) (h : Half) (after : List Record) (m : ℕ) : Type 0 where
  pub half_is : h ≡ Split len
  pub more_len : m ≡ len + 1
  pub room : len < length before
  pub put : after ≡ slice_set before len (fresh j p)

-- or has no room for it
abbrev pub Opens : (j p : ℕ) (before : List Record) (len : ℕ) (after : List Record) (m : ℕ) → Result Half Fault → Type 0
Opens j p before len after m (Ok h) = Put j p before len h after m
Opens j p before len after m (Err fault) = (fault ≡ at TreeTable (length before)) × (length before ≤ len) × (after ≡ before)

-- the table has the first len blocks, of which the first done have their halves
pub record Filed (n : ℕ) (c : ℕ → ℕ) (t : List Record) (done len : ℕ) : Type 0 where
  pub begun : done ≤ len
  pub level_is : (k : ℕ) → k < len → (record_at t k).block.level ≡ (block_at n c k).0
  pub block_is : (k : ℕ) → k < len → (record_at t k).block.number ≡ (block_at n c k).1
  pub whole : (k : ℕ) → k < done → record_at t k ≡ divided n c (block_at n c k)

-- and these are all the blocks that the first done open
pub record Drafted (n : ℕ) (c : ℕ → ℕ) (t : List Record) (done len : ℕ) : Type 0 where
  pub filed : Filed n c t done len
  pub counted : len ≡ length (opened n c done)

-- the records from len on are as they were
abbrev pub Untouched : List Record → List Record → ℕ → Type 0
Untouched before after len = (k : ℕ) → len ≤ k → record_at after k ≡ record_at before k

-- the records of a table were divided up to done, which took m records
pub record Advanced (n : ℕ) (c : ℕ → ℕ) (before : List Record) (len : ℕ) (after : List Record) (done m : ℕ) : Type 0 where
  pub drafted : Drafted n c after done m
  pub more : len ≤ m
  pub untouched : Untouched before after m

-- the outcome of dividing up to done
abbrev pub Advances : (n : ℕ) (c : ℕ → ℕ) (before : List Record) (len : ℕ) (after : List Record) (done m : ℕ) → Result (Unit {0}) Fault → Type 0
Advances n c before len after done m (Ok u) = Advanced n c before len after done m
Advances n c before len after done m (Err fault) = Refused n c before fault
