-- Laws of the contracted tree, and settled examples.
use Rattle.std.specs.Prelude.{◌≡◌, ℕ, ◌+◌, ◌-◌, ◌*◌, ◌^◌, ◌<◌, ◌≤◌, cond, List, [], ◌∷◌, map, length, Option, ◌≢◌, nat_le}
use Rattle.sources.specs.Blocks.{Uniform, Differing}
use Rattle.trees.specs.declared.tree.Half.{Half}
use Rattle.trees.specs.declared.tree.Half.TheVariants.{Code, Split}
use Rattle.trees.specs.declared.tree.Record.{Record}
use Rattle.model.specs.Lists.{In}
use Rattle.trees.specs.Mixed.{Block, mixed_blocks, Ordered}
use Rattle.trees.specs.Records.{half, records}
use Rattle.trees.specs.Growth.{record_at}
use Rattle.trees.specs.Left.{Left}

-- a block is listed exactly where two of its addresses differ, in strict order of level, then block
pub record ListsMixed : Type 0 where
  pub sound : (n : ℕ) (c : ℕ → ℕ) (j p : ℕ) → In (j, p) (mixed_blocks n c) → Differing n c j p
  pub complete : (n : ℕ) (c : ℕ → ℕ) (j p : ℕ) → Differing n c j p → In (j, p) (mixed_blocks n c)
  pub in_order : (n : ℕ) (c : ℕ → ℕ) → Ordered (mixed_blocks n c)

-- record i is that of block p of level j
pub record Recorded (rs : List Record) (j p i : ℕ) : Type 0 where
  pub index : i < length rs
  pub level : (record_at rs i).block.level ≡ j
  pub block : (record_at rs i).block.number ≡ p

-- each address of block p of level j has the code, or the record is the block's
abbrev pub Means : (n : ℕ) → (ℕ → ℕ) → List Record → (j p : ℕ) → Half → Type 0
Means n c rs j p (Code e) = Uniform n c j p e
Means n c rs j p (Split i) = Recorded rs j p i

-- the record's block is mixed, and its halves mean the block's halves
pub record Divides (n : ℕ) (c : ℕ → ℕ) (rs : List Record) (r : Record) : Type 0 where
  pub two : Differing n c r.block.level r.block.number
  pub low : Means n c rs (r.block.level + 1) (2 * r.block.number) r.low
  pub high : Means n c rs (r.block.level + 1) (2 * r.block.number + 1) r.high

abbrev pub block_of : Record → Block
block_of r = (r.block.level, r.block.number)

-- the records are the mixed blocks, each divided, below a root that means block 0 of level 0
pub record DividesAll : Type 0 where
  pub keys : (n : ℕ) (c : ℕ → ℕ) → map block_of (records n c) ≡ mixed_blocks n c
  pub each : (n : ℕ) (c : ℕ → ℕ) (i : ℕ) → i < length (records n c) → Divides n c (records n c) (record_at (records n c) i)
  pub root : (n : ℕ) (c : ℕ → ℕ) → Means n c (records n c) 0 0 (half n c 0 0)

-- each address with another code than the one before it is listed
abbrev pub ChangesIn : ℕ → (ℕ → ℕ) → List ℕ → Type 0
ChangesIn n c switches = (a : ℕ) → 0 < a → a < 2 ^ n → (c (a - 1) ≢ c a) → In a switches

-- a map of k switches has at most n × k records
abbrev pub FewRecords : Type 0
FewRecords = (n : ℕ) (c : ℕ → ℕ) (switches : List ℕ) → ChangesIn n c switches → length (records n c) ≤ n * length switches

-- just one answer is true
abbrev pub OneAnswer : Type 0
OneAnswer = (n : ℕ) (c : ℕ → ℕ) (mask value : ℕ) (r s : Option ℕ) → Left n c mask value r → Left n c mask value s → r ≡ s

-- the code of the last switch at or below an address, or the first code; a switch is an address with its code
abbrev pub switched : ℕ → List (ℕ × ℕ) → ℕ → ℕ
switched first [] a = first
switched first (s ∷ rest) a = cond (nat_le s.0 a) (switched s.1 rest a) first

abbrev pub count : ℕ → ℕ → List (ℕ × ℕ) → ℕ
count n first switches = length (records n (switched first switches))

pub record SettledTrees : Type 0 where
  pub pin_constant : count 1 0 [] ≡ 0
  pub pin_1 : count 1 0 ((1, 1) ∷ []) ≡ 1
  pub pins_1_2_3 : count 2 0 ((1, 1) ∷ (2, 0) ∷ (3, 1) ∷ []) ≡ 3
  pub pins_1_3 : count 2 0 ((1, 1) ∷ (3, 0) ∷ []) ≡ 3
  pub pins_5 : count 4 0 ((5, 1) ∷ []) ≡ 4
  pub settings_1_2 : count 2 8 ((1, 16) ∷ (2, 8) ∷ []) ≡ 2
  pub settings_records : records 2 (switched 8 ((1, 16) ∷ (2, 8) ∷ [])) ≡ record { block = record { level = 0; number = 0 }; low = Split 1; high = Code 8 } ∷ record { block = record { level = 1; number = 0 }; low = Code 8; high = Code 16 } ∷ []
