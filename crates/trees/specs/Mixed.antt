-- The mixed blocks of a selection of codes.
use Rattle.std.specs.Prelude.{◌≡◌, ℕ, zero, suc, ◌+◌, ◌-◌, ◌*◌, ◌^◌, ◌<◌, Bool, false, cond, not, ◌||◌, ◌⊎◌, List, [], ◌∷◌, map, Some, None, filter, Option, ◌==◌}
use Rattle.std.specs.List.{range_with_len, flat_map, AllByRecursion}

-- the codes of a selection of ends
abbrev pub codes : {E : Type 0} → (E → ℕ) → (ℕ → E) → ℕ → ℕ
codes code f a = code (f a)

-- one of the k codes from address a on is not that of a
unfoldable pub differs : (ℕ → ℕ) → (a k : ℕ) → Bool
differs c a zero = false
differs c a (suc k) = not (c (a + k) == c a) || differs c a k

-- block p of level j, of n pins, has two codes
unfoldable pub mixed : ℕ → (ℕ → ℕ) → (j p : ℕ) → Bool
mixed n c j p = differs c (p * 2 ^ (n - j)) (2 ^ (n - j))

-- the one code of block p of level j, or nothing where it has two
unfoldable pub block_code : ℕ → (ℕ → ℕ) → (j p : ℕ) → Option ℕ
block_code n c j p = cond (mixed n c j p) None (Some (c (p * 2 ^ (n - j))))

-- a block: its level, and its number there
abbrev pub Block : Type 0
Block = ℕ × ℕ

abbrev pub mixed_block : ℕ → (ℕ → ℕ) → Block → Bool
mixed_block n c b = mixed n c b.0 b.1

-- the blocks of level j, one by one
unfoldable pub level : ℕ → List Block
level j = map (λ p. (j, p)) (range_with_len 0 (2 ^ j))

-- the blocks of the levels below n, level by level
unfoldable pub blocks : ℕ → List Block
blocks n = flat_map level (range_with_len 0 n)

-- those that are mixed
unfoldable pub mixed_blocks : ℕ → (ℕ → ℕ) → List Block
mixed_blocks n c = filter (mixed_block n c) (blocks n)

-- of a lower level, or before it on its level
abbrev pub Before : Block → Block → Type 0
Before a b = (a.0 < b.0) ⊎ ((a.0 ≡ b.0) × (a.1 < b.1))

-- each block stands before all that follow
abbrev pub Ordered : List Block → Type 0
Ordered [] = Unit {0}
Ordered (b ∷ bs) = AllByRecursion (Before b) bs × Ordered bs
