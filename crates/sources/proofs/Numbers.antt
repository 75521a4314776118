-- Powers of two as blocks and masks have them.
use Rattle.std.proofs.Common.{◌≡◌, ℕ, ◌+◌, ◌*◌, ◌/◌, ◌%◌, ◌^◌, ◌<◌, ◌≤◌, sym, ap, ◌∙◌, arith, pow_pos, pow_mono, shr-shr}
use lib.Pow.{high, low, mod-pow-add}
use Rattle.std.proofs.lemmas.Nat.{div_below}

-- a number of 32 bits is below each larger power
pub small : (j p : ℕ) → 32 ≤ j → p < 2 ^ 32 → p < 2 ^ j
small j p h k = let z : 2 ^ 32 ≤ 2 ^ j = pow_mono h in omega arith

pub none_left : (p d : ℕ) → p < 2 ^ d → p / 2 ^ d ≡ 0
none_left p d h = let z : p / 2 ^ d < 1 = div_below p (2 ^ d) 1 (pow_pos d) (omega arith) in omega arith

-- address i of block p, of 2 ^ k addresses, by blocks that are 2 ^ d times as large: which one, and what is left
pub block_of : (k d p i : ℕ) → i < 2 ^ k → (p * 2 ^ k + i) / 2 ^ (k + d) ≡ p / 2 ^ d
block_of k d p i h = sym (shr-shr (p * 2 ^ k + i) k d) ∙ ap (λ x. x / 2 ^ d) (high p k h)

pub rest_of : (k d p i : ℕ) → i < 2 ^ k → (p * 2 ^ k + i) % 2 ^ (d + k) ≡ p % 2 ^ d * 2 ^ k + i
rest_of k d p i h =
    mod-pow-add (p * 2 ^ k + i) d k ∙ ap (λ x. x % 2 ^ d * 2 ^ k + (p * 2 ^ k + i) % 2 ^ k) (high p k h) ∙ ap (λ x. p % 2 ^ d * 2 ^ k + x) (low p k h)
