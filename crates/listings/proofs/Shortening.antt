-- Numbers in 16 bits.
use Rattle.std.proofs.Common.{◌≡◌, ℕ, ◌<◌, arith}
use Rattle.listings.specs.Labels.{short}

pub short_is : (i j : ℕ) → j ≡ short i → i < 65536 → j ≡ i
short_is i j e l = omega arith
