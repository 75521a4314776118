-- What a layer over a source means: its selection, by the selection f below.
use Rattle.std.specs.Prelude.{ℕ, ◌-◌, ◌/◌, ◌%◌, ◌^◌, Bool, cond, not, ◌==◌, bit_xor}

-- every end is the other bit
abbrev pub inverted : (ℕ → Bool) → ℕ → Bool
inverted f a = not (f a)

-- address a has the end that a xor mask has below; of the mask, the n bits of the pins count
abbrev pub flipped : {E : Type 0} → (n mask : ℕ) → (ℕ → E) → ℕ → E
flipped n mask f a = f (bit_xor a (mask % 2 ^ n))

-- the top k bits of an address of n pins
abbrev pub top : (n k : ℕ) → ℕ → ℕ
top n k a = a / 2 ^ (n - k)

-- in n pins, addresses whose top n - m bits are b have the end below at their low m bits, and all others the fill end
abbrev pub mounted : {E : Type 0} → (n m b : ℕ) → E → (ℕ → E) → ℕ → E
mounted n m b fill f a = cond (top n (n - m) a == b) (f (a % 2 ^ m)) fill
