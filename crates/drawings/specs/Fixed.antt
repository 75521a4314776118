-- Pins fixed by two numbers: those whose bit in the mask is set, to their bits in the value.
use Rattle.std.specs.Prelude.{◌≡◌, ℕ, suc, ◌-◌, ◌^◌, ◌<◌, true, false, List}
use Rattle.model.specs.Lists.{In}
use Rattle.model.specs.Selections.{Setting, pin}

-- the bit of pin p in an address of n pins
abbrev pub bit_of : (n p : ℕ) → ℕ
bit_of n p = 2 ^ (n - suc p)

-- all pins but the pins ps, which are left, are fixed and stand in the value as in the setting; those that are left are low in the value
pub record Fixed (n mask value : ℕ) (ps : List ℕ) (s : Setting) : Type 0 where
  pub gone : (p : ℕ) → p < n → pin n mask p ≡ true → In p ps → ⊥
  pub left : (p : ℕ) → p < n → pin n mask p ≡ false → In p ps
  pub stands : (p : ℕ) → p < n → pin n mask p ≡ true → s p ≡ pin n value p
  pub clear : (p : ℕ) → p < n → In p ps → pin n value p ≡ false
