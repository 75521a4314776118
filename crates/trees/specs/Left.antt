-- What is left of a selection of codes once some of its pins are fixed.
use Rattle.std.specs.Prelude.{◌≡◌, ℕ, ◌^◌, ◌<◌, true, Some, None, Option}
use Rattle.model.specs.Selections.{pin}

-- address a has the pins in mask as value has them
abbrev pub Agrees : (n mask value a : ℕ) → Type 0
Agrees n mask value a = (p : ℕ) → p < n → pin n mask p ≡ true → pin n a p ≡ pin n value p

-- each agreeing address has the code e
abbrev pub OneLeft : ℕ → (ℕ → ℕ) → (mask value e : ℕ) → Type 0
OneLeft n c mask value e = (a : ℕ) → a < 2 ^ n → Agrees n mask value a → c a ≡ e

-- two agreeing addresses have different codes
pub record TwoLeft (n : ℕ) (c : ℕ → ℕ) (mask value : ℕ) : Type 0 where
  pub one : ℕ
  pub other : ℕ
  pub one_in : one < 2 ^ n
  pub other_in : other < 2 ^ n
  pub one_agrees : Agrees n mask value one
  pub other_agrees : Agrees n mask value other
  pub differ : c one ≡ c other → ⊥

-- the answer is true: the one code that is left, or none where two are
abbrev pub Left : ℕ → (ℕ → ℕ) → (mask value : ℕ) → Option ℕ → Type 0
Left n c mask value (Some e) = OneLeft n c mask value e
Left n c mask value None = TwoLeft n c mask value
