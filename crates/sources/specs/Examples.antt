-- A settled example of a mounted source.
use Rattle.std.specs.Prelude.{◌≡◌, ℕ, Bool, true, false, List, [], ◌∷◌, nat_le}
use Rattle.sources.specs.Layers.{mounted}

-- the selection of one pin with a switch at 1: the ends 0 1
abbrev pub switch_at_1 : ℕ → Bool
switch_at_1 a = nat_le 1 a

-- the ends of 2 pins
abbrev pub four : {E : Type 0} → (ℕ → E) → List E
four f = f 0 ∷ f 1 ∷ f 2 ∷ f 3 ∷ []

-- mounted in 2 pins at base 1 with fill 0, it has the ends 0 0 0 1
abbrev pub MountSettles : Type 0
MountSettles = four (mounted 2 1 1 false switch_at_1) ≡ false ∷ false ∷ false ∷ true ∷ []
