-- The map files of the examples, byte for byte.
use Rattle.std.specs.Prelude.{ℕ, List, [], ◌∷◌}

abbrev pub constant : List ℕ
constant = 0x53 ∷ 0x57 ∷ 0x4C ∷ 0 ∷ 1 ∷ 0 ∷ 1 ∷ 0 ∷ 0 ∷ 0 ∷ []

abbrev pub single : List ℕ
single = 0x53 ∷ 0x57 ∷ 0x4C ∷ 0 ∷ 1 ∷ 0 ∷ 1 ∷ 0 ∷ 0 ∷ 1 ∷ 0 ∷ 0 ∷ 1 ∷ []

abbrev pub alternating : List ℕ
alternating = 0x53 ∷ 0x57 ∷ 0x4C ∷ 0 ∷ 1 ∷ 0 ∷ 2 ∷ 0 ∷ 0 ∷ 3 ∷ 0 ∷ 0 ∷ 1 ∷ 0 ∷ 0 ∷ 2 ∷ 0 ∷ 0 ∷ 3 ∷ []

abbrev pub differing : List ℕ
differing = 0x53 ∷ 0x57 ∷ 0x4C ∷ 0 ∷ 1 ∷ 0 ∷ 2 ∷ 0 ∷ 0 ∷ 2 ∷ 0 ∷ 0 ∷ 1 ∷ 0 ∷ 0 ∷ 3 ∷ []

abbrev pub halved : List ℕ
halved = 0x53 ∷ 0x57 ∷ 0x4C ∷ 0 ∷ 1 ∷ 0 ∷ 2 ∷ 0 ∷ 0 ∷ 1 ∷ 0 ∷ 0 ∷ 2 ∷ []

abbrev pub four_pins : List ℕ
four_pins = 0x53 ∷ 0x57 ∷ 0x4C ∷ 0 ∷ 1 ∷ 0 ∷ 4 ∷ 0 ∷ 0 ∷ 1 ∷ 0 ∷ 0 ∷ 5 ∷ []

abbrev pub chip_settings : List ℕ
chip_settings = 0x53 ∷ 0x57 ∷ 0x4C ∷ 0 ∷ 1 ∷ 1 ∷ 2 ∷ 8 ∷ 0 ∷ 2 ∷ 0 ∷ 0 ∷ 1 ∷ 16 ∷ 0 ∷ 0 ∷ 2 ∷ 8 ∷ []
