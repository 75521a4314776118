-- Lamps as ends, and a selection of them.
use Rattle.std.specs.Prelude.{ℕ, cond, Some, None, Option, ◌==◌}
use Rattle.row_tests.specs.declared.lamp.Lamp.{Lamp}
use Rattle.row_tests.specs.declared.lamp.Lamp.TheVariants.{Off, Dim, Bright}

abbrev pub lamp_code : Lamp → ℕ
lamp_code Off = 0
lamp_code Dim = 1
lamp_code Bright = 2

abbrev pub lamp_of : ℕ → Option Lamp
lamp_of n = cond (n == 0) (Some Off) (cond (n == 1) (Some Dim) (cond (n == 2) (Some Bright) None))

abbrev pub brighter : Lamp → Lamp → Lamp
brighter Off y = y
brighter Dim Off = Dim
brighter Dim Dim = Dim
brighter Dim Bright = Bright
brighter Bright y = Bright

-- off, off, dim, bright
abbrev pub dawn : ℕ → Lamp
dawn a = cond (a == 2) Dim (cond (a == 3) Bright Off)
