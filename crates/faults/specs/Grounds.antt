-- The grounds of refusal: their numbers and layers.
use Rattle.std.specs.Prelude.{ℕ, cond, nat_le}
use Rattle.faults.specs.declared.fault.Ground.{Ground}
use Rattle.faults.specs.declared.fault.Ground.TheVariants as ground
use Rattle.faults.specs.declared.fault.Layer.{Layer}
use Rattle.faults.specs.declared.fault.Layer.TheVariants as layer

abbrev pub number : Ground → ℕ
number ground.TooShort = 1
number ground.Mark = 2
number ground.Version = 3
number ground.Kind = 4
number ground.Pins = 5
number ground.Count = 6
number ground.Trailing = 7
number ground.AddressAbove = 8
number ground.AddressOrder = 9
number ground.NoCode = 10
number ground.SameEnd = 11
number ground.OrderLength = 12
number ground.OrderPin = 13
number ground.SourcePins = 14
number ground.NoLine = 15
number ground.StrapPin = 16
number ground.ReadAddress = 17
number ground.NodeTable = 18
number ground.Work = 19
number ground.SourceLayer = 20
number ground.LineEmpty = 21
number ground.LineTaken = 22
number ground.Undecoded = 23
number ground.TreeTable = 24
number ground.Parts = 25
number ground.Buffer = 26

-- 1 to 7 speak of a file's fields, 8 to 11 of its entries, the others of plans and layers
abbrev pub layer_of : Ground → Layer
layer_of g = cond (nat_le (number g) 7) layer.File (cond (nat_le (number g) 11) layer.Entry layer.Plan)
