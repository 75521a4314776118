-- What a draw of a map file comes to: its layers one over the other, and the first that refuses.
use Rattle.std.specs.Prelude.{◌≡◌, ℕ, Bool, if◌then◌else◌, List, Some, None, Err, Option, Result}
use Rattle.ends.specs.Codes.{bit_code, setting_code}
use Rattle.faults.specs.declared.fault.Fault.{Fault}
use Rattle.faults.specs.Refusals.{or_else}
use Rattle.files.specs.declared.format.Format.TheVariants as format
use Rattle.files.specs.Formats.{pins_of}
use Rattle.files.specs.Verdict.{fault}
use Rattle.model.specs.declared.Node.{Node}
use Rattle.model.specs.Selections.{Selection}
use Rattle.plans.specs.declared.header.Header.{Header}
use Rattle.plans.specs.Holding.{Did}
use Rattle.plans.specs.Plain.{Call, draw}
use Rattle.readers.specs.Selections.{bit_at, chip_at, inside_at}
use Rattle.scripts.specs.declared.request.Layers.{Layers}
use Rattle.scripts.specs.declared.request.Map.{Map}
use Rattle.scripts.specs.declared.request.Map.TheVariants as map
use Rattle.scripts.specs.declared.request.Mount.{Mount}
use Rattle.sources.specs.Grounds.{flip_fault, mount_fault}
use Rattle.sources.specs.Layers.{inverted, flipped, mounted}
use Rattle.trees.specs.Mixed.{codes}

-- Pins flipped, over n pins with the selection f.

abbrev pub flip_told : Option ℕ → ℕ → Option Fault
flip_told None n = None
flip_told (Some mask) n = flip_fault n mask

abbrev pub flip_ends : {E : Type 0} → Option ℕ → ℕ → (ℕ → E) → ℕ → E
flip_ends None n f = f
flip_ends (Some mask) n f = flipped n mask f

-- A mount over the same.

abbrev pub mount_told : {E : Type 0} → Option (Mount E) → ℕ → Option Fault
mount_told None n = None
mount_told (Some m) n = mount_fault m.pins n m.base

abbrev pub mount_pins : {E : Type 0} → Option (Mount E) → ℕ → ℕ
mount_pins None n = n
mount_pins (Some m) n = m.pins

abbrev pub mount_ends : {E : Type 0} → Option (Mount E) → ℕ → (ℕ → E) → ℕ → E
mount_ends None n f = f
mount_ends (Some m) n f = mounted m.pins n m.base m.fill f

-- Both: first flipped, then mounted.

abbrev pub layers_told : {E : Type 0} → Layers E → ℕ → Option Fault
layers_told l n = or_else (flip_told l.flipped n) (mount_told l.mounted n)

abbrev pub layers_pins : {E : Type 0} → Layers E → ℕ → ℕ
layers_pins l n = mount_pins l.mounted n

abbrev pub layers_ends : {E : Type 0} → Layers E → ℕ → (ℕ → E) → ℕ → E
layers_ends l n f = mount_ends l.mounted n (flip_ends l.flipped n f)

abbrev pub inverted_if : Bool → (ℕ → Bool) → ℕ → Bool
inverted_if b f = if b then inverted f else f

-- The file in its format, inverted if asked, and the layers over it.

-- the first fault of the file, or the first layer that refuses
abbrev pub map_told : Map → List ℕ → Option Fault
map_told (map.Bits b l) bs = or_else (fault format.Bits bs) (layers_told l (pins_of format.Bits bs))
map_told (map.Settings l) bs = or_else (fault format.Settings bs) (layers_told l (pins_of format.Settings bs))
map_told (map.Ranges b l) bs = or_else (fault format.Ranges bs) (layers_told l (pins_of format.Ranges bs))

abbrev pub map_pins : Map → List ℕ → ℕ
map_pins (map.Bits b l) bs = layers_pins l (pins_of format.Bits bs)
map_pins (map.Settings l) bs = layers_pins l (pins_of format.Settings bs)
map_pins (map.Ranges b l) bs = layers_pins l (pins_of format.Ranges bs)

abbrev pub map_codes : Map → List ℕ → Selection
map_codes (map.Bits b l) bs = codes bit_code (layers_ends l (pins_of format.Bits bs) (inverted_if b (bit_at bs)))
map_codes (map.Settings l) bs = codes setting_code (layers_ends l (pins_of format.Settings bs) (chip_at bs))
map_codes (map.Ranges b l) bs = codes bit_code (layers_ends l (pins_of format.Ranges bs) (inverted_if b (inside_at bs)))

-- the plan's call
abbrev pub draw_call : (line : ℕ) → Map → List ℕ → (nodes records work : ℕ) → Call
draw_call d m bs k r w = draw d (map_pins m bs) (map_codes m bs) k r w

-- what is refused before the plan is called alters nothing
abbrev pub Drew : Option Fault → Header → List Node → Call → Result (Unit {0}) Fault → Header → List Node → Type 0
Drew None h nodes c r h' nodes' = Did h nodes c r h' nodes'
Drew (Some f) h nodes c r h' nodes' = (r ≡ Err f) × (h' ≡ h) × (nodes' ≡ nodes)
