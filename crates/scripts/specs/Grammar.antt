-- The calls of a script, word by word. A line of no words asks for nothing; else its first word names the call, and the
-- words behind it are read from left to right. Of several mistakes the first is told; what the words of a draw mean
-- together (`map_of`) is judged when all of them were read.
use Rattle.std.specs.Prelude.{ℕ, ◌-◌, ◌^◌, Bool, true, false, List, [], ◌∷◌, Some, None, Ok, Err, Option, Result, codes, bytes_eq, if◌then◌else◌}
use Rattle.ends.specs.Codes.{bit_of, setting_of}
use Rattle.files.specs.declared.format.Format.{Format}
use Rattle.files.specs.declared.format.Format.TheVariants as format
use Rattle.scripts.specs.declared.names.Verb.{Verb}
use Rattle.scripts.specs.declared.names.Verb.TheVariants as verb
use Rattle.scripts.specs.declared.mistake.Mistake.{Mistake}
use Rattle.scripts.specs.declared.mistake.Mistake.TheVariants as mistake
use Rattle.scripts.specs.declared.request.How.{How}
use Rattle.scripts.specs.declared.request.How.TheVariants as how
use Rattle.scripts.specs.declared.request.Layers.{Layers}
use Rattle.scripts.specs.declared.request.Map.{Map}
use Rattle.scripts.specs.declared.request.Map.TheVariants as map
use Rattle.scripts.specs.declared.request.Mount.{Mount}
use Rattle.scripts.specs.Mistakes.{◌>>=◌}
use Rattle.scripts.specs.Numbers.{number}
use Rattle.scripts.specs.Requests.{Act, Asked, plan, tables, act, draw, join, strap, erase, read, same, used, count, issue, reopen, list}
use Rattle.scripts.specs.Words.{Word}

-- Parts: what stands at the front of some words, and the words behind it.

abbrev pub Part : Type 0 → Type 0
Part A = List Word → Result (A × List Word) Mistake

abbrev pub word_at : Part Word
word_at [] = Err mistake.MissingWord
word_at (w ∷ ws) = Ok (w, ws)

-- a number up to a greatest
unfoldable pub number_at : ℕ → Part ℕ
number_at most ws = do
  w ← word_at ws
  n ← number most w.0
  Ok (n, w.1)

-- numbers in one byte: lines and pins
abbrev pub byte_at : Part ℕ
byte_at = number_at 255

-- in four: addresses, masks, bases, and the pins of a mount
abbrev pub address_at : Part ℕ
address_at = number_at (2 ^ 32 - 1)

-- lengths of tables
abbrev pub length_at : Part ℕ
length_at = number_at (2 ^ 64 - 1)

-- nothing is left
abbrev pub nothing : List Word → Result (Unit {0}) Mistake
nothing [] = Ok tt
nothing (w ∷ ws) = Err mistake.SurplusWord

-- whether a word stands in front, which is then taken off
abbrev pub key_at : Word → List Word → Bool × List Word
key_at key [] = (false, [])
key_at key (w ∷ ws) = if bytes_eq w key then (true, ws) else (false, w ∷ ws)

-- Names.

unfoldable pub verb_of : Word → Result Verb Mistake
verb_of w =
    if bytes_eq w (codes "plan") then Ok verb.Plan
    else (if bytes_eq w (codes "tables") then Ok verb.Tables
    else (if bytes_eq w (codes "draw") then Ok verb.Draw
    else (if bytes_eq w (codes "join") then Ok verb.Join
    else (if bytes_eq w (codes "strap") then Ok verb.Strap
    else (if bytes_eq w (codes "erase") then Ok verb.Erase
    else (if bytes_eq w (codes "read") then Ok verb.Read
    else (if bytes_eq w (codes "same") then Ok verb.Same
    else (if bytes_eq w (codes "used") then Ok verb.Used
    else (if bytes_eq w (codes "count") then Ok verb.Count
    else (if bytes_eq w (codes "issue") then Ok verb.Issue
    else (if bytes_eq w (codes "reopen") then Ok verb.Reopen
    else (if bytes_eq w (codes "list") then Ok verb.List
    else Err mistake.UnknownCall))))))))))))

unfoldable pub how_of : Word → Result How Mistake
how_of w =
    if bytes_eq w (codes "both") then Ok how.Both
    else (if bytes_eq w (codes "either") then Ok how.Either
    else (if bytes_eq w (codes "differ") then Ok how.Differ
    else (if bytes_eq w (codes "overlay") then Ok how.Overlay
    else Err mistake.UnknownJoining)))

unfoldable pub is_high : Word → Result Bool Mistake
is_high w =
    if bytes_eq w (codes "low") then Ok false
    else (if bytes_eq w (codes "high") then Ok true
    else Err mistake.UnknownLevel)

unfoldable pub format_of : Word → Result Format Mistake
format_of w =
    if bytes_eq w (codes "bits") then Ok format.Bits
    else (if bytes_eq w (codes "settings") then Ok format.Settings
    else (if bytes_eq w (codes "ranges") then Ok format.Ranges
    else Err mistake.UnknownKind))

-- a word that is named so
abbrev pub named_at : {A : Type 0} → (Word → Result A Mistake) → Part A
named_at name ws = do
  w ← word_at ws
  a ← name w.0
  Ok (a, w.1)

-- Layers: first those that any source may have, with the fill as a number, and then with the fill as an end.

-- flipped MASK, or nothing
unfoldable pub flipped_at : Part (Option ℕ)
flipped_at ws =
    let key = key_at (codes "flipped") ws in
    if key.0 then (do
      mask ← address_at key.1
      Ok (Some mask.0, mask.1))
    else Ok (None, key.1)

-- mounted PINS BASE FILL, or nothing
unfoldable pub mounted_at : Part (Option (Mount ℕ))
mounted_at ws =
    let key = key_at (codes "mounted") ws in
    if key.0 then (do
      pins ← address_at key.1
      base ← address_at pins.1
      fill ← number_at 65535 base.1
      Ok (Some (record { pins = pins.0; base = base.0; fill = fill.0 }), fill.1))
    else Ok (None, key.1)

-- the end of a code
abbrev pub end_of : {E : Type 0} → (ℕ → Option E) → ℕ → Result E Mistake
end_of decoded n = found (decoded n)
  where
    found : {E : Type 0} → Option E → Result E Mistake
    found (Some e) = Ok e
    found None = Err mistake.NoEnd

abbrev pub mount_of : {E : Type 0} → (ℕ → Option E) → Option (Mount ℕ) → Result (Option (Mount E)) Mistake
mount_of decoded None = Ok None
mount_of decoded (Some m) = do
  fill ← end_of decoded m.fill
  Ok (Some (record { pins = m.pins; base = m.base; fill = fill }))

unfoldable pub layers_of : {E : Type 0} → (ℕ → Option E) → Layers ℕ → Result (Layers E) Mistake
layers_of decoded l = do
  mounted ← mount_of decoded l.mounted
  Ok (record { flipped = l.flipped; mounted = mounted })

-- the layers of a file of some kind: chip settings are not inverted
unfoldable pub map_of : Format → (inverted : Bool) → Layers ℕ → Result Map Mistake
map_of format.Bits inverted l = do
  layers ← layers_of bit_of l
  Ok (map.Bits inverted layers)
map_of format.Settings true l = Err mistake.InvertedSettings
map_of format.Settings false l = do
  layers ← layers_of setting_of l
  Ok (map.Settings layers)
map_of format.Ranges inverted l = do
  layers ← layers_of bit_of l
  Ok (map.Ranges inverted layers)

-- Calls: what stands behind their names.

abbrev pub pins_of : List Word → Result (List ℕ) Mistake
pins_of [] = Ok []
pins_of (w ∷ ws) = do
  pin ← number 255 w
  pins ← pins_of ws
  Ok (pin ∷ pins)

-- plan N PIN PIN ..
unfoldable pub plan_call : List Word → Result Asked Mistake
plan_call ws = do
  nodes ← length_at ws
  order ← pins_of nodes.1
  Ok (plan nodes.0 order)

-- tables TREE WORK
unfoldable pub tables_call : List Word → Result Asked Mistake
tables_call ws = do
  records ← length_at ws
  work ← length_at records.1
  _ ← nothing work.1
  Ok (tables records.0 work.0)

-- draw LINE [inverted] [flipped MASK] [mounted PINS BASE FILL] bits|settings|ranges FILE
unfoldable pub draw_call : List Word → Result Act Mistake
draw_call ws = do
  line ← byte_at ws
  let inverted = key_at (codes "inverted") line.1
  flipped ← flipped_at inverted.1
  mounted ← mounted_at flipped.1
  kind ← named_at format_of mounted.1
  file ← word_at kind.1
  _ ← nothing file.1
  map ← map_of kind.0 inverted.0 (record { flipped = flipped.0; mounted = mounted.0 })
  Ok (draw line.0 map file.0)

-- join both|either|differ|overlay LEFT RIGHT LINE
unfoldable pub join_call : List Word → Result Act Mistake
join_call ws = do
  how ← named_at how_of ws
  left ← byte_at how.1
  right ← byte_at left.1
  line ← byte_at right.1
  _ ← nothing line.1
  Ok (join how.0 left.0 right.0 line.0)

-- strap FROM PIN low|high LINE
unfoldable pub strap_call : List Word → Result Act Mistake
strap_call ws = do
  from ← byte_at ws
  pin ← byte_at from.1
  high ← named_at is_high pin.1
  line ← byte_at high.1
  _ ← nothing line.1
  Ok (strap from.0 pin.0 high.0 line.0)

-- one line, as of erase and count
unfoldable pub line_only : List Word → Result ℕ Mistake
line_only ws = do
  line ← byte_at ws
  _ ← nothing line.1
  Ok line.0

-- read LINE ADDRESS
unfoldable pub read_call : List Word → Result Act Mistake
read_call ws = do
  line ← byte_at ws
  address ← address_at line.1
  _ ← nothing address.1
  Ok (read line.0 address.0)

-- same LEFT RIGHT
unfoldable pub same_call : List Word → Result Act Mistake
same_call ws = do
  left ← byte_at ws
  right ← byte_at left.1
  _ ← nothing right.1
  Ok (same left.0 right.0)

-- list, or list FILE
unfoldable pub list_call : List Word → Result Act Mistake
list_call [] = Ok (list None)
list_call (file ∷ ws) = do
  _ ← nothing ws
  Ok (list (Some file))

-- on a plan
abbrev pub on_plan : Result Act Mistake → Result Asked Mistake
on_plan r = r >>= λ a. Ok (act a)

-- by the name
unfoldable pub call : Verb → List Word → Result Asked Mistake
call verb.Plan ws = plan_call ws
call verb.Tables ws = tables_call ws
call verb.Draw ws = on_plan (draw_call ws)
call verb.Join ws = on_plan (join_call ws)
call verb.Strap ws = on_plan (strap_call ws)
call verb.Erase ws = line_only ws >>= λ line. Ok (act (erase line))
call verb.Read ws = on_plan (read_call ws)
call verb.Same ws = on_plan (same_call ws)
call verb.Used ws = nothing ws >>= λ _. Ok (act used)
call verb.Count ws = line_only ws >>= λ line. Ok (act (count line))
call verb.Issue ws = nothing ws >>= λ _. Ok (act issue)
call verb.Reopen ws = nothing ws >>= λ _. Ok (act reopen)
call verb.List ws = on_plan (list_call ws)

-- what a line of these words asks for
unfoldable pub request : List Word → Result (Option Asked) Mistake
request [] = Ok None
request (name ∷ ws) = do
  verb ← verb_of name
  asked ← call verb ws
  Ok (Some asked)
