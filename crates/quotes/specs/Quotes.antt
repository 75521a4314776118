-- What is quoted for a switch file of bits: its map is drawn on line 0 in address order.
use Rattle.std.specs.Prelude.{◌≡◌, ℕ, List, [], ◌∷◌, take, Some, None, Option, Result, MatchResult}
use Rattle.faults.specs.declared.fault.Fault.{Fault}
use Rattle.faults.specs.Refusals.{or_else}
use Rattle.ends.specs.Codes.{bit_code}
use Rattle.files.specs.declared.format.Format.TheVariants.{Bits}
use Rattle.files.specs.Formats.{pins_of}
use Rattle.files.specs.Verdict.{fault}
use Rattle.readers.specs.Selections.{bit_at}
use Rattle.trees.specs.Mixed.{codes}
use Rattle.plans.specs.Plain.{Plain, Call, empty_plan, draw, told, after, count_line}

-- pin 0 first
abbrev pub address_order : ℕ → List ℕ
address_order n = take n (0 ∷ 1 ∷ 2 ∷ 3 ∷ 4 ∷ 5 ∷ 6 ∷ 7 ∷ 8 ∷ 9 ∷ 10 ∷ 11 ∷ 12 ∷ 13 ∷ 14 ∷ 15 ∷ 16 ∷ 17 ∷ 18 ∷ 19 ∷ [])

-- a new plan of 128 nodes in the order of the addresses
abbrev pub quote_plan : List ℕ → Plain
quote_plan bs = empty_plan (address_order (pins_of Bits bs)) 128

-- the draw of the file's map on line 0, with 512 tree records and work for 12 pins
abbrev pub quote_call : List ℕ → Call
quote_call bs = draw 0 (pins_of Bits bs) (codes bit_code (bit_at bs)) 128 512 6760

-- the refusal of the file, or else of the draw
abbrev pub quote_told : List ℕ → Option Fault
quote_told bs = or_else (fault Bits bs) (told (quote_plan bs) (quote_call bs))

-- the number of parts of the line that was drawn
abbrev pub quote_count : List ℕ → ℕ
quote_count bs = count_line (after (quote_plan bs) (quote_call bs)) 0

-- drawing an accepted file and counting its line
abbrev pub Drawn : List ℕ → Result ℕ Fault → Type 0
Drawn bs r = MatchResult r (λ k. (told (quote_plan bs) (quote_call bs) ≡ None) × (k ≡ quote_count bs)) (λ f. told (quote_plan bs) (quote_call bs) ≡ Some f)

-- the refusal, or the count where nothing is refused
abbrev pub Quoted : List ℕ → Result ℕ Fault → Type 0
Quoted bs r = MatchResult r (λ k. (quote_told bs ≡ None) × (k ≡ quote_count bs)) (λ f. quote_told bs ≡ Some f)
