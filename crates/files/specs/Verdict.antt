-- The first fault of bytes that are read in a format.
use Rattle.std.specs.Prelude.{ℕ, zero, suc, ◌+◌, ◌-◌, ◌^◌, Bool, true, cond, not, ◌&&◌, ◌||◌, List, [], ◌∷◌, length, None, Option, ◌==◌, nat_le, nat_lt, slice_index}
use Rattle.faults.specs.declared.fault.Fault.{Fault}
use Rattle.faults.specs.declared.fault.Ground.TheVariants as ground
use Rattle.faults.specs.Refusals.{at, refuse_if, or_else, is_none}
use Rattle.files.specs.declared.format.Format.{Format}
use Rattle.files.specs.declared.format.Format.TheVariants.{Bits, Settings, Ranges}
use Rattle.files.specs.Formats.{mark_of, pins_at, count_at, header_size, double, pins_of, count_of, full_length, first_of, last_of, code_of, code_limit}

abbrev pub marked : Format → List ℕ → Bool
marked k bs =
    (slice_index bs 0 == slice_index (mark_of k) 0) && (slice_index bs 1 == slice_index (mark_of k) 1 && slice_index bs 2 == slice_index (mark_of k) 2)

-- a switch file's kind is the one read for
abbrev pub of_kind : Format → List ℕ → Bool
of_kind Bits bs = slice_index bs 5 == 0
of_kind Settings bs = slice_index bs 5 == 1
of_kind Ranges bs = true

abbrev pub header_fault : Format → List ℕ → Option Fault
header_fault k bs =
    refuse_if (nat_lt (length bs) (header_size k)) (at ground.TooShort (length bs))
    (refuse_if (not (marked k bs)) (at ground.Mark 0)
    (refuse_if (not (double bs 3 == 1)) (at ground.Version 3)
    (refuse_if (not (of_kind k bs)) (at ground.Kind 5)
    (refuse_if (nat_lt (pins_of k bs) 1 || nat_lt 20 (pins_of k bs)) (at ground.Pins (pins_at k))
    (refuse_if (nat_lt 1024 (count_of k bs)) (at ground.Count (count_at k))
    (refuse_if (nat_lt (length bs) (full_length k bs)) (at ground.TooShort (length bs))
    (refuse_if (nat_lt (full_length k bs) (length bs)) (at ground.Trailing (full_length k bs)) None)))))))

-- entry 0 is the first end, which a range file does not hold
abbrev pub first_fault : Format → List ℕ → Option Fault
first_fault Bits bs = refuse_if (nat_le 2 (slice_index bs 7)) (at ground.NoCode 0) None
first_fault Settings bs = refuse_if (nat_le 128 (slice_index bs 7)) (at ground.NoCode 0) None
first_fault Ranges bs = None

abbrev pub switch_fault : Format → List ℕ → ℕ → Option Fault
switch_fault k bs i =
    refuse_if (nat_le (2 ^ pins_of k bs) (first_of k bs i)) (at ground.AddressAbove i)
    (refuse_if (nat_le (first_of k bs i) (first_of k bs (i - 1))) (at ground.AddressOrder i)
    (refuse_if (nat_le (code_limit k) (code_of k bs i)) (at ground.NoCode i)
    (refuse_if (code_of k bs i == code_of k bs (i - 1)) (at ground.SameEnd i) None)))

abbrev pub range_fault : List ℕ → ℕ → Option Fault
range_fault bs i =
    refuse_if (nat_le (2 ^ pins_of Ranges bs) (first_of Ranges bs i) || nat_le (2 ^ pins_of Ranges bs) (last_of bs i)) (at ground.AddressAbove i)
    (refuse_if (nat_lt (last_of bs i) (first_of Ranges bs i) || (nat_lt 1 i && nat_lt (first_of Ranges bs i) (last_of bs (i - 1) + 2))) (at ground.AddressOrder i) None)

abbrev pub later_fault : Format → List ℕ → ℕ → Option Fault
later_fault Bits bs i = switch_fault Bits bs i
later_fault Settings bs i = switch_fault Settings bs i
later_fault Ranges bs i = range_fault bs i

abbrev pub entry_fault : Format → List ℕ → ℕ → Option Fault
entry_fault k bs i = cond (i == 0) (first_fault k bs) (later_fault k bs i)

-- the first fault of the entries below n
abbrev pub entries_fault : Format → List ℕ → ℕ → Option Fault
entries_fault k bs zero = None
entries_fault k bs (suc n) = or_else (entries_fault k bs n) (entry_fault k bs n)

abbrev pub fault : Format → List ℕ → Option Fault
fault k bs = or_else (header_fault k bs) (entries_fault k bs (count_of k bs + 1))

-- the smallest map file: one pin, end 0 at both addresses
abbrev pub blank : Format → List ℕ
blank Bits = 0x53 ∷ 0x57 ∷ 0x4C ∷ 0 ∷ 1 ∷ 0 ∷ 1 ∷ 0 ∷ 0 ∷ 0 ∷ []
blank Settings = 0x53 ∷ 0x57 ∷ 0x4C ∷ 0 ∷ 1 ∷ 1 ∷ 1 ∷ 0 ∷ 0 ∷ 0 ∷ []
blank Ranges = 0x52 ∷ 0x4E ∷ 0x47 ∷ 0 ∷ 1 ∷ 1 ∷ 0 ∷ 0 ∷ []

-- the bytes if they have no fault, else the smallest map file
abbrev pub accepted : Format → List ℕ → List ℕ
accepted k bs = cond (is_none (fault k bs)) bs (blank k)
