-- The three formats of map files, and their fields.
use Rattle.std.specs.Prelude.{ℕ, ◌+◌, ◌-◌, ◌*◌, ◌%◌, cond, List, codes, ◌==◌, slice_index}
use Rattle.files.specs.declared.format.Format.{Format}
use Rattle.files.specs.declared.format.Format.TheVariants.{Bits, Settings, Ranges}

-- the first three bytes
abbrev pub mark_of : Format → List ℕ
mark_of Bits = codes "SWL"
mark_of Settings = codes "SWL"
mark_of Ranges = codes "RNG"

-- where the pins, the count and the entries stand
abbrev pub pins_at : Format → ℕ
pins_at Bits = 6
pins_at Settings = 6
pins_at Ranges = 5

abbrev pub count_at : Format → ℕ
count_at Bits = 8
count_at Settings = 8
count_at Ranges = 6

abbrev pub header_size : Format → ℕ
header_size Bits = 10
header_size Settings = 10
header_size Ranges = 8

abbrev pub entry_size : Format → ℕ
entry_size Bits = 3
entry_size Settings = 4
entry_size Ranges = 6

-- two and three bytes as a number, the highest first
abbrev pub double : List ℕ → ℕ → ℕ
double bs i = slice_index bs i * 256 + slice_index bs (i + 1)

abbrev pub triple : List ℕ → ℕ → ℕ
triple bs i = slice_index bs i * 65536 + slice_index bs (i + 1) * 256 + slice_index bs (i + 2)

abbrev pub pins_of : Format → List ℕ → ℕ
pins_of k bs = slice_index bs (pins_at k)

abbrev pub count_of : Format → List ℕ → ℕ
count_of k bs = double bs (count_at k)

abbrev pub full_length : Format → List ℕ → ℕ
full_length k bs = header_size k + count_of k bs * entry_size k

-- where entry i stands, 1 and up
abbrev pub entry_at : Format → ℕ → ℕ
entry_at k i = header_size k + (i - 1) * entry_size k

-- the address of a switch, or the first address of a range; entry 0, the first end, counts as standing at 0
abbrev pub first_of : Format → List ℕ → ℕ → ℕ
first_of k bs i = cond (i == 0) 0 (triple bs (entry_at k i))

-- the last address of a range
abbrev pub last_of : List ℕ → ℕ → ℕ
last_of bs i = triple bs (entry_at Ranges i + 3)

-- the code after i changes of the end: a bit changes to the other bit, a chip setting to the entry's code
abbrev pub code_of : Format → List ℕ → ℕ → ℕ
code_of Bits bs i = (slice_index bs 7 + i) % 2
code_of Settings bs i = cond (i == 0) (slice_index bs 7) (slice_index bs (entry_at Settings i + 3))
code_of Ranges bs i = i % 2

-- the codes of a format's end kind are those below this number
abbrev pub code_limit : Format → ℕ
code_limit Bits = 2
code_limit Settings = 128
code_limit Ranges = 2
