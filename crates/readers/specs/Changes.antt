-- A map file of any format as a first code and a row of changes, each at an address.
use Rattle.std.specs.Prelude.{ℕ, ◌+◌, ◌*◌, ◌/◌, ◌%◌, cond, List, ◌==◌}
use Rattle.files.specs.declared.format.Format.{Format}
use Rattle.files.specs.declared.format.Format.TheVariants.{Bits, Settings, Ranges}
use Rattle.files.specs.Formats.{count_of, first_of, last_of}

-- a range changes the end twice: at its first address, and past its last
abbrev pub change_count : Format → List ℕ → ℕ
change_count Bits bs = count_of Bits bs
change_count Settings bs = count_of Settings bs
change_count Ranges bs = 2 * count_of Ranges bs

abbrev pub change_at : Format → List ℕ → ℕ → ℕ
change_at Bits bs i = first_of Bits bs i
change_at Settings bs i = first_of Settings bs i
change_at Ranges bs i = cond (i == 0) 0 (cond (i % 2 == 1) (first_of Ranges bs ((i + 1) / 2)) (last_of bs (i / 2) + 1))
