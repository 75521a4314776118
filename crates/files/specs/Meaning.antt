-- What an accepted map file means: its pins, and a code for each address.
use Rattle.std.specs.Prelude.{ℕ, zero, suc, Bool, false, cond, ◌&&◌, ◌||◌, List, nat_le}
use Rattle.files.specs.declared.format.Format.{Format}
use Rattle.files.specs.declared.format.Format.TheVariants.{Bits, Settings, Ranges}
use Rattle.files.specs.Formats.{count_of, first_of, last_of, code_of}

-- of the entries 0 to n at these addresses, the last one at or below a
abbrev pub last_at : (ℕ → ℕ) → ℕ → ℕ → ℕ
last_at address a zero = 0
last_at address a (suc n) = cond (nat_le (address (suc n)) a) (suc n) (last_at address a n)

-- the end of the last switch at or below the address, or the first end
abbrev pub switched : Format → List ℕ → ℕ → ℕ
switched k bs a = code_of k bs (last_at (first_of k bs) a (count_of k bs))

-- one of the ranges 1 to n has the address inside
abbrev pub covered : List ℕ → ℕ → ℕ → Bool
covered bs a zero = false
covered bs a (suc n) = (nat_le (first_of Ranges bs (suc n)) a && nat_le a (last_of bs (suc n))) || covered bs a n

-- the code of an address
abbrev pub meaning : Format → List ℕ → ℕ → ℕ
meaning Bits bs a = switched Bits bs a
meaning Settings bs a = switched Settings bs a
meaning Ranges bs a = cond (covered bs a (count_of Ranges bs)) 1 0
