-- Numbers: decimal, or hexadecimal behind 0x, in either case of letters, and none above a greatest.
use Rattle.std.specs.Prelude.{ℕ, ◌+◌, ◌*◌, Bool, List, [], ◌∷◌, Ok, Err, Result, ◌==◌, nat_le, nat_lt, length, take, drop, codes, bytes_eq, if◌then◌else◌}
use Rattle.std.specs.Char.{digit_value}
use Rattle.scripts.specs.declared.mistake.Mistake.{Mistake}
use Rattle.scripts.specs.declared.mistake.Mistake.TheVariants.{NotANumber, TooLarge}

-- the value of digits that follow others of this value
unfoldable pub value : (base most before : ℕ) → List ℕ → Result ℕ Mistake
value base most n [] = Ok n
value base most n (c ∷ cs) =
    if nat_le base (digit_value c) then Err NotANumber
    else (if nat_lt most (n * base + digit_value c) then Err TooLarge
    else value base most (n * base + digit_value c) cs)

abbrev pub is_hex : List ℕ → Bool
is_hex w = bytes_eq (take 2 w) (codes "0x")

-- at least one digit
abbrev pub numeral : (base most : ℕ) → List ℕ → Result ℕ Mistake
numeral base most ds = if length ds == 0 then Err NotANumber else value base most 0 ds

unfoldable pub number : (most : ℕ) → List ℕ → Result ℕ Mistake
number most w = if is_hex w then numeral 16 most (drop 2 w) else numeral 10 most w
