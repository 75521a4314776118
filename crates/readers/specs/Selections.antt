-- What a map file means, in ends.
use Rattle.std.specs.Prelude.{ℕ, ◌^◌, Bool, cond, List, Some, None, Option, ◌==◌, nat_lt}
use Rattle.ends.specs.declared.setting.Setting.{Setting}
use Rattle.ends.specs.Codes.{setting_at}
use Rattle.files.specs.declared.format.Format.TheVariants.{Bits, Settings, Ranges}
use Rattle.files.specs.Formats.{count_of}
use Rattle.files.specs.Meaning.{meaning, covered}

abbrev pub bit_at : List ℕ → ℕ → Bool
bit_at bs a = meaning Bits bs a == 1

abbrev pub chip_at : List ℕ → ℕ → Setting
chip_at bs a = setting_at (meaning Settings bs a)

abbrev pub inside_at : List ℕ → ℕ → Bool
inside_at bs a = covered bs a (count_of Ranges bs)

-- f of the addresses of n pins, and nothing of any other
abbrev pub below_top : {E : Type 0} → ℕ → (ℕ → E) → ℕ → Option E
below_top n f a = cond (nat_lt a (2 ^ n)) (Some (f a)) None
