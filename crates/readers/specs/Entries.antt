-- The entries of a map file, as a reader gives them.
use Rattle.std.specs.Prelude.{ℕ, cond, ◌&&◌, List, Some, None, Option, nat_le}
use Rattle.readers.specs.declared.entry.Range.{Range}
use Rattle.readers.specs.declared.entry.Switch.{Switch}
use Rattle.files.specs.declared.format.Format.{Format}
use Rattle.files.specs.declared.format.Format.TheVariants.{Ranges}
use Rattle.files.specs.Formats.{count_of, first_of, last_of, code_of}

-- entry i of a switch file, with its end by its code: entry 0 is the first end
abbrev pub switch_of : {E : Type 0} → Format → (ℕ → E) → List ℕ → ℕ → Option (Switch E)
switch_of k end bs i = cond (nat_le i (count_of k bs)) (Some (record { address = first_of k bs i; end = end (code_of k bs i) })) None

-- range i, 1 and up
abbrev pub range_of : List ℕ → ℕ → Option Range
range_of bs i = cond (nat_le 1 i && nat_le i (count_of Ranges bs)) (Some (record { first = first_of Ranges bs i; last = last_of bs i })) None
