use Rattle.std.proofs.Common.{◌≡◌, ◌≤◌, drop}
use Rattle.scripts.specs.Numbers.{value}
use Rattle.scripts.proofs.digits.value_of.Given as goal

abbrev pub invariant-loop-letter : goal.invariant-loop-letter
invariant-loop-letter l = record { so_far : value l.base l.most l.value (drop l.letter-index l.digits) ≡ value l.base l.most 0 l.digits; small : l.value ≤ l.most }
