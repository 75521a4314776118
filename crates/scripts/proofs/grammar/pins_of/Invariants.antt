use Rattle.std.proofs.Common.{◌≡◌, length}
use Rattle.scripts.specs.Grammar.{pins_of}
use Rattle.scripts.specs.Words.{words}
use Rattle.scripts.proofs.Ordering.{with_front}
use Rattle.scripts.proofs.grammar.pins_of.Given as goal

abbrev pub invariant-loop-word : goal.invariant-loop-word
invariant-loop-word l = with_front l.pins.items (pins_of (words l.rest)) ≡ pins_of (words l.text)

abbrev pub decreases-loop-word : goal.decreases-loop-word
decreases-loop-word l = length (words l.rest)
