use Rattle.std.proofs.Common.{length}
use Rattle.listings.proofs.Inverting.{InvertedSoFar}
use Rattle.listings.proofs.numbers.invert.Given as goal

abbrev pub invariant-loop-k : goal.invariant-loop-k
invariant-loop-k l = InvertedSoFar l.order (length l.initial.numbers) l.k l.numbers
