use Rattle.std.proofs.Common.{Ok, ap, ◌∙◌}
use Rattle.row_tests.proofs.Counting.{two_used}
use Rattle.row_tests.proofs.settled.lamps_settle.Goals as goal

pub returns : goal.returns
returns c = ap Ok (c.in_ok-outcome.ensures.priced.1.used.told ∙ two_used)
