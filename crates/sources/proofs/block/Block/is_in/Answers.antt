use Rattle.std.proofs.Common.{arith, le-leb}
use Rattle.sources.proofs.Numbers.{small}
use Rattle.sources.proofs.block.Block.is_in.Goals as goal

pub returns-then-self-ge32 : goal.returns-then-self-ge32
returns-then-self-ge32 c = (
  λ _. record { level = omega arith; block = small c.args.self.level c.args.self.number (omega arith) (omega arith) },
  λ _. le-leb 32 c.args.self.level (omega arith),
)
