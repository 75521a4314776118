use Rattle.std.proofs.Common.{arith}
use Rattle.trees.proofs.Meaning.{keys_are, each_divides, half_means}
use Rattle.trees.proofs.laws.records_divide.Goals as goal

pub returns : goal.returns
returns c = record { keys = keys_are; each = each_divides; root = λ n f. half_means n f 0 0 (record { level = omega arith; block = omega arith }) }
