use Rattle.trees.proofs.Agree.{left_is_one}
use Rattle.trees.proofs.laws.answer_is_one.Goals as goal

pub returns : goal.returns
returns c = left_is_one
