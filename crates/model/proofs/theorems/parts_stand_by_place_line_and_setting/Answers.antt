use Rattle.model.proofs.theorems.parts_stand_by_place_line_and_setting.Goals as goal
use Rattle.model.proofs.Sorting.{parts_in_order}

pub returns : goal.returns
returns c = parts_in_order
