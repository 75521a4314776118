use Rattle.model.proofs.theorems.parts_of_selections_are_views_of_the_rest.Goals as goal
use Rattle.model.proofs.Parts.{parts_of_selections}

pub returns : goal.returns
returns c = parts_of_selections
