use Rattle.model.proofs.theorems.listing_has_its_length.Goals as goal
use Rattle.model.proofs.Bytes.{bytes_length}

pub returns : goal.returns
returns c = bytes_length
