use Rattle.model.proofs.theorems.listing_is_all_bytes.Goals as goal
use Rattle.model.proofs.Bytes.{bytes_small}

pub returns : goal.returns
returns c = bytes_small
