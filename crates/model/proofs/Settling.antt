-- The settled examples compute.
use Rattle.std.proofs.Common.{refl}
use Rattle.model.specs.Layouts.{layout}
use Rattle.model.specs.Listings.{bytes}
use Rattle.model.specs.Examples.{Settled}

pub settled : Settled
unfolding layout bytes
settled =
    record {
      constant = refl;
      single = refl;
      alternating = refl;
      differing = refl;
      in_order = refl;
      out_of_order = refl;
      chip_settings = refl;
      sharing = refl;
      sharing_less = refl;
      strapped_high = refl;
      listing_bytes = refl;
    }
