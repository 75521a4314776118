-- Putting what was grown on a line.
use Rattle.std.specs.Prelude.{◌≡◌, ℕ, List, Some, None, Ok, Err, Option, Result, slice_set}
use Rattle.faults.specs.declared.fault.Fault.{Fault}
use Rattle.faults.specs.declared.fault.Ground.TheVariants.{Parts}
use Rattle.faults.specs.Refusals.{at}
use Rattle.model.specs.declared.Branch.{Branch}
use Rattle.model.specs.declared.Node.{Node}
use Rattle.plans.specs.declared.header.Header.{Header}
use Rattle.plans.specs.Holding.{order_of}
use Rattle.plans.specs.Reaching.{ReachesMany}

-- the header with something else on a line, and the used number told anew
pub record Put (h : Header) (nodes : List Node) (d : ℕ) (l : Option Branch) (h' : Header) : Type 0 where
  pub order : order_of h' ≡ order_of h
  pub size : h'.size ≡ h.size
  pub lines : h'.lines ≡ slice_set h.lines d l
  pub many : ReachesMany h.pins nodes (slice_set h.lines d l) h'.usage.used

-- a root that was grown is put on the line; none means that there was no room for it
abbrev pub Settles : Header → List Node → ℕ → Option Branch → Result (Unit {0}) Fault → Header → Type 0
Settles h nodes d (Some b) r h' = (r ≡ Ok tt) × Put h nodes d (Some b) h'
Settles h nodes d None r h' = (r ≡ Err (at Parts h.size)) × (h' ≡ h)
