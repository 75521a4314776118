-- Whether the codes on a line decode.
use Rattle.std.specs.Prelude.{◌≡◌, ℕ, Bool, not, List, None, Result}
use Rattle.faults.specs.declared.fault.Fault.{Fault}
use Rattle.faults.specs.declared.fault.Ground.TheVariants.{Undecoded}
use Rattle.faults.specs.Refusals.{at, refuse_if}
use Rattle.model.specs.declared.Branch.{Branch}
use Rattle.model.specs.declared.Node.{Node}
use Rattle.model.specs.Lists.{In}
use Rattle.model.specs.Diagrams.{listed, tree, From}
use Rattle.growths.specs.Codes.{all_codes}
use Rattle.tables.specs.Markings.{Diagram}
use Rattle.plans.specs.Results.{refusal}

-- a line is refused where one of its codes does not decode, if its root stands in some reduced diagram of the table
abbrev pub Checks : (ℕ → Bool) → ℕ → List Node → Branch → ℕ → Result (Unit {0}) Fault → Type 0
Checks decoding n nodes root d r =
    (us : List ℕ) → Diagram n nodes us → From (λ i. In i us) (listed nodes) 0 root
    → refusal r ≡ refuse_if (not (all_codes decoding (tree (listed nodes) n 0 root))) (at Undecoded d) None
