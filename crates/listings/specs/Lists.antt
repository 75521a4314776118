-- What listing some lines of a node table comes to.
use Rattle.std.specs.Prelude.{◌≡◌, ℕ, ◌*◌, ◌<◌, ◌≤◌, List, ◌++◌, length, drop, Some, None, Ok, Err, Option, Result, MatchResult, nat_lt}
use Rattle.faults.specs.declared.fault.Fault.{Fault}
use Rattle.faults.specs.declared.fault.Ground.TheVariants.{OrderLength, NodeTable, Work, Buffer}
use Rattle.faults.specs.Refusals.{at, refuse_if}
use Rattle.model.specs.declared.Branch.{Branch}
use Rattle.model.specs.declared.Node.{Node}
use Rattle.model.specs.Lists.{In, held}
use Rattle.model.specs.Diagrams.{listed, From}
use Rattle.model.specs.Layouts.{listing}
use Rattle.model.specs.Listings.{bytes}
use Rattle.tables.specs.Markings.{Diagram}

-- the refusal of more than 20 pins, then of more than 4,096 nodes, then of work of fewer than 4 numbers a node
abbrev pub size_refusal : (pins nodes work : ℕ) → Option Fault
size_refusal pins nodes work =
    refuse_if (nat_lt 20 pins) (at OrderLength pins) (refuse_if (nat_lt 4096 nodes) (at NodeTable nodes) (refuse_if (nat_lt work (4 * nodes)) (at Work work) None))

-- the bytes stand at the front of the buffer, or it is too short for them
abbrev pub ListsBytes : List ℕ → List ℕ → Result ℕ Fault → List ℕ → Type 0
ListsBytes bs buffer r buffer' =
    MatchResult r (λ k. (length bs ≤ length buffer) × (k ≡ length bs) × (buffer' ≡ bs ++ drop k buffer)) (λ f. (length buffer < length bs) × (f ≡ at Buffer (length bs)))

-- listing lines: the refusal of a size, or else a listing that fits in the buffer, or the length that the buffer lacks
pub record ListsLines (nodes : List Node) (work : ℕ) (order : List ℕ) (lines : List (Option Branch)) (buffer : List ℕ) (r : Result ℕ Fault) (buffer' : List ℕ) : Type 0 where
  pub turned : (f : Fault) → size_refusal (length order) (length nodes) work ≡ Some f → r ≡ Err f
  pub fits : size_refusal (length order) (length nodes) work ≡ None → MatchResult r (λ k. k ≤ length buffer) (λ f. (length buffer < f.place) × (f ≡ at Buffer f.place))
  -- the bytes, where the roots stand in some reduced diagram of the table
  pub lists : size_refusal (length order) (length nodes) work ≡ None → (us : List ℕ) → Diagram (length order) nodes us
      → ((b : Branch) → In b (held lines) → From (λ i. In i us) (listed nodes) 0 b) → ListsBytes (bytes order (listing (listed nodes) (length order) lines)) buffer r buffer'
  -- whatever stands in the table, bytes past the listing stay, and so does the whole buffer on a refusal
  pub past : (k : ℕ) → r ≡ Ok k → drop k buffer' ≡ drop k buffer
  pub kept : (f : Fault) → r ≡ Err f → buffer' ≡ buffer
