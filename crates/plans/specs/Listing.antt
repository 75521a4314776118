-- The listing of a plan.
use Rattle.std.specs.Prelude.{◌≡◌, ℕ, ◌+◌, ◌*◌, ◌↔◌, List, ◌++◌, length, drop, Some, None, Ok, Err, Option, Result, nat_lt}
use Rattle.faults.specs.declared.fault.Fault.{Fault}
use Rattle.faults.specs.declared.fault.Ground.TheVariants.{Buffer}
use Rattle.faults.specs.Refusals.{at, refuse_if, or_else}
use Rattle.model.specs.declared.Node.{Node}
use Rattle.model.specs.Lists.{LineForLine}
use Rattle.model.specs.Orders.{Order}
use Rattle.model.specs.Selections.{views, Alike}
use Rattle.model.specs.Layouts.{layout}
use Rattle.model.specs.Listings.{bytes}
use Rattle.plans.specs.declared.header.Header.{Header}
use Rattle.plans.specs.Plain.{Plain, pins, used_of, other_tables}
use Rattle.plans.specs.Holding.{Heads, Holds, ToldValue}

-- the bytes that are laid out for the selections of a plain plan
unfoldable pub listing_of : Plain → List ℕ
listing_of p = bytes p.order (layout (pins p) (views (pins p) p.order p.lines))

abbrev pub listing_length : Plain → ℕ
listing_length p = 104 + pins p + 7 * used_of p

-- the first ground on which a listing is refused: the node table, the work, and then the buffer
abbrev pub list_told : Plain → (nodes work buffer : ℕ) → Option Fault
list_told p nodes work buffer = or_else (other_tables (pins p) p.size nodes work) (refuse_if (nat_lt buffer (listing_length p)) (at Buffer (listing_length p)) None)

-- Listing a plan: the refusal of the plain plan, or its listing at the front of the buffer, with what stood behind it.
pub record Lists (h : Header) (nodes : List Node) (work : ℕ) (buffer : List ℕ) (r : Result ℕ Fault) (buffer' : List ℕ) : Type 0 where
  pub turned : (p : Plain) → Heads h p → (f : Fault) → other_tables (pins p) p.size (length nodes) work ≡ Some f → r ≡ Err f
  pub tells : (p : Plain) → Holds h nodes p → ToldValue r (list_told p (length nodes) work (length buffer)) (λ k. (k ≡ length (listing_of p)) × (buffer' ≡ listing_of p ++ drop k buffer))
  -- whatever stands in the table, bytes past the listing stay, and so does the whole buffer on a refusal
  pub past : (k : ℕ) → r ≡ Ok k → drop k buffer' ≡ drop k buffer
  pub kept : (f : Fault) → r ≡ Err f → buffer' ≡ buffer

-- A listing has its length, and two listings of one order are equal exactly when their selections are, line for line, nothing only to nothing.
pub record ListingsTell : Type 0 where
  pub long : (p : Plain) → length p.lines ≡ 32 → length (listing_of p) ≡ listing_length p
  pub apart : (p q : Plain) → Order (pins p) p.order → p.order ≡ q.order → (listing_of p ≡ listing_of q) ↔ LineForLine (Alike (pins p)) p.lines q.lines
