-- The laws after any row of calls on a new plan: what the plan holds and tells, against the plain plan fed the same row.
use Rattle.std.specs.Prelude.{◌≡◌, ℕ, ◌<◌, ◌≤◌, Bool, cond, List, [], ◌∷◌, ◌++◌, length, drop, Some, None, Decides, Option, Result, slice_index_or}
use Rattle.faults.specs.declared.fault.Fault.{Fault}
use Rattle.faults.specs.Refusals.{is_none, or_else}
use Rattle.model.specs.declared.Branch.{Branch}
use Rattle.model.specs.declared.Node.{Node}
use Rattle.model.specs.Lists.{held, LineForLine}
use Rattle.model.specs.Selections.{Selection, Alike}
use Rattle.model.specs.Diagrams.{Table, listed, Reaches, Rival, LeastRival}
use Rattle.plans.specs.Plain.{Plain, Call, pins, line, used_of, count_line, empty_plan, make_told, count_told}
use Rattle.plans.specs.Holding.{Holds, ToldValue}
use Rattle.plans.specs.Listing.{listing_of, list_told}
use Rattle.rows.specs.Rows.{Lent, runs}
use Rattle.rows.specs.declared.outcome.Outcome.{Outcome}

-- The plain plan after a row: a new one of this order and a table of so many nodes, fed the row's calls.
abbrev pub plain_after : List ℕ → Lent → (Lent → List Call) → Plain
plain_after order l calls = runs (empty_plan order l.nodes) (calls l)

-- what is told of the row's plan: the refusal of its making, or a value of which P holds
abbrev pub AfterMaking : {A : Type 0} → List ℕ → Lent → Result A Fault → (A → Type 0) → Type 0
AfterMaking order l r P = ToldValue r (make_told order l.nodes) P

-- Used. The nodes of the table that are reached from the roots of the held lines, each taken once, are exactly as many
-- as the plain plan's selections have different parts; and so is the used number that is told.
pub record UsedIsTheParts (p : Plain) (nodes : List Node) (lines : List (Option Branch)) (used : ℕ) : Type 0 where
  pub reached : List ℕ
  pub reaches : Reaches (listed nodes) (held lines) reached
  pub exact : length reached ≡ used_of p
  pub told : used ≡ used_of p

-- the count that is told of a line: nothing where the plain plan refuses it, and else the number of the line's parts
abbrev pub count_if_told : Plain → (line nodes work : ℕ) → Option ℕ
count_if_told p d nodes work = cond (is_none (count_told p d nodes work)) (Some (count_line p d)) None

-- Count. A line that the plain plan holds with selection f has a root; the nodes reached from the root alone are an ordered
-- diagram in the plan's order for f, as small as any; they are as many as the count told; and every such diagram,
-- in any table, has at least as many nodes as the count told.
pub record CountIsLeast (p : Plain) (nodes : List Node) (line : Option Branch) (f : Selection) (count : Option ℕ) : Type 0 where
  pub root : Branch
  pub entered : line ≡ Some root
  pub own : List ℕ
  pub reaches : Reaches (listed nodes) (root ∷ []) own
  pub diagram : LeastRival (pins p) p.order f (listed nodes) own root
  pub exact : (k : ℕ) → count ≡ Some k → length own ≡ k
  pub least : (k : ℕ) → count ≡ Some k → (T : Table) (us : List ℕ) (b : Branch) → Rival (pins p) p.order f T us b → k ≤ length us

-- What stands after a row: the plan holds the plain plan, and the laws of the used number and of every line's count.
pub record Priced (p : Plain) (nodes : List Node) (work : ℕ) (o : Outcome) : Type 0 where
  pub holds : Holds o.plan.header nodes p
  pub used : UsedIsTheParts p nodes o.plan.header.lines o.used
  pub counts : (d : ℕ) → d < 32 → slice_index_or o.counts d None ≡ count_if_told p d (length nodes) work
  pub least : (d : ℕ) (f : Selection) → line p d ≡ Some f → CountIsLeast p nodes (slice_index_or o.plan.header.lines d None) f (slice_index_or o.counts d None)

-- the first ground on which a row's listing is refused: the making of the plan, and then the listing
abbrev pub listing_told : List ℕ → Lent → Plain → ℕ → Option Fault
listing_told order l p buffer = or_else (make_told order l.nodes) (list_told p l.nodes l.work buffer)

-- a buffer after a listing: as it was where that is refused, and else with the listing at its front
abbrev pub written : Option Fault → List ℕ → List ℕ → List ℕ
written told listing buffer = cond (is_none told) (listing ++ drop (length listing) buffer) buffer

-- Listing. What is listed after a row is the layout for the plain plan's selections, in its length, at the front of the buffer;
-- or it is refused as the plain plan refuses it.
pub record ListingIsTheLayout (order : List ℕ) (l : Lent) (p : Plain) (buffer : List ℕ) (r : Result ℕ Fault) (buffer' : List ℕ) : Type 0 where
  pub told : ToldValue r (listing_told order l p (length buffer)) (λ k. k ≡ length (listing_of p))
  pub wrote : buffer' ≡ written (listing_told order l p (length buffer)) (listing_of p) buffer

-- Telling apart. The listings after two rows are equal, byte for byte, exactly when the two plain plans are equal line for line:
-- both lines hold nothing, or both hold selections that agree at every address.
pub record ListingsTellLines (p q : Plain) (same : Bool) : Type 0 where
  pub bytes : Decides same (listing_of p ≡ listing_of q)
  pub lines : Decides same (LineForLine (Alike (pins p)) p.lines q.lines)

-- the first ground on which one of two listings is refused
abbrev pub either_told : List ℕ → Lent → Lent → Plain → Plain → (buffer other : ℕ) → Option Fault
either_told order l m p q buffer other = or_else (listing_told order l p buffer) (listing_told order m q other)

-- What the comparison of two rows comes to: a refusal, or whether the listings are equal, each of which stands in its buffer.
pub record RowsCompared (order : List ℕ) (l m : Lent) (p q : Plain) (buffer other : List ℕ) (r : Result Bool Fault) (buffer' other' : List ℕ) : Type 0 where
  pub told : ToldValue r (either_told order l m p q (length buffer) (length other)) (ListingsTellLines p q)
  pub wrote : buffer' ≡ written (listing_told order l p (length buffer)) (listing_of p) buffer
  pub wrote_other : other' ≡ written (either_told order l m p q (length buffer) (length other)) (listing_of q) other
