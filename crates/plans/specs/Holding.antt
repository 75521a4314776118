-- What it means that a plan and its node table hold a plain plan.
use Rattle.std.specs.Prelude.{◌≡◌, ℕ, Bool, List, length, take, Some, None, Err, Decides, Option, Result, MatchResult}
use Rattle.faults.specs.declared.fault.Fault.{Fault}
use Rattle.model.specs.declared.Node.{Node}
use Rattle.model.specs.Lists.{In, held, LineForLine}
use Rattle.model.specs.Selections.{Alike}
use Rattle.model.specs.Diagrams.{listed, Means, Ordered, Reduced, Reached, Reaches}
use Rattle.plans.specs.declared.header.Header.{Header}
use Rattle.plans.specs.Results.{refusal}
use Rattle.plans.specs.Plain.{Plain, Call, pins, line, used_of, code_of, count_line, empty_plan, make_told, input_told, told, after, read_refusal, read_told, count_refusal, count_told, same_refusal, same_told}

-- the order of a plan
abbrev pub order_of : Header → List ℕ
order_of h = take h.pins h.order

-- a plain plan of the plan's order and table length
pub record Heads (h : Header) (p : Plain) : Type 0 where
  pub order : p.order ≡ order_of h
  pub size : p.size ≡ h.size

-- A plan and its node table hold a plain plan: the nodes reached from the held lines are ordered and reduced,
-- each line's root means the plain line's selection, and the used number is that of these nodes.
pub record Holds (h : Header) (nodes : List Node) (p : Plain) : Type 0 where
  pub heads : Heads h p
  pub whole : length nodes ≡ p.size
  pub reachable : List ℕ
  pub reached : Reaches (listed nodes) (held h.lines) reachable
  pub ordered : Ordered (pins p) (listed nodes) (λ i. In i reachable)
  pub reduced : Reduced (listed nodes) (λ i. In i reachable)
  pub lines : LineForLine (Means (pins p) (listed nodes) p.order) h.lines p.lines
  pub used : h.usage.used ≡ length reachable

-- What a call did, whatever plain plan was held at its entry.
pub record Did (h : Header) (nodes : List Node) (c : Call) (r : Result (Unit {0}) Fault) (h' : Header) (nodes' : List Node) : Type 0 where
  -- a refusal that comes from the arguments alone is told whatever stands in the table
  pub turned : (p : Plain) → Heads h p → (f : Fault) → input_told p c ≡ Some f → (r ≡ Err f) × (nodes' ≡ nodes)
  pub tells : (p : Plain) → Holds h nodes p → refusal r ≡ told p c
  pub leaves : (p : Plain) → Holds h nodes p → Holds h' nodes' (after p c)
  -- reachable nodes stand as they stood, and a refused call leaves the plan as it was
  pub stand : (p : Plain) → Holds h nodes p → (i : ℕ) → Reached (listed nodes) (held h.lines) i → listed nodes' i ≡ listed nodes i
  pub same : (f : Fault) → r ≡ Err f → h' ≡ h

-- a plan that was made of an order and a node table: nothing is refused, and it holds the plain plan with nothing on any line
pub record Made (order : List ℕ) (nodes : List Node) (h : Header) : Type 0 where
  pub accepted : make_told order (length nodes) ≡ None
  pub holds : Holds h nodes (empty_plan order (length nodes))

-- What a call that alters nothing told: the refusal of the plain plan, or a value of which P holds.
abbrev pub ToldValue : {A : Type 0} → Result A Fault → Option Fault → (A → Type 0) → Type 0
ToldValue r told P = MatchResult r (λ x. (told ≡ None) × P x) (λ f. told ≡ Some f)

-- reading a line at an address
pub record Reads (h : Header) (nodes : List Node) (d a : ℕ) (r : Result ℕ Fault) : Type 0 where
  pub turned : (p : Plain) → Heads h p → (f : Fault) → read_refusal (pins p) p.size d a (length nodes) ≡ Some f → r ≡ Err f
  pub tells : (p : Plain) → Holds h nodes p → ToldValue r (read_told p d a (length nodes)) (λ c. c ≡ code_of (line p d) a)

-- counting the nodes of a line: they are as many as the line has parts
pub record Counts (h : Header) (nodes : List Node) (d work : ℕ) (r : Result ℕ Fault) : Type 0 where
  pub turned : (p : Plain) → Heads h p → (f : Fault) → count_refusal (pins p) p.size d (length nodes) work ≡ Some f → r ≡ Err f
  pub tells : (p : Plain) → Holds h nodes p → ToldValue r (count_told p d (length nodes) work) (λ c. c ≡ count_line p d)

-- comparing two lines: whether they have one selection
pub record Compares (h : Header) (a b : ℕ) (r : Result Bool Fault) : Type 0 where
  pub turned : (f : Fault) → same_refusal a b ≡ Some f → r ≡ Err f
  pub tells : (nodes : List Node) (p : Plain) → Holds h nodes p → ToldValue r (same_told p a b) (λ yes. Decides yes (Alike (pins p) (line p a) (line p b)))

-- the used number is that of the plain plan
abbrev pub Uses : Header → ℕ → Type 0
Uses h r = (nodes : List Node) (p : Plain) → Holds h nodes p → r ≡ used_of p
