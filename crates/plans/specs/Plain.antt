-- The plain plan: what a plan means, what a call tells, and what it leaves.
use Rattle.std.specs.Prelude.{ℕ, zero, suc, ◌+◌, ◌*◌, ◌^◌, Bool, true, false, cond, not, ◌||◌, List, [], ◌∷◌, length, replicate, Some, None, Option, ◌==◌, nat_le, nat_lt, slice_index_or, slice_set}
use Rattle.faults.specs.declared.fault.Fault.{Fault}
use Rattle.faults.specs.declared.fault.Ground.TheVariants as ground
use Rattle.faults.specs.Refusals.{at, refuse_if, or_else, is_none}
use Rattle.model.specs.Lists.{held}
use Rattle.model.specs.Parts.{used}
use Rattle.model.specs.Selections.{Selection, views}
use Rattle.model.specs.Joins.{joined, strapped}
use Rattle.trees.specs.Mixed.{mixed_blocks}
use Rattle.plans.specs.Orders.{misplaced_below}

-- An order of pins, the length of the node table, and for each of 32 lines nothing or a selection of codes.
pub record Plain : Type 0 where
  pub order : List ℕ
  pub size : ℕ
  pub lines : List (Option Selection)

abbrev pub pins : Plain → ℕ
pins p = length p.order

-- what line d holds
abbrev pub line : Plain → ℕ → Option Selection
line p d = slice_index_or p.lines d None

-- the plan with something else on line d
abbrev pub with_line : Plain → ℕ → Option Selection → Plain
with_line p d l = record { order = p.order; size = p.size; lines = slice_set p.lines d l }

-- Used: the number of different parts of all held lines.
abbrev pub used_of : Plain → ℕ
used_of p = used (pins p) (held (views (pins p) p.order p.lines))

-- a new plan has empty lines
abbrev pub empty_plan : List ℕ → ℕ → Plain
empty_plan order size = record { order = order; size = size; lines = replicate 32 None }

-- how many numbers of work a call asks for, at n pins and a table of so many nodes
abbrev pub work_size : (n size : ℕ) → ℕ
work_size n size = 4 * (n + 1) * (size + 2)

-- A call by its arguments alone: a source as its pins and its selection of codes, a joining as the codes that its
-- kind decodes and its function on codes, a table or work as its length.
pub data Call : Type 0 where
  draw : (line pins : ℕ) (f : Selection) (nodes tree work : ℕ) → Call
  join : (decodes : ℕ → Bool) (g : ℕ → ℕ → ℕ) (a b d nodes work : ℕ) → Call
  strap : (a pin : ℕ) (high : Bool) (d nodes work : ℕ) → Call
  erase : (line nodes work : ℕ) → Call

abbrev pub is_held : Option Selection → Bool
is_held (Some f) = true
is_held None = false

-- The grounds, each followed by what is tried next.

abbrev pub no_line : ℕ → Option Fault → Option Fault
no_line d = refuse_if (nat_lt 31 d) (at ground.NoLine d)

abbrev pub other_table : (size k : ℕ) → Option Fault → Option Fault
other_table size k = refuse_if (not (k == size)) (at ground.NodeTable k)

-- the node table, and then the work
abbrev pub other_tables : (n size nodes work : ℕ) → Option Fault
other_tables n size nodes work = other_table size nodes (refuse_if (nat_lt work (work_size n size)) (at ground.Work work) None)

abbrev pub line_empty : Plain → ℕ → Option Fault → Option Fault
line_empty p d = refuse_if (not (is_held (line p d))) (at ground.LineEmpty d)

abbrev pub line_taken : Plain → ℕ → Option Fault → Option Fault
line_taken p d = refuse_if (is_held (line p d)) (at ground.LineTaken d)

-- the held lines and a new one together have more parts than the table has nodes
abbrev pub too_many_parts : Plain → ℕ → Option Selection → Option Fault → Option Fault
too_many_parts p d l = refuse_if (nat_lt p.size (used_of (with_line p d l))) (at ground.Parts p.size)

-- one of the codes of the first k addresses is not decoded
abbrev pub undecoded : (ℕ → Bool) → ℕ → Selection → Bool
undecoded decodes zero f = false
undecoded decodes (suc k) f = not (decodes (f k)) || undecoded decodes k f

abbrev pub line_undecoded : Plain → (ℕ → Bool) → Option Selection → Bool
line_undecoded p decodes (Some f) = undecoded decodes (2 ^ pins p) f
line_undecoded p decodes None = false

abbrev pub not_decoded : Plain → (ℕ → Bool) → ℕ → Option Fault → Option Fault
not_decoded p decodes d = refuse_if (line_undecoded p decodes (line p d)) (at ground.Undecoded d)

-- what a call puts on its line
abbrev pub join_lines : (ℕ → ℕ → ℕ) → Option Selection → Option Selection → Option Selection
join_lines g (Some f) (Some h) = Some (joined g f h)
join_lines g (Some f) None = None
join_lines g None h = None

abbrev pub strap_line : ℕ → ℕ → Bool → Option Selection → Option Selection
strap_line n pin high (Some f) = Some (strapped n pin high f)
strap_line n pin high None = None

-- The refusals that come from the arguments, at n pins and a table of so many nodes, whatever the lines hold.

abbrev pub draw_refusal : (n size pins line nodes work : ℕ) → Option Fault
draw_refusal n size m d nodes work = refuse_if (not (m == n)) (at ground.SourcePins m) (no_line d (other_tables n size nodes work))

abbrev pub join_refusal : (n size a b d nodes work : ℕ) → Option Fault
join_refusal n size a b d nodes work = no_line a (no_line b (no_line d (other_tables n size nodes work)))

abbrev pub strap_refusal : (n size a pin d nodes work : ℕ) → Option Fault
strap_refusal n size a pin d nodes work = no_line a (no_line d (refuse_if (nat_le n pin) (at ground.StrapPin pin) (other_tables n size nodes work)))

abbrev pub input_refusal : (n size : ℕ) → Call → Option Fault
input_refusal n size (draw d m f nodes tree work) = draw_refusal n size m d nodes work
input_refusal n size (join decodes g a b d nodes work) = join_refusal n size a b d nodes work
input_refusal n size (strap a pin high d nodes work) = strap_refusal n size a pin d nodes work
input_refusal n size (erase d nodes work) = no_line d (other_tables n size nodes work)

abbrev pub input_told : Plain → Call → Option Fault
input_told p c = input_refusal (pins p) p.size c

-- The refusals that come from what the lines hold.
abbrev pub state_told : Plain → Call → Option Fault
state_told p (draw d n f nodes tree work) =
    line_taken p d (refuse_if (nat_lt tree (length (mixed_blocks n f))) (at ground.TreeTable tree) (too_many_parts p d (Some f) None))
state_told p (join decodes g a b d nodes work) =
    line_empty p a (line_empty p b (line_taken p d (not_decoded p decodes a (not_decoded p decodes b (too_many_parts p d (join_lines g (line p a) (line p b)) None)))))
state_told p (strap a pin high d nodes work) =
    line_empty p a (line_taken p d (too_many_parts p d (strap_line (pins p) pin high (line p a)) None))
state_told p (erase d nodes work) = line_empty p d None

-- The first ground that holds, if any.
abbrev pub told : Plain → Call → Option Fault
told p c = or_else (input_told p c) (state_told p c)

-- what an accepted call leaves
abbrev pub changed : Plain → Call → Plain
changed p (draw d n f nodes tree work) = with_line p d (Some f)
changed p (join decodes g a b d nodes work) = with_line p d (join_lines g (line p a) (line p b))
changed p (strap a pin high d nodes work) = with_line p d (strap_line (pins p) pin high (line p a))
changed p (erase d nodes work) = with_line p d None

-- What a call leaves: a refused one alters nothing.
abbrev pub after : Plain → Call → Plain
after p c = cond (is_none (told p c)) (changed p c) p

-- The refusals of the calls that alter nothing.

-- making a plan
abbrev pub make_told : List ℕ → ℕ → Option Fault
make_told order size =
    refuse_if (nat_lt (length order) 1 || nat_lt 20 (length order)) (at ground.OrderLength (length order))
    (or_else (misplaced_below order (length order)) (refuse_if (nat_lt size 1 || nat_lt 4096 size) (at ground.NodeTable size) None))

abbrev pub read_refusal : (n size line address nodes : ℕ) → Option Fault
read_refusal n size d a nodes = no_line d (refuse_if (nat_le (2 ^ n) a) (at ground.ReadAddress a) (other_table size nodes None))

abbrev pub read_told : Plain → (line address nodes : ℕ) → Option Fault
read_told p d a nodes = or_else (read_refusal (pins p) p.size d a nodes) (line_empty p d None)

abbrev pub same_refusal : (a b : ℕ) → Option Fault
same_refusal a b = no_line a (no_line b None)

abbrev pub same_told : Plain → (a b : ℕ) → Option Fault
same_told p a b = or_else (same_refusal a b) (line_empty p a (line_empty p b None))

abbrev pub count_refusal : (n size line nodes work : ℕ) → Option Fault
count_refusal n size d nodes work = no_line d (other_tables n size nodes work)

abbrev pub count_told : Plain → (line nodes work : ℕ) → Option Fault
count_told p d nodes work = or_else (count_refusal (pins p) p.size d nodes work) (line_empty p d None)

-- the code of a line at an address, and the number of its parts; nothing has neither
abbrev pub code_of : Option Selection → ℕ → ℕ
code_of (Some f) a = f a
code_of None a = 0

abbrev pub count_line : Plain → ℕ → ℕ
count_line p d = used (pins p) (held (views (pins p) p.order (line p d ∷ [])))
