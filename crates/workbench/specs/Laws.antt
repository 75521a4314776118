-- What the price list promises of the answers of `used` and `count`, whatever stands on a desk.
use Rattle.std.specs.Prelude.{◌≡◌, ℕ, List, [], take, Some, None, Ok, Option, slice_index_or}
use Rattle.model.specs.declared.Branch.{Branch}
use Rattle.model.specs.declared.Node.{Node}
use Rattle.model.specs.Selections.{Selection}
use Rattle.plans.specs.Plain.{Plain, line}
use Rattle.rows.specs.Laws.{UsedIsTheParts, CountIsLeast}
use Rattle.scripts.specs.Requests as script
use Rattle.workbench.specs.declared.answer.Answer.TheVariants as answer
use Rattle.workbench.specs.declared.desk.Desk.{Desk}
use Rattle.workbench.specs.declared.desk.Stage.{Stage}
use Rattle.workbench.specs.declared.desk.Stage.TheVariants as stage
use Rattle.workbench.specs.declared.desk.Lengths.{Lengths}
use Rattle.workbench.specs.Calls.{Handed}
use Rattle.workbench.specs.Desks.{opened, Situation, Stands}
use Rattle.workbench.specs.Requests.{RequestAnswered}

-- the lines of the plan on a desk, with their roots
abbrev pub lines_of : Stage → List (Option Branch)
lines_of stage.Bare = []
lines_of (stage.Open plan sheet) = plan.header.lines
lines_of (stage.Issued plan sheet) = plan.header.lines

abbrev pub with_open : Plain → Option Lengths → Situation
with_open p t = record { bench = opened p; lengths = t }

pub record PricesAsPromised : Type 0 where
  -- the number told by `used` is that of the reachable nodes, and of the different parts
  pub used : (d : Desk) (nodes : List Node) (p : Plain) (t : Option Lengths) → Stands d nodes (with_open p t) → (l : Handed) (bs : List ℕ) (u : ℕ)
      → RequestAnswered l (with_open p t) (script.act script.used) bs (Ok (answer.Used u)) → UsedIsTheParts p (take p.size nodes) (lines_of d.stage) u
  -- the number told by `count` is that of the line's own nodes, and no diagram for the line has fewer
  pub count : (d : Desk) (nodes : List Node) (p : Plain) (t : Option Lengths) → Stands d nodes (with_open p t) → (l : Handed) (bs : List ℕ) (k c : ℕ) (f : Selection) → line p k ≡ Some f
      → RequestAnswered l (with_open p t) (script.act (script.count k)) bs (Ok (answer.Nodes k c)) → CountIsLeast p (take p.size nodes) (slice_index_or (lines_of d.stage) k None) f (Some c)
