-- What a desk holds, with plain plans in place of plans.
use Rattle.std.specs.Prelude.{◌≡◌, ℕ, List, take, None, Option}
use Rattle.model.specs.declared.Node.{Node}
use Rattle.plans.specs.declared.header.Header.{Header}
use Rattle.plans.specs.Holding.{Holds}
use Rattle.plans.specs.Plain.{Plain, pins}
use Rattle.workbench.specs.declared.desk.Desk.{Desk}
use Rattle.workbench.specs.declared.sheet.Sheet.{Sheet}
use Rattle.workbench.specs.declared.desk.Stage.{Stage}
use Rattle.workbench.specs.declared.desk.Stage.TheVariants as stage
use Rattle.workbench.specs.declared.desk.Lengths.{Lengths}

-- no plan, an open one or an issued one
pub data Bench : Type 0 where
  none : Bench
  opened : Plain → Bench
  issued : Plain → Bench

-- and the lengths of tables, if they were set
pub record Situation : Type 0 where
  pub bench : Bench
  pub lengths : Option Lengths

-- a plan and its nodes hold a plain plan, of which the desk knows how many pins and nodes it has
pub record Sits (h : Header) (sheet : Sheet) (nodes : List Node) (p : Plain) : Type 0 where
  pub holds : Holds h nodes p
  pub pins : sheet.pins ≡ pins p
  pub size : sheet.nodes ≡ p.size

abbrev pub StandsAt : Stage → List Node → Bench → Type 0
StandsAt stage.Bare nodes none = Unit {0}
StandsAt (stage.Open plan sheet) nodes (opened p) = Sits plan.header sheet nodes p
StandsAt (stage.Issued plan sheet) nodes (issued p) = Sits plan.header sheet nodes p
StandsAt _ nodes _ = ⊥

-- how many pins and nodes the plan has
abbrev pub bench_pins : Bench → ℕ
bench_pins none = 0
bench_pins (opened p) = pins p
bench_pins (issued p) = pins p

abbrev pub bench_nodes : Bench → ℕ
bench_nodes none = 0
bench_nodes (opened p) = p.size
bench_nodes (issued p) = p.size

abbrev pub stage_pins : Stage → ℕ
stage_pins stage.Bare = 0
stage_pins (stage.Open plan sheet) = sheet.pins
stage_pins (stage.Issued plan sheet) = sheet.pins

abbrev pub stage_nodes : Stage → ℕ
stage_nodes stage.Bare = 0
stage_nodes (stage.Open plan sheet) = sheet.nodes
stage_nodes (stage.Issued plan sheet) = sheet.nodes

-- a desk holds this, its plan in the first nodes of the table
pub record Stands (d : Desk) (nodes : List Node) (s : Situation) : Type 0 where
  pub plan : StandsAt d.stage (take (bench_nodes s.bench) nodes) s.bench
  pub lengths : d.lengths ≡ s.lengths

-- a desk with no plan, on which nothing was set
abbrev pub start : Situation
start = record { bench = none; lengths = None }
