-- A map alone: the records of its tree, and the parts of its line on a new plan of 8 nodes.
use Rattle.std.specs.Prelude.{◌≡◌, ℕ, true, List, length, None, Ok, Result, nat_le}
use Rattle.faults.specs.declared.fault.Fault.{Fault}
use Rattle.model.specs.Selections.{Selection}
use Rattle.trees.specs.Mixed.{mixed_blocks}
use Rattle.plans.specs.Plain.{Plain, Call, empty_plan, draw, make_told, told, after, count_told, count_line}
use Rattle.settled.specs.declared.outcomes.Reckoning.{Reckoning}

abbrev pub new_plan : List ℕ → Plain
new_plan order = empty_plan order 8

-- with 8 tree records, and work for 4 pins
abbrev pub drawing : ℕ → Selection → Call
drawing n f = draw 0 n f 8 8 200

abbrev pub drawn : ℕ → Selection → List ℕ → Plain
drawn n f order = after (new_plan order) (drawing n f)

-- none of the calls is refused
pub record Goes (n : ℕ) (f : Selection) (order : List ℕ) : Type 0 where
  pub built : nat_le (length (mixed_blocks n f)) 8 ≡ true
  pub made : make_told order 8 ≡ None
  pub drawn_on : told (new_plan order) (drawing n f) ≡ None
  pub counted : count_told (drawn n f order) 0 8 200 ≡ None

abbrev pub reckoned : (records nodes : ℕ) → Reckoning
reckoned k m = record { records = k; nodes = m }

abbrev pub Reckons : ℕ → Selection → List ℕ → Result Reckoning Fault → Type 0
Reckons n f order r = Goes n f order → r ≡ Ok (reckoned (length (mixed_blocks n f)) (count_line (drawn n f order) 0))
