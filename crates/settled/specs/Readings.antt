-- A map of two pins, drawn alone on a new plan of 3 nodes and read at each address.
use Rattle.std.specs.Prelude.{◌≡◌, ◌<◌, ℕ, List, [], ◌∷◌, None, Ok, Result, length, slice_index_or}
use Rattle.faults.specs.declared.fault.Fault.{Fault}
use Rattle.model.specs.Selections.{Selection}
use Rattle.model.specs.declared.Node.{Node}
use Rattle.plans.specs.declared.header.Header.{Header}
use Rattle.plans.specs.Holding.{Reads}
use Rattle.plans.specs.Plain.{draw, told}
use Rattle.settled.specs.Lines.{new_plan}

-- the four codes, if the draw is not refused
abbrev pub ReadsFour : ℕ → Selection → Result (List (Result ℕ Fault)) Fault → Type 0
ReadsFour n f r = told new_plan (draw 0 n f 3 3 60) ≡ None → r ≡ Ok (Ok (f 0) ∷ Ok (f 1) ∷ Ok (f 2) ∷ Ok (f 3) ∷ [])

-- what a line told at each of four addresses
abbrev pub ReadsEach : Header → List Node → ℕ → List (Result ℕ Fault) → Type 0
ReadsEach h nodes d r = (length r ≡ 4) × ((e : Result ℕ Fault) → (a : ℕ) → a < 4 → Reads h nodes d a (slice_index_or r a e))
