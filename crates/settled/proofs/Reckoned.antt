-- Why no call of a reckoning is refused, and what the last one tells.
use Rattle.std.proofs.Common.{◌≡◌, ℕ, ◌<◌, List, [], ◌∷◌, length, Ok, Result, refl, ◌∙◌, subst, arith}
use Rattle.std.proofs.lemmas.Bool.Decides.{leb_tells}
use Rattle.faults.specs.declared.fault.Fault.{Fault}
use Rattle.model.specs.declared.Node.{Node}
use Rattle.model.specs.Selections.{Selection}
use Rattle.trees.specs.Mixed.{codes, differs, mixed, level, blocks, mixed_blocks}
use Rattle.ends.specs.Codes.{bit_code, setting_code}
use Rattle.readers.specs.Selections.{bit_at, chip_at}
use Rattle.plans.specs.declared.header.Header.{Header}
use Rattle.plans.specs.Plain.{draw, told, count_line}
use Rattle.plans.specs.Holding.{Did}
use Rattle.settled.specs.declared.outcomes.Reckoning.{Reckoning}
use Rattle.settled.specs.Reckonings.{drawing, drawn, Goes, Reckons, reckoned}
use Rattle.settled.specs.Samples.{constant, single, alternating, differing, four_pins, chip_settings}

pub both : (k k' m m' : ℕ) → k ≡ k' → m ≡ m' → ◌≡◌ {A = Result Reckoning Fault} (Ok (reckoned k m)) (Ok (reckoned k' m'))
both k k' m m' e q = cc

module _ (n : ℕ) (f : Selection) (order : List ℕ) (goes : Goes n f order) where
  pub trees_fit : (k : ℕ) → k ≡ 8 → k < length (mixed_blocks n f) → ⊥
  trees_fit k e l = let g = goes.built in grind (arith, leb_tells)

  -- the draw, with the length that the tree table kept
  pub drawn_at : (h : Header) (nodes : List Node) (t : ℕ) (r : Result (Unit {0}) Fault) (h' : Header) (nodes' : List Node) → t ≡ 8 → Did h nodes (draw 0 n f 8 t 200) r h' nodes' → Did h nodes (drawing n f) r h' nodes'
  drawn_at h nodes t r h' nodes' e d = subst (λ (x : ℕ). Did h nodes (draw 0 n f 8 x 200) r h' nodes') e d

-- a reckoning that goes, with its numbers
pub settled : (n : ℕ) (f : Selection) (order : List ℕ) (k m : ℕ) (r : Result Reckoning Fault) → Goes n f order → length (mixed_blocks n f) ≡ k → count_line (drawn n f order) 0 ≡ m → Reckons n f order r → r ≡ Ok (reckoned k m)
settled n f order k m r goes e q told = told goes ∙ both _ _ _ _ e q

abbrev pub bits_of : List ℕ → Selection
bits_of bs = codes bit_code (bit_at bs)

abbrev pub settings_of : List ℕ → Selection
settings_of bs = codes setting_code (chip_at bs)

pub constant_settled : (r : Result Reckoning Fault) → Reckons 1 (bits_of constant) (0 ∷ []) r → r ≡ Ok (reckoned 0 0)
unfolding differs mixed level blocks mixed_blocks
constant_settled r t = settled _ _ _ 0 0 r (record { built = refl; made = refl; drawn_on = refl; counted = refl }) refl refl t

pub single_settled : (r : Result Reckoning Fault) → Reckons 1 (bits_of single) (0 ∷ []) r → r ≡ Ok (reckoned 1 1)
unfolding differs mixed level blocks mixed_blocks
single_settled r t = settled _ _ _ 1 1 r (record { built = refl; made = refl; drawn_on = refl; counted = refl }) refl refl t

pub alternating_settled : (r : Result Reckoning Fault) → Reckons 2 (bits_of alternating) (0 ∷ 1 ∷ []) r → r ≡ Ok (reckoned 3 1)
unfolding differs mixed level blocks mixed_blocks
alternating_settled r t = settled _ _ _ 3 1 r (record { built = refl; made = refl; drawn_on = refl; counted = refl }) refl refl t

pub differing_settled : (r : Result Reckoning Fault) → Reckons 2 (bits_of differing) (0 ∷ 1 ∷ []) r → r ≡ Ok (reckoned 3 3)
unfolding differs mixed level blocks mixed_blocks
differing_settled r t = settled _ _ _ 3 3 r (record { built = refl; made = refl; drawn_on = refl; counted = refl }) refl refl t

pub in_order_settled : (r : Result Reckoning Fault) → Reckons 4 (bits_of four_pins) (0 ∷ 1 ∷ 2 ∷ 3 ∷ []) r → r ≡ Ok (reckoned 4 4)
unfolding differs mixed level blocks mixed_blocks
in_order_settled r t = settled _ _ _ 4 4 r (record { built = refl; made = refl; drawn_on = refl; counted = refl }) refl refl t

pub out_of_order_settled : (r : Result Reckoning Fault) → Reckons 4 (bits_of four_pins) (3 ∷ 1 ∷ 0 ∷ 2 ∷ []) r → r ≡ Ok (reckoned 4 6)
unfolding differs mixed level blocks mixed_blocks
out_of_order_settled r t = settled _ _ _ 4 6 r (record { built = refl; made = refl; drawn_on = refl; counted = refl }) refl refl t

pub chip_settings_settled : (r : Result Reckoning Fault) → Reckons 2 (settings_of chip_settings) (0 ∷ 1 ∷ []) r → r ≡ Ok (reckoned 2 2)
unfolding differs mixed level blocks mixed_blocks
chip_settings_settled r t = settled _ _ _ 2 2 r (record { built = refl; made = refl; drawn_on = refl; counted = refl }) refl refl t
