-- Settled examples, over the definitions.
use Rattle.std.specs.Prelude.{◌≡◌, ℕ, ◌-◌, true, cond, List, [], ◌∷◌, ◌++◌, map, replicate, Some, None, nat_le}
use Rattle.model.specs.Lists.{flat}
use Rattle.model.specs.Trees.{Tree}
use Rattle.model.specs.Parts.{count, used}
use Rattle.model.specs.Selections.{Selection, view_of}
use Rattle.model.specs.Joins.{strapped}
use Rattle.model.specs.Layouts.{layout}
use Rattle.model.specs.Listings.{bytes}

-- a selection of bits by its first bit and its switches, at each of which the bit turns
abbrev pub bits : ℕ → List ℕ → Selection
bits e [] a = e
bits e (s ∷ ss) a = cond (nat_le s a) (bits (1 - e) ss a) e

-- a selection of codes by its first code and its switches, each an address and the code from there on
abbrev pub codes : ℕ → List (ℕ × ℕ) → Selection
codes e [] a = e
codes e (s ∷ ss) a = cond (nat_le s.0 a) (codes s.1 ss a) e

-- the tree of the bits with first bit 0
abbrev pub drawn : ℕ → List ℕ → List ℕ → Tree
drawn n order switches = view_of n order (bits 0 switches)

abbrev pub one_pin : List ℕ
one_pin = 0 ∷ []

abbrev pub two_pins : List ℕ
two_pins = 0 ∷ (1 ∷ [])

pub record Settled : Type 0 where
  -- one pin and no switch: constant
  pub constant : count 1 (drawn 1 one_pin []) ≡ 0
  -- one pin, a switch at 1
  pub single : count 1 (drawn 1 one_pin (1 ∷ [])) ≡ 1
  -- two pins, switches at 1, 2 and 3: pin 0 does not matter
  pub alternating : count 2 (drawn 2 two_pins (1 ∷ (2 ∷ (3 ∷ [])))) ≡ 1
  -- two pins, switches at 1 and 3: pin 0 low and pin 0 high leave different parts
  pub differing : count 2 (drawn 2 two_pins (1 ∷ (3 ∷ []))) ≡ 3
  -- four pins, a switch at 5, in two orders
  pub in_order : count 4 (drawn 4 (0 ∷ (1 ∷ (2 ∷ (3 ∷ [])))) (5 ∷ [])) ≡ 4
  pub out_of_order : count 4 (drawn 4 (3 ∷ (1 ∷ (0 ∷ (2 ∷ [])))) (5 ∷ [])) ≡ 6
  -- chip settings: first code 8, code 16 from address 1 on, code 8 from address 2 on
  pub chip_settings : count 2 (view_of 2 two_pins (codes 8 ((1, 16) ∷ ((2, 8) ∷ [])))) ≡ 2
  -- two lines of two pins that share a part
  pub sharing : used 2 (drawn 2 two_pins (1 ∷ (3 ∷ [])) ∷ (drawn 2 two_pins (1 ∷ (2 ∷ (3 ∷ []))) ∷ [])) ≡ 3
  pub sharing_less : used 2 (drawn 2 two_pins (2 ∷ []) ∷ (drawn 2 two_pins (1 ∷ (2 ∷ (3 ∷ []))) ∷ [])) ≡ 2
  -- two pins, switches at 1 and 3, pin 0 strapped high
  pub strapped_high : map (strapped 2 0 true (bits 0 (1 ∷ (3 ∷ [])))) (0 ∷ (1 ∷ (2 ∷ (3 ∷ [])))) ≡ (1 ∷ (0 ∷ (1 ∷ (0 ∷ []))))
  -- the listing of one pin with a switch at 1 on line 0, and 31 empty lines
  pub listing_bytes : bytes one_pin (layout 1 (Some (drawn 1 one_pin (1 ∷ [])) ∷ replicate 31 None))
      ≡ (0x4C ∷ (0x53 ∷ (0x54 ∷ (0x00 ∷ (0x01 ∷ (0x01 ∷ (0x00 ∷ (0x00 ∷ (0x01 ∷ (0x00 ∷ (0x00 ∷ (0x00 ∷ (0x00 ∷ (0x00 ∷ (0x00 ∷ (0x01 ∷ (0x01 ∷ (0x00 ∷ (0x00 ∷ [])))))))))))))))))))
      ++ flat (λ (i : ℕ). 0xFF ∷ (0x00 ∷ (0x00 ∷ []))) (replicate 31 0)
