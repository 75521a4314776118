-- The settled examples: what the calls tell. (model/specs/Examples has the counts and used numbers of the same maps over the definitions alone.)
use Rattle.std.specs.Prelude.{◌≡◌, ℕ, List, [], ◌∷◌, Some, Ok, Err, Option, Result, MatchResult}
use Rattle.faults.specs.declared.fault.Fault.{Fault}
use Rattle.faults.specs.declared.fault.Ground.TheVariants.{Parts}
use Rattle.faults.specs.Refusals.{at}
use Rattle.settled.specs.declared.outcomes.Maps.{Maps}
use Rattle.settled.specs.declared.outcomes.ThreeNodes.{ThreeNodes}
use Rattle.settled.specs.declared.outcomes.StrapAndJoin.{StrapAndJoin}
use Rattle.settled.specs.Reckonings.{reckoned}

-- Tree records, and the count of the line. The maps of bits have first end 0, and the pins stand in address order but for one.
pub record MapsSettle (m : Maps) : Type 0 where
  -- one pin, no switch: no record, no node
  pub constant : m.constant ≡ Ok (reckoned 0 0)
  -- one pin, switch 1
  pub single : m.single ≡ Ok (reckoned 1 1)
  -- two pins, switches 1 2 3: three records, but pin 0 does not matter
  pub alternating : m.alternating ≡ Ok (reckoned 3 1)
  -- two pins, switches 1 3: pin 0 low and pin 0 high leave different parts
  pub differing : m.differing ≡ Ok (reckoned 3 3)
  -- four pins, switch 5
  pub in_order : m.in_order ≡ Ok (reckoned 4 4)
  -- the same in the order 3 1 0 2
  pub out_of_order : m.out_of_order ≡ Ok (reckoned 4 6)
  -- two pins, chip settings: first code 8, switch 1 to 16, switch 2 to 8
  pub chip_settings : m.chip_settings ≡ Ok (reckoned 2 2)

-- the calls come to an outcome of which P holds
abbrev pub Settle : {A : Type 0} → (A → Type 0) → Result A Fault → Type 0
Settle P r = MatchResult r P (λ f. ⊥)

-- Three nodes, two pins in address order: switches 1 3 on line 0 and switches 1 2 3 on line 1.
pub record ThreeNodesSettle (t : ThreeNodes) : Type 0 where
  -- the two lines use all three nodes
  pub used : t.used ≡ 3
  -- so switch 2 on line 2 is refused for its parts, at the length of the table
  pub drawn : t.drawn ≡ Err (at Parts 3)
  -- once line 0 is erased it is drawn, and two nodes are used
  pub erased : t.erased ≡ Ok tt
  pub drawn_then : t.drawn_then ≡ Ok tt
  pub used_then : t.used_then ≡ 2

-- The same two lines, before the erasure.
pub record StrapAndJoinSettle (s : StrapAndJoin) : Type 0 where
  -- pin 0 of line 0 strapped high: ends 1 0 1 0, and still three nodes
  pub strapped : s.strapped ≡ Ok tt
  pub ends : s.ends ≡ Ok 1 ∷ Ok 0 ∷ Ok 1 ∷ Ok 0 ∷ []
  pub used : s.used ≡ 3
  -- where line 0 differs from itself: nowhere, and no node
  pub joined : s.joined ≡ Ok tt
  pub count : s.count ≡ Ok 0

-- Overlay of codes: 17 with 9 is 17, 9 with 17 is 9 (equal waits, so the left wins), 1 with 16 is 16 (chip 0 yields).
abbrev pub OverlaysSettle : List (Option ℕ) → Type 0
OverlaysSettle codes = codes ≡ Some 17 ∷ Some 9 ∷ Some 16 ∷ []

-- One pin with first end 0 and switch 1, mounted in 2 pins at base 1 with fill 0, has the ends 0 0 0 1.
abbrev pub MountSettles : Result (List (Result ℕ Fault)) Fault → Type 0
MountSettles r = r ≡ Ok (Ok 0 ∷ Ok 0 ∷ Ok 0 ∷ Ok 1 ∷ [])
