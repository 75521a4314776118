-- Two lines on three nodes, in address order.
use Rattle.std.specs.Prelude.{◌≡◌, ℕ, List, [], ◌∷◌, map, Some, None, true}
use Rattle.faults.specs.declared.fault.Ground.TheVariants.{Parts}
use Rattle.faults.specs.Refusals.{at}
use Rattle.growths.specs.Codes.{code_join, decodes}
use Rattle.ends.specs.Codes.{bit_code, bit_of, unlike}
use Rattle.files.specs.declared.format.Format.TheVariants.{Bits}
use Rattle.files.specs.Formats.{pins_of}
use Rattle.files.specs.Verdict.{accepted}
use Rattle.readers.specs.Selections.{bit_at}
use Rattle.trees.specs.Mixed.{codes}
use Rattle.settled.specs.Samples.{differing, alternating, halved}
use Rattle.plans.specs.Plain.{Plain, Call, line, code_of, used_of, count_line, empty_plan, draw, join, strap, erase, told, after}

-- the draw of a switch file of bits with 3 nodes, 3 tree records and the work for them
abbrev pub drawing : ℕ → List ℕ → Call
drawing d bs = draw d (pins_of Bits (accepted Bits bs)) (codes bit_code (bit_at (accepted Bits bs))) 3 3 60

abbrev pub new_plan : Plain
new_plan = empty_plan (0 ∷ 1 ∷ []) 3

abbrev pub one_drawn : Plain
one_drawn = after new_plan (drawing 0 differing)

abbrev pub two_drawn : Plain
two_drawn = after one_drawn (drawing 1 alternating)

-- a third map, refused; line 0 erased
abbrev pub still_two : Plain
still_two = after two_drawn (drawing 2 halved)

abbrev pub erased : Plain
erased = after still_two (erase 0 3 60)

-- before the erasure: pin 0 of line 0 strapped high onto line 2, and line 0 joined with itself onto line 3
abbrev pub strapping : ℕ → ℕ → Call
strapping = strap 0 0 true 2

abbrev pub joining : ℕ → ℕ → Call
joining = join (decodes bit_of) (code_join bit_of bit_code unlike) 0 0 3

abbrev pub strapped : Plain
strapped = after two_drawn (strapping 3 60)

abbrev pub joined : Plain
joined = after strapped (joining 3 60)

-- the two lines and a third map, on the plain plan
pub record LinesSettle : Type 0 where
  pub used : used_of two_drawn ≡ 3
  pub refused : told two_drawn (drawing 2 halved) ≡ Some (at Parts 3)
  pub erases : told still_two (erase 0 3 60) ≡ None
  pub drawn_then : told erased (drawing 2 halved) ≡ None
  pub used_then : used_of (after erased (drawing 2 halved)) ≡ 2
  pub straps : told two_drawn (strapping 3 60) ≡ None
  pub strapped_used : used_of strapped ≡ 3
  pub ends : map (code_of (line strapped 2)) (0 ∷ 1 ∷ 2 ∷ 3 ∷ []) ≡ 1 ∷ 0 ∷ 1 ∷ 0 ∷ []
  pub joins : told strapped (joining 3 60) ≡ None
  pub none_counted : count_line joined 3 ≡ 0
