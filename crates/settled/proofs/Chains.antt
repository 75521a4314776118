-- The plain plans of the chains of calls, each call as it is told.
use Rattle.std.proofs.Common.{◌≡◌, ℕ, false, cond, List, [], ◌∷◌, length, Some, None, Ok, Result, sym, refl, ap, subst}
use Rattle.faults.specs.declared.fault.Fault.{Fault}
use Rattle.faults.specs.declared.fault.Ground.TheVariants.{Parts}
use Rattle.faults.specs.Refusals.{at, is_none}
use Rattle.ends.specs.Codes.{bit_code}
use Rattle.model.specs.declared.Node.{Node}
use Rattle.model.specs.Selections.{Selection}
use Rattle.readers.specs.Selections.{bit_at}
use Rattle.files.specs.declared.format.Format.TheVariants.{Bits}
use Rattle.files.specs.Formats.{pins_of}
use Rattle.sources.specs.Grounds.{mount_fault}
use Rattle.sources.specs.Layers.{mounted}
use Rattle.trees.specs.Mixed.{codes, differs, mixed, level, blocks, mixed_blocks}
use Rattle.plans.specs.declared.header.Header.{Header}
use Rattle.plans.specs.Plain.{Plain, empty_plan, with_line, draw, erase, told, after, used_of, count_told, count_line}
use Rattle.plans.specs.Holding.{Holds}
use Rattle.settled.proofs.Steps.{Readable, codes_of}
use Rattle.settled.specs.Examples.{MountSettles}
use Rattle.settled.specs.Readings.{ReadsFour}
use Rattle.settled.specs.Samples.{single, differing, alternating, halved}
use Rattle.settled.specs.Lines.{drawing, new_plan, one_drawn, two_drawn, still_two, erased, strapping, joining, strapped, joined}

pub begun : (h : Header) (nodes : List Node) → length nodes ≡ 3 → Holds h nodes (empty_plan (0 ∷ 1 ∷ []) (length nodes)) → Holds h nodes new_plan
begun h nodes e o = subst (λ (k : ℕ). Holds h nodes (empty_plan (0 ∷ 1 ∷ []) k)) e o

pub first_goes : told new_plan (drawing 0 differing) ≡ None
unfolding differs mixed level blocks mixed_blocks
first_goes = refl

pub second_goes : told one_drawn (drawing 1 alternating) ≡ None
unfolding differs mixed level blocks mixed_blocks
second_goes = refl

pub three_used : used_of two_drawn ≡ 3
unfolding differs mixed level blocks mixed_blocks
three_used = refl

-- a third map, and line 0 erased

pub third_refused : told two_drawn (drawing 2 halved) ≡ Some (at Parts 3)
unfolding differs mixed level blocks mixed_blocks
third_refused = refl

pub erase_goes : told still_two (erase 0 3 60) ≡ None
unfolding differs mixed level blocks mixed_blocks
erase_goes = refl

pub third_goes : told erased (drawing 2 halved) ≡ None
unfolding differs mixed level blocks mixed_blocks
third_goes = refl

pub two_used : used_of (after erased (drawing 2 halved)) ≡ 2
unfolding differs mixed level blocks mixed_blocks
two_used = refl

-- a strap of line 0, and a join of it with itself

pub strap_goes : told two_drawn (strapping 3 60) ≡ None
unfolding differs mixed level blocks mixed_blocks
strap_goes = refl

pub strap_uses : used_of strapped ≡ 3
unfolding differs mixed level blocks mixed_blocks
strap_uses = refl

pub strap_read : Readable strapped 2 3
unfolding differs mixed level blocks mixed_blocks
strap_read = record { at_0 = refl; at_1 = refl; at_2 = refl; at_3 = refl }

pub strap_ends : codes_of strapped 2 ≡ Ok 1 ∷ Ok 0 ∷ Ok 1 ∷ Ok 0 ∷ []
unfolding differs mixed level blocks mixed_blocks
strap_ends = refl

pub join_goes : told strapped (joining 3 60) ≡ None
unfolding differs mixed level blocks mixed_blocks
join_goes = refl

pub count_goes : count_told joined 3 3 60 ≡ None
unfolding differs mixed level blocks mixed_blocks
count_goes = refl

pub none_counted : count_line joined 3 ≡ 0
unfolding differs mixed level blocks mixed_blocks
none_counted = refl

-- a source of two pins that is drawn alone

abbrev pub alone : ℕ → Selection → Plain
alone n f = after new_plan (draw 0 n f 3 3 60)

alone_is : (n : ℕ) (f : Selection) → told new_plan (draw 0 n f 3 3 60) ≡ None → alone n f ≡ with_line new_plan 0 (Some f)
alone_is n f e = ap (λ t. cond (is_none t) (with_line new_plan 0 (Some f)) new_plan) e

pub alone_read : (n : ℕ) (f : Selection) → told new_plan (draw 0 n f 3 3 60) ≡ None → Readable (alone n f) 0 3
alone_read n f e = subst (λ (p : Plain). Readable p 0 3) (sym (alone_is n f e)) (record { at_0 = refl; at_1 = refl; at_2 = refl; at_3 = refl })

pub alone_ends : (n : ℕ) (f : Selection) → told new_plan (draw 0 n f 3 3 60) ≡ None → codes_of (alone n f) 0 ≡ Ok (f 0) ∷ Ok (f 1) ∷ Ok (f 2) ∷ Ok (f 3) ∷ []
alone_ends n f e = ap (λ p. codes_of p 0) (alone_is n f e)

-- the ends 0 1 of one pin, mounted

abbrev pub mounted_codes : List ℕ → Selection
mounted_codes bs = codes bit_code (mounted 2 (pins_of Bits bs) 1 false (bit_at bs))

mount_goes : told new_plan (draw 0 2 (mounted_codes single) 3 3 60) ≡ None
unfolding differs mixed level blocks mixed_blocks
mount_goes = refl

pub mount_settled : (bs : List ℕ) (r : Result (List (Result ℕ Fault)) Fault) → bs ≡ single → (mount_fault 2 (pins_of Bits bs) 1 ≡ None → ReadsFour 2 (mounted_codes bs) r) → MountSettles r
mount_settled bs r e reads = subst (λ (x : List ℕ). mount_fault 2 (pins_of Bits x) 1 ≡ None → ReadsFour 2 (mounted_codes x) r) e reads refl mount_goes
