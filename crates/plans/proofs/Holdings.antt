-- What a held plain plan says of the header and the table.
use Rattle.std.proofs.Common.{◌≡◌, ℕ, zero, suc, ◌<◌, not, List, [], ◌∷◌, length, get_or, Some, None, Option, sym, refl, ap, ◌∙◌, subst, ap₂, inl, inr, arith, length-take}
use Rattle.faults.specs.declared.fault.Fault.{Fault}
use Rattle.faults.specs.declared.fault.Ground.TheVariants.{LineEmpty}
use Rattle.faults.specs.Refusals.{at, or_else, refuse_if}
use Rattle.model.specs.declared.Branch.{Branch}
use Rattle.model.specs.declared.Branch.TheVariants.{End as end, Node as node}
use Rattle.model.specs.declared.Node.{Node}
use Rattle.model.specs.Lists.{In, held, LineForLine}
use Rattle.model.specs.Orders.{Order}
use Rattle.model.specs.Selections.{Selection, Agrees}
use Rattle.model.specs.Diagrams.{Table, listed, meant, Means, From}
use Rattle.tables.specs.Markings.{Diagram}
use Rattle.plans.specs.declared.header.Header.{Header}
use Rattle.plans.specs.Orders.{misplaced_below}
use Rattle.plans.specs.Plain.{Plain, pins, line, line_empty, is_held}
use Rattle.plans.specs.Holding.{Heads, Holds, order_of}
use Rattle.plans.proofs.Naming.{is_order}
use Rattle.faults.proofs.Refusing.{none_of}

pub none_some : {A : Type 0} (o : Option A) (x : A) → None ≡ o → o ≡ Some x → ⊥
none_some o x p q = let z : ◌≡◌ {A = ℕ} 0 1 = cc in omega arith

-- the order in a header
pub order_length : (h : Header) → length (order_of h) ≡ h.pins
order_length h = length-take h.pins h.order ∙ (let a = h.few in let b = h.room in omega arith)

pub order_names : (h : Header) → Order (length (order_of h)) (order_of h)
order_names h = is_order (order_of h) (ap (misplaced_below (order_of h)) (order_length h) ∙ none_of (misplaced_below (order_of h) h.pins) h.named)

pub heads_pins : (h : Header) (p : Plain) → Heads h p → pins p ≡ h.pins
heads_pins h p o = ap length o.order ∙ order_length h

-- a refusal by pins and table length is that of the header
pub at_header : (h : Header) (p : Plain) → Heads h p → (F : ℕ → ℕ → Option Fault) → F (pins p) p.size ≡ F h.pins h.size
at_header h p o F = ap₂ F (heads_pins h p o) o.size

-- nothing that the arguments are refused for is told
pub not_turned : {A : Type 0} (h : Header) (p : Plain) → Heads h p → (F : ℕ → ℕ → Option Fault) → None ≡ F h.pins h.size → (f : Fault) → F (pins p) p.size ≡ Some f → A
not_turned h p o F n f e = absurd (none_some (F (pins p) p.size) f (n ∙ sym (at_header h p o F)) e)

-- line for line, at a line
for_line : (R : Option Branch → Option Selection → Type 0) (xs : List (Option Branch)) (ys : List (Option Selection)) → LineForLine R xs ys → (d : ℕ) → d < length xs
    → R ((get_or xs d None)) (get_or ys d None)
for_line R [] ys l d h = absurd (omega arith)
for_line R (x ∷ xs) [] l d h = absurd l
for_line R (x ∷ xs) (y ∷ ys) l zero h = l.0
for_line R (x ∷ xs) (y ∷ ys) l (suc d) h = for_line R xs ys l.1 d (omega arith)

means_some : (n : ℕ) (T : Table) (order : List ℕ) (b : Branch) (l : Option Selection) → Means n T order (Some b) l → (f : Selection) × (l ≡ Some f) × Agrees n (meant n T order b) f
means_some n T order b None m = absurd m
means_some n T order b (Some f) m = (f, refl, m)

means_none : (n : ℕ) (T : Table) (order : List ℕ) (l : Option Selection) → Means n T order None l → l ≡ None
means_none n T order None m = refl
means_none n T order (Some f) m = absurd m

-- a held root stands in the list
root_in : (b : Branch) (xs : List (Option Branch)) (d : ℕ) → d < length xs → get_or xs d None ≡ Some b → In b (held xs)
root_in b [] d h e = absurd (omega arith)
root_in b (None ∷ xs) zero h e = let z : ◌≡◌ {A = ℕ} 0 1 = cc in absurd (omega arith)
root_in b (Some x ∷ xs) zero h e = inl (let q : b ≡ x = cc in q)
root_in b (None ∷ xs) (suc d) h e = root_in b xs d (omega arith) e
root_in b (Some x ∷ xs) (suc d) h e = inr (root_in b xs d (omega arith) e)

module _ (h : Header) (nodes : List Node) (p : Plain) (o : Holds h nodes p) where
  pub order_is : Order (pins p) p.order
  order_is = subst (λ (ps : List ℕ). Order (length ps) ps) (sym o.heads.order) (order_names h)

  pub diagram : Diagram (pins p) nodes o.reachable
  diagram = record { ordered = o.ordered; reduced = o.reduced }

  -- the roots stand among the reachable nodes
  pub roots_from : (b : Branch) → In b (held h.lines) → From (λ i. In i o.reachable) (listed nodes) 0 b
  roots_from (end c) m = tt
  roots_from (node i) m = (o.reached.all i (node i, m, ([], refl)), omega arith)

  module _ (d : ℕ) (l : d < 32) where
    inside : d < length h.lines
    inside = let e = h.lined in omega arith

    pub held_line : (b : Branch) → get_or h.lines d None ≡ Some b → (f : Selection) × (line p d ≡ Some f) × Agrees (pins p) (meant (pins p) (listed nodes) p.order b) f
    held_line b e =
        means_some (pins p) (listed nodes) p.order b (line p d)
        (subst (λ (x : Option Branch). Means (pins p) (listed nodes) p.order x (line p d)) e (for_line (Means (pins p) (listed nodes) p.order) h.lines p.lines o.lines d inside))

    pub empty_line : get_or h.lines d None ≡ None → line p d ≡ None
    empty_line e =
        means_none (pins p) (listed nodes) p.order (line p d)
        (subst (λ (x : Option Branch). Means (pins p) (listed nodes) p.order x (line p d)) e (for_line (Means (pins p) (listed nodes) p.order) h.lines p.lines o.lines d inside))

    pub root_stands : (b : Branch) → get_or h.lines d None ≡ Some b → In b (held h.lines)
    root_stands b e = root_in b h.lines d inside e

-- the refusal of a line that should be held
pub empty_told : (p : Plain) (d : ℕ) (I : Option Fault) → I ≡ None → line p d ≡ None → or_else I (line_empty p d None) ≡ Some (at LineEmpty d)
empty_told p d I i e = ap (λ x. or_else x (line_empty p d None)) i ∙ ap (λ l. refuse_if (not (is_held l)) (at LineEmpty d) None) e

pub held_told : (p : Plain) (d : ℕ) (I : Option Fault) (f : Selection) → I ≡ None → line p d ≡ Some f → or_else I (line_empty p d None) ≡ None
held_told p d I f i e = ap (λ x. or_else x (line_empty p d None)) i ∙ ap (λ l. refuse_if (not (is_held l)) (at LineEmpty d) None) e
