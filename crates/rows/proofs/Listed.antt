-- What is listed after a row, and when two listings are equal.
use Rattle.std.proofs.Common.{◌≡◌, ℕ, Bool, true, false, cond, ◌||◌, ltb, ◌↔◌, List, [], ◌∷◌, ◌++◌, length, take, drop, Some, None, Ok, Decides, Option, Result, sym, refl, ap, ◌∙◌, subst, arith}
use Rattle.std.proofs.lemmas.List.{take_at}
use Rattle.faults.specs.declared.fault.Fault.{Fault}
use Rattle.faults.specs.declared.fault.Ground.TheVariants as ground
use Rattle.faults.specs.Refusals.{at, refuse_if, or_else, is_none}
use Rattle.model.specs.Orders.{Order}
use Rattle.plans.specs.Orders.{misplaced_below}
use Rattle.plans.specs.Plain.{Plain, Call, draw, join, strap, erase, pins, empty_plan, make_told, told, changed, after}
use Rattle.plans.specs.Listing.{listing_of, list_told}
use Rattle.plans.proofs.Naming.{is_order}
use Rattle.plans.proofs.Listed.{listings_tell}
use Rattle.rows.specs.Rows.{Lent, runs}
use Rattle.rows.specs.Laws.{plain_after, listing_told, either_told, written, ListingIsTheLayout, RowsCompared}
use Rattle.faults.proofs.Refusing.{or_left}

-- a row leaves the order as it is

cond_order : (b : Bool) (q p : Plain) → q.order ≡ p.order → (cond b q p).order ≡ p.order
cond_order true q p e = e
cond_order false q p e = refl

changed_order : (p : Plain) (c : Call) → (changed p c).order ≡ p.order
changed_order p (draw d m f nodes tree work) = refl
changed_order p (join decodes g a b d nodes work) = refl
changed_order p (strap a pin high d nodes work) = refl
changed_order p (erase d nodes work) = refl

runs_order : (p : Plain) (cs : List Call) → (runs p cs).order ≡ p.order
runs_order p [] = refl
runs_order p (c ∷ cs) = runs_order (after p c) cs ∙ cond_order (is_none (told p c)) (changed p c) p (changed_order p c)

-- an order in which a plan is made names each of its pins once

not_refused : (b : Bool) (f : Fault) (o : Option Fault) → refuse_if b f o ≡ None → o ≡ None
not_refused true f o e = let z : ◌≡◌ {A = ℕ} 0 1 = cc in absurd (omega arith)
not_refused false f o e = e

made_order : (order : List ℕ) (size : ℕ) → make_told order size ≡ None → Order (length order) order
made_order order size e =
    is_order order (or_left (misplaced_below order (length order)) (refuse_if (ltb size 1 || ltb 4096 size) (at ground.NodeTable size) None)
    (not_refused (ltb (length order) 1 || ltb 20 (length order)) (at ground.OrderLength (length order)) _ e))

-- A listing that is not refused stands at the front of its buffer.

module _ (order : List ℕ) (l : Lent) (p : Plain) (buffer : List ℕ) (k : ℕ) (buffer' : List ℕ) (d : ListingIsTheLayout order l p buffer (Ok k) buffer') where
  stands : buffer' ≡ listing_of p ++ drop (length (listing_of p)) buffer
  stands = d.wrote ∙ ap (λ (o : Option Fault). written o (listing_of p) buffer) d.told.0

  front : take k buffer' ≡ listing_of p
  front = ap (take k) stands ∙ take_at (listing_of p) (drop (length (listing_of p)) buffer) k (sym d.told.1)

-- Two rows.

decides_both : {P Q : Type 0} (r : Bool) → P ↔ Q → Decides r P → Decides r Q
decides_both r e d = (λ t. e.0 (d.0 t), λ q. d.1 (e.1 q))

pub plain_order : (order : List ℕ) (l : Lent) (calls : Lent → List Call) → (plain_after order l calls).order ≡ order
plain_order order l calls = runs_order (empty_plan order l.nodes) (calls l)

module _ (order : List ℕ) (l m : Lent) (p q : Plain) (buffer other : List ℕ) where
  module _ (k : ℕ) (buffer' : List ℕ) (a : ListingIsTheLayout order l p buffer (Ok k) buffer') (other' : List ℕ) where
    two_decides : either_told order l m p q (length buffer) (length other) ≡ listing_told order m q (length other)
    two_decides = ap (λ (o : Option Fault). or_else o (listing_told order m q (length other))) a.told.0

    wrote_two : {r : Result ℕ Fault} → ListingIsTheLayout order m q other r other' → other' ≡ written (either_told order l m p q (length buffer) (length other)) (listing_of q) other
    wrote_two b = b.wrote ∙ sym (ap (λ (o : Option Fault). written o (listing_of q) other) two_decides)

    pub compared : p.order ≡ order → q.order ≡ order → (j : ℕ) (same : Bool) → ListingIsTheLayout order m q other (Ok j) other'
        → Decides same (take k buffer' ≡ take j other') → RowsCompared order l m p q buffer other (Ok same) buffer' other'
    compared e g j same b d =
        let named : Order (pins p) p.order = subst (λ (ps : List ℕ). Order (length ps) ps) (sym e) (made_order order l.nodes (or_left (make_told order l.nodes) (list_told p l.nodes l.work (length buffer)) a.told.0)) in
        let x = front order l p buffer k buffer' a in
        let y = front order m q other j other' b in
        let bytes : Decides same (listing_of p ≡ listing_of q) = (λ t. sym x ∙ d.0 t ∙ y, λ t. d.1 (x ∙ t ∙ sym y)) in
        record {
          told = (two_decides ∙ b.told.0, record { bytes = bytes; lines = decides_both same (listings_tell.apart p q named (e ∙ sym g)) bytes });
          wrote = a.wrote;
          wrote_other = wrote_two b;
        }
