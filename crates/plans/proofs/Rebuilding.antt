-- A plan holds again after a line was changed.
use Rattle.std.proofs.Common.{◌≡◌, ℕ, zero, suc, cond, ◌⊎◌, List, [], ◌∷◌, length, set, Some, None, Option, sym, ap, ◌∙◌, subst, inl, inr}
use Rattle.faults.specs.declared.fault.Fault.{Fault}
use Rattle.faults.specs.Refusals.{is_none}
use Rattle.model.specs.declared.Branch.{Branch}
use Rattle.model.specs.declared.Node.{Node}
use Rattle.model.specs.Lists.{In, held, LineForLine}
use Rattle.model.specs.Selections.{Selection}
use Rattle.model.specs.Diagrams.{listed, Means, From, Ordered, Reduced, Reaches}
use Rattle.model.specs.Numberings.{numbering}
use Rattle.model.proofs.Reach.{numbering_reaches, ordered_reached, follow_in}
use Rattle.plans.specs.declared.header.Header.{Header}
use Rattle.plans.specs.Plain.{Plain, Call, pins, with_line, told, after, changed}
use Rattle.plans.specs.Holding.{Heads, Holds}
use Rattle.plans.specs.Reaching.{ReachesMany}
use Rattle.plans.specs.Settling.{Put}
use Rattle.plans.proofs.Holdings.{heads_pins}

-- a line may be changed on both sides
pub lines_set : (R : Option Branch → Option Selection → Type 0) (xs : List (Option Branch)) (ys : List (Option Selection)) (d : ℕ) (x : Option Branch) (y : Option Selection)
    → LineForLine R xs ys → R x y → LineForLine R ((set xs d x)) (set ys d y)
lines_set R [] [] d x y l r = tt
lines_set R [] (y' ∷ ys) d x y l r = absurd l
lines_set R (x' ∷ xs) [] d x y l r = absurd l
lines_set R (x' ∷ xs) (y' ∷ ys) zero x y l r = (r, l.1)
lines_set R (x' ∷ xs) (y' ∷ ys) (suc d) x y l r = (l.0, lines_set R xs ys d x y l.1 r)

-- the roots after a line was changed: those that were there, or the new one
pub in_set : (b : Branch) (xs : List (Option Branch)) (d : ℕ) (x : Option Branch) → In b (held ((set xs d x))) → In b (held xs) ⊎ (x ≡ Some b)
in_set b [] d x m = absurd m
in_set b (None ∷ xs) zero None m = inl m
in_set b (Some y ∷ xs) zero None m = inl (inr m)
in_set b (None ∷ xs) zero (Some z) (inl e) = inr (ap Some (sym e))
in_set b (None ∷ xs) zero (Some z) (inr m) = inl m
in_set b (Some y ∷ xs) zero (Some z) (inl e) = inr (ap Some (sym e))
in_set b (Some y ∷ xs) zero (Some z) (inr m) = inl (inr m)
in_set b (None ∷ xs) (suc d) x m = in_set b xs d x m
in_set b (Some y ∷ xs) (suc d) x (inl e) = inl (inl e)
in_set b (Some y ∷ xs) (suc d) x (inr m) = elim (in_set b xs d x m) [ inl q ↦ inl (inr q) | inr q ↦ inr q ]

-- where the roots stand in a reduced diagram, the nodes that they reach are one
module _ (h : Header) (nodes : List Node) (p : Plain) (heads : Heads h p) (whole : length nodes ≡ p.size) (us : List ℕ)
    (ordered : Ordered (pins p) (listed nodes) (λ i. In i us)) (reduced : Reduced (listed nodes) (λ i. In i us))
    (from : (b : Branch) → In b (held h.lines) → From (λ i. In i us) (listed nodes) 0 b) where
  abbrev reachable : List ℕ
  reachable = numbering (listed nodes) (pins p) 0 (held h.lines)

  pub reaches : Reaches (listed nodes) (held h.lines) reachable
  reaches = numbering_reaches (pins p) (listed nodes) us ordered (held h.lines) from

  within : (i : ℕ) → In i reachable → In i us
  within i m =
      let r = reaches.reached i m in
      follow_in (pins p) (listed nodes) (λ i. In i us) ordered r.2.0 0 r.0 i (from r.0 r.1) r.2.1

  pub holds_again : LineForLine (Means (pins p) (listed nodes) p.order) h.lines p.lines → length reachable ≡ h.usage.used → Holds h nodes p
  holds_again lines used = record {
    heads = heads;
    whole = whole;
    reachable = reachable;
    reached = reaches;
    ordered = ordered_reached (pins p) (listed nodes) (λ i. In i us) ordered (held h.lines) reachable from reaches;
    reduced = record { tested = λ i m. reduced.tested i (within i m); shared = λ i k m q. reduced.shared i k (within i m) (within k q) };
    lines = lines;
    used = sym used;
  }

-- a plan whose line was changed holds the plain plan with that line, where the roots stand in a reduced diagram and mean the lines
pub put_holds : (h : Header) (nodes : List Node) (p : Plain) → Heads h p → (d : ℕ) (x : Option Branch) (y : Option Selection) (h' : Header) → Put h nodes d x h' → length nodes ≡ p.size → (us : List ℕ)
    → Ordered (pins p) (listed nodes) (λ i. In i us) → Reduced (listed nodes) (λ i. In i us)
    → ((b : Branch) → In b (held ((set h.lines d x))) → From (λ i. In i us) (listed nodes) 0 b)
    → LineForLine (Means (pins p) (listed nodes) p.order) ((set h.lines d x)) (set p.lines d y)
    → Holds h' nodes (with_line p d y)
put_holds h nodes p heads d x y h' put whole us ordered reduced from lines =
    let from' : (b : Branch) → In b (held (h'.lines)) → From (λ i. In i us) (listed nodes) 0 b = subst (λ (ls : List (Option Branch)). (b : Branch) → In b (held ls) → From (λ i. In i us) (listed nodes) 0 b) (sym put.lines) from in
    let many = subst (λ (n : ℕ). ReachesMany n nodes ((set h.lines d x)) h'.usage.used) (sym (heads_pins h p heads)) put.many in
    let told = many us (record { ordered = ordered; reduced = reduced }) from in
    holds_again h' nodes (with_line p d y) (record { order = heads.order ∙ sym put.order; size = heads.size ∙ sym put.size }) whole us ordered reduced from'
    (subst (λ (ls : List (Option Branch)). LineForLine (Means (pins p) (listed nodes) p.order) ls (set p.lines d y)) (sym put.lines) lines)
    (subst (λ (ls : List (Option Branch)). length (numbering (listed nodes) (pins p) 0 (held ls)) ≡ h'.usage.used) (sym put.lines)
    (told (numbering (listed nodes) (pins p) 0 (held ((set h.lines d x)))) (numbering_reaches (pins p) (listed nodes) us ordered (held ((set h.lines d x))) from)))

-- what a call leaves, by what it tells
pub refused_leaves : (h : Header) (nodes : List Node) (p : Plain) (c : Call) (f : Fault) → told p c ≡ Some f → Holds h nodes p → Holds h nodes (after p c)
refused_leaves h nodes p c f e o = subst (λ (q : Plain). Holds h nodes q) (sym (ap (λ t. cond (is_none t) (changed p c) p) e)) o

pub accepted_leaves : (h : Header) (nodes : List Node) (p : Plain) (c : Call) → told p c ≡ None → Holds h nodes (changed p c) → Holds h nodes (after p c)
accepted_leaves h nodes p c e o = subst (λ (q : Plain). Holds h nodes q) (sym (ap (λ t. cond (is_none t) (changed p c) p) e)) o
