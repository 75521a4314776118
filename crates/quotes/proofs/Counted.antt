-- Quoting: the plan is made, the map is drawn, and its line is counted.
use Rattle.std.proofs.Common.{◌≡◌, ℕ, zero, suc, ◌≤◌, Bool, true, false, cond, ◌&&◌, List, length, Some, None, Ok, Err, Result, sym, refl, ap, ◌∙◌, subst, inl, inr, arith, le-ltb}
use Rattle.std.proofs.lemmas.Bool.Decides.{eqb_tells}
use Rattle.faults.specs.declared.fault.Fault.{Fault}
use Rattle.faults.specs.Refusals.{or_else, is_none}
use Rattle.model.specs.declared.Node.{Node}
use Rattle.files.specs.declared.format.Format.TheVariants.{Bits}
use Rattle.files.specs.Formats.{pins_of}
use Rattle.files.specs.Verdict.{fault}
use Rattle.ends.specs.Codes.{bit_code}
use Rattle.readers.specs.Selections.{bit_at}
use Rattle.trees.specs.Mixed.{codes}
use Rattle.plans.specs.declared.header.Header.{Header}
use Rattle.plans.specs.Plain.{pins, empty_plan, make_told, told, after, changed, input_told, state_told, count_told, work_size}
use Rattle.plans.specs.Holding.{Holds, Did, Counts}
use Rattle.plans.proofs.Drawings.{draw_work}
use Rattle.quotes.specs.Quotes.{address_order, quote_plan, quote_call, quote_told, Drawn, Quoted}
use Rattle.faults.proofs.Refusing.{or_left}

-- a test of the numbers from 1 to k, computed at once
every : (ℕ → Bool) → ℕ → Bool
every p zero = true
every p (suc k) = p (suc k) && every p k

every_at : (p : ℕ → Bool) (k : ℕ) → every p k ≡ true → (i : ℕ) → 1 ≤ i → i ≤ k → p i ≡ true
unfolding every
every_at p zero e i l h = absurd (omega arith)
every_at p (suc k) e i l h =
    elim (eqb_tells i (suc k)) [
      | inl t ↦ ap p t.1 ∙ both_left (p (suc k)) (every p k) e
      | inr t ↦ every_at p k (both_right (p (suc k)) (every p k) e) i l (omega (arith, t.1))
    ]
  where
    both_left : (a b : Bool) → (a && b) ≡ true → a ≡ true
    both_left true b e = refl
    both_left false b e = e

    both_right : (a b : Bool) → (a && b) ≡ true → b ≡ true
    both_right true b e = e
    both_right false b e = let z : ◌≡◌ {A = ℕ} 0 1 = ap (λ (b : Bool). cond b 1 0) e in absurd (omega arith)

fine : ℕ → Bool
fine n = is_none (make_told (address_order n) 128)

all_fine : every fine 20 ≡ true
unfolding every fine
all_fine = refl

-- a plan can be made in the order of the addresses
pub address_made : (n : ℕ) → 1 ≤ n → n ≤ 20 → (f : Fault) → make_told (address_order n) 128 ≡ Some f → ⊥
unfolding fine
address_made n l h f e =
    let z : ◌≡◌ {A = ℕ} 0 1 = ap (λ (b : Bool). cond b 1 0) (sym (ap is_none e) ∙ every_at fine 20 all_fine n l h) in omega arith

module _ (bs : List ℕ) where
  draw_decides : fault Bits bs ≡ None → quote_told bs ≡ told (quote_plan bs) (quote_call bs)
  draw_decides clean = ap (λ o. or_else o (told (quote_plan bs) (quote_call bs))) clean

  pub quoted : (r : Result ℕ Fault) → fault Bits bs ≡ None → Drawn bs r → Quoted bs r
  quoted (Ok k) clean d = (draw_decides clean ∙ d.0, d.1)
  quoted (Err f) clean d = draw_decides clean ∙ d

  module _ (accepted : told (quote_plan bs) (quote_call bs) ≡ None) where
    left : after (quote_plan bs) (quote_call bs) ≡ changed (quote_plan bs) (quote_call bs)
    left = ap (λ t. cond (is_none t) (changed (quote_plan bs) (quote_call bs)) (quote_plan bs)) accepted

    enough : work_size (pins (quote_plan bs)) 128 ≤ 6760
    enough = draw_work (pins (quote_plan bs)) 128 0 (pins_of Bits bs) (codes bit_code (bit_at bs)) 128 512 6760 (sym (or_left (input_told (quote_plan bs) (quote_call bs)) (state_told (quote_plan bs) (quote_call bs)) accepted))

    counts : count_told (after (quote_plan bs) (quote_call bs)) 0 128 6760 ≡ None
    counts = ap (λ p. count_told p 0 128 6760) left ∙ simp (le-ltb 6760 (work_size (pins (quote_plan bs)) 128) enough)

    pub counted : (r : Result ℕ Fault) (h : Header) (nodes : List Node) → length nodes ≡ 128 → Holds h nodes (after (quote_plan bs) (quote_call bs)) → Counts h nodes 0 6760 r → Drawn bs r
    counted (Ok k) h nodes l o c = (accepted, (c.tells (after (quote_plan bs) (quote_call bs)) o).1)
    counted (Err f) h nodes l o c =
        let t = c.tells (after (quote_plan bs) (quote_call bs)) o in
        let e : count_told (after (quote_plan bs) (quote_call bs)) 0 128 6760 ≡ Some f = ap (λ x. count_told (after (quote_plan bs) (quote_call bs)) 0 x 6760) (sym l) ∙ t in
        let n = counts in
        let z : ◌≡◌ {A = ℕ} 0 1 = cc in
        absurd (omega arith)

-- the same for an order that is that of the addresses
module _ (bs order : List ℕ) (is : order ≡ address_order (pins_of Bits bs)) where
  pub never_refused : 1 ≤ pins_of Bits bs → pins_of Bits bs ≤ 20 → (f : Fault) → make_told order 128 ≡ Some f → ⊥
  never_refused l h f e = address_made (pins_of Bits bs) l h f (ap (λ ps. make_told ps 128) (sym is) ∙ e)

  module _ (h : Header) (nodes : List Node) (holds : Holds h nodes (empty_plan order 128)) (h' : Header) (nodes' : List Node) where
    begun : Holds h nodes (quote_plan bs)
    begun = subst (λ (ps : List ℕ). Holds h nodes (empty_plan ps 128)) is holds

    pub drawn_refused : (f : Fault) → Did h nodes (quote_call bs) (Err f) h' nodes' → told (quote_plan bs) (quote_call bs) ≡ Some f
    drawn_refused f d = sym (d.tells (quote_plan bs) begun)

    pub drawn_counted : Did h nodes (quote_call bs) (Ok tt) h' nodes' → length nodes' ≡ 128 → (w : ℕ) → w ≡ 6760 → (r : Result ℕ Fault) → Counts h' nodes' 0 w r → Drawn bs r
    drawn_counted d l w e r c = counted bs (sym (d.tells (quote_plan bs) begun)) r h' nodes' l (d.leaves (quote_plan bs) begun) (subst (λ (x : ℕ). Counts h' nodes' 0 x r) e c)
