-- Comparing two lines.
use Rattle.std.proofs.Common.{◌≡◌, ℕ, ◌<◌, Bool, true, false, not, List, get_or, Some, None, Err, Decides, Option, Result, nat_lt, sym, ap, ◌∙◌, subst, arith}
use Rattle.std.proofs.lemmas.Bool.Decides.{nat_tests}
use Rattle.faults.specs.declared.fault.Fault.{Fault}
use Rattle.faults.specs.declared.fault.Ground.TheVariants.{NoLine, LineEmpty}
use Rattle.faults.specs.Refusals.{at, refuse_if, or_else}
use Rattle.model.specs.declared.Branch.{Branch}
use Rattle.model.specs.declared.Node.{Node}
use Rattle.model.specs.Selections.{Selection, Agrees, Alike}
use Rattle.model.specs.Diagrams.{listed}
use Rattle.model.proofs.Reach.{one_root}
use Rattle.plans.specs.declared.header.Header.{Header}
use Rattle.plans.specs.Plain.{Plain, pins, line, line_empty, no_line, is_held, same_refusal, same_told}
use Rattle.plans.specs.Holding.{Holds, Compares}
use Rattle.plans.proofs.Holdings.{order_is, roots_from, held_line, empty_line, root_stands}

line_within : (d : ℕ) → None ≡ no_line d None → d < 32
line_within d e = grind (arith, nat_tests)

-- past a line's number
line_passed : (d : ℕ) (o : Option Fault) → None ≡ no_line d None → no_line d o ≡ o
line_passed d o e = let l = line_within d e in grind (arith, nat_tests)

numbers_passed : (a b : ℕ) → None ≡ no_line a None → None ≡ no_line b None → same_refusal a b ≡ None
numbers_passed a b left right = line_passed a (no_line b None) left ∙ sym right

pub not_turned_same : (a b : ℕ) → None ≡ no_line a None → None ≡ no_line b None → (r : Result Bool Fault) (f : Fault) → same_refusal a b ≡ Some f → r ≡ Err f
not_turned_same a b left right r f e = let q = numbers_passed a b left right in let z : ◌≡◌ {A = ℕ} 0 1 = cc in absurd (omega arith)

refused_if : (t : Bool) (g f : Fault) (o : Option Fault) → Some f ≡ refuse_if t g None → refuse_if t g o ≡ Some f
refused_if true g f o e = sym e
refused_if false g f o e = let z : ◌≡◌ {A = ℕ} 0 1 = cc in absurd (omega arith)

-- a comparison that is refused for a line's number
module _ (h : Header) (a b : ℕ) where
  same_turned : (f : Fault) → same_refusal a b ≡ Some f → Compares h a b (Err f)
  same_turned f e = record {
    turned = λ g k. ap Err (let q : Some f ≡ Some g = sym e ∙ k in cc);
    tells = λ nodes p o. ap (λ t. or_else t (line_empty p a (line_empty p b None))) e;
  }

  pub left_above : (f : Fault) → Some f ≡ no_line a None → Compares h a b (Err f)
  left_above f e = same_turned f (refused_if (nat_lt 31 a) (at NoLine a) f (no_line b None) e)

  pub right_above : (f : Fault) → None ≡ no_line a None → Some f ≡ no_line b None → Compares h a b (Err f)
  right_above f left e = same_turned f (line_passed a (no_line b None) left ∙ sym e)

module _ (h : Header) (nodes : List Node) (p : Plain) (o : Holds h nodes p) (a b : ℕ) (left : None ≡ no_line a None) (right : None ≡ no_line b None) where
  passed : same_told p a b ≡ line_empty p a (line_empty p b None)
  passed = ap (λ t. or_else t (line_empty p a (line_empty p b None))) (numbers_passed a b left right)

  abbrev line_empty_of : ℕ → Option Selection → Option Fault → Option Fault
  line_empty_of d l x = refuse_if (not (is_held l)) (at LineEmpty d) x

  asked : (d : ℕ) (l : Option Selection) (x : Option Fault) → line p d ≡ l → line_empty p d x ≡ line_empty_of d l x
  asked d l x e = ap (λ z. line_empty_of d z x) e

  pub left_empty : (f : Fault) → get_or h.lines a None ≡ None → f ≡ at LineEmpty a → same_told p a b ≡ Some f
  left_empty f e q = passed ∙ asked a None (line_empty p b None) (empty_line h nodes p o a (line_within a left) e) ∙ ap Some (sym q)

  module _ (x : Branch) (e : get_or h.lines a None ≡ Some x) where
    pub right_empty : (f : Fault) → get_or h.lines b None ≡ None → f ≡ at LineEmpty b → same_told p a b ≡ Some f
    right_empty f k q =
        let r = held_line h nodes p o a (line_within a left) x e in
        passed ∙ asked a (Some r.0) (line_empty p b None) r.1 ∙ asked b None None (empty_line h nodes p o b (line_within b right) k) ∙ ap Some (sym q)

    pub both_held : (y : Branch) (is : Bool) → get_or h.lines b None ≡ Some y → Decides is (x ≡ y) → (same_told p a b ≡ None) × Decides is (Alike (pins p) (line p a) (line p b))
    both_held y is k d =
        let r = held_line h nodes p o a (line_within a left) x e in
        let s = held_line h nodes p o b (line_within b right) y k in
        let n = pins p in
        let one = one_root n p.order (order_is h nodes p o) (listed nodes) o.reachable o.ordered o.reduced x y
        (roots_from h nodes p o x (root_stands h nodes p o a (line_within a left) x e)) (roots_from h nodes p o y (root_stands h nodes p o b (line_within b right) y k)) in
        let there : is ≡ true → Agrees n r.0 s.0 = λ t z l. sym (r.2 z l) ∙ one.0 (d.0 t) z l ∙ s.2 z l in
        let back : Agrees n r.0 s.0 → is ≡ true = λ g. d.1 (one.1 (λ z l. r.2 z l ∙ g z l ∙ sym (s.2 z l))) in
        (passed ∙ asked a (Some r.0) (line_empty p b None) r.1 ∙ asked b (Some s.0) None s.1, alike n (line p a) (line p b) r.0 s.0 is r.1 s.1 (there, back))
      where
        alike : (n : ℕ) (l m : Option Selection) (f g : Selection) (is : Bool) → l ≡ Some f → m ≡ Some g → Decides is (Agrees n f g) → Decides is (Alike n l m)
        alike n l m f g is p q d = subst (λ (y : Option Selection). Decides is (Alike n l y)) (sym q) (subst (λ (x : Option Selection). Decides is (Alike n x (Some g))) (sym p) d)
