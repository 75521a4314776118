-- Reading a line.
use Rattle.std.proofs.Common.{◌≡◌, ℕ, ◌^◌, ◌<◌, ◌≤◌, List, length, get_or, Some, None, sym, ap, ◌∙◌, subst, arith}
use Rattle.std.proofs.lemmas.Bool.Decides.{nat_tests}
use Rattle.faults.specs.declared.fault.Fault.{Fault}
use Rattle.faults.specs.declared.fault.Ground.TheVariants.{LineEmpty}
use Rattle.faults.specs.Refusals.{at}
use Rattle.model.specs.declared.Branch.{Branch}
use Rattle.model.specs.declared.Node.{Node}
use Rattle.model.specs.Lists.{In}
use Rattle.model.specs.Diagrams.{listed, meant, walk}
use Rattle.plans.specs.declared.header.Header.{Header}
use Rattle.plans.specs.Plain.{Plain, pins, line, code_of, read_refusal, read_told}
use Rattle.plans.specs.Holding.{Holds, order_of}
use Rattle.plans.proofs.Holdings.{order_length, order_names, at_header, held_line, empty_line, empty_told, held_told}

read_within : (n size d a k : ℕ) → None ≡ read_refusal n size d a k → (d < 32) × (a < 2 ^ n)
read_within n size d a k e = (grind (arith, nat_tests), grind (arith, nat_tests))

module _ (h : Header) (nodes : List Node) (p : Plain) (o : Holds h nodes p) (d a k : ℕ) (clear : None ≡ read_refusal h.pins h.size d a k) where
  clear_p : read_refusal (pins p) p.size d a k ≡ None
  clear_p = at_header h p o.heads (λ n size. read_refusal n size d a k) ∙ sym clear

  inside : (d < 32) × (a < 2 ^ pins p)
  inside = read_within (pins p) p.size d a k (sym clear_p)

  pub read_empty : (f : Fault) → get_or h.lines d None ≡ None → f ≡ at LineEmpty d → read_told p d a k ≡ Some f
  read_empty f e q = empty_told p d (read_refusal (pins p) p.size d a k) clear_p (empty_line h nodes p o d inside.0 e) ∙ ap Some (sym q)

  pub read_held : (b : Branch) (c : ℕ) → get_or h.lines d None ≡ Some b → c ≡ meant (length (order_of h)) (listed nodes) (order_of h) b a → (read_told p d a k ≡ None) × (c ≡ code_of (line p d) a)
  read_held b c e w =
      let r = held_line h nodes p o d inside.0 b e in
      let q : meant (length (order_of h)) (listed nodes) (order_of h) b a ≡ meant (pins p) (listed nodes) p.order b a = ap (λ (ps : List ℕ). meant (length ps) (listed nodes) ps b a) (sym o.heads.order) in
      (held_told p d (read_refusal (pins p) p.size d a k) r.0 clear_p r.1, w ∙ q ∙ r.2 a inside.1 ∙ sym (ap (λ l. code_of l a) r.1))

-- what is read along the header's order
pub read_order : (h : Header) (nodes : List Node) (b : Branch) (a : ℕ) (order : List ℕ) (c : ℕ) → order ≡ order_of h
    → (length order ≤ 20 → ((p : ℕ) → In p order → p < length order) → c ≡ walk (length order) (listed nodes) order 0 b a) → c ≡ meant (length (order_of h)) (listed nodes) (order_of h) b a
read_order h nodes b a order c e w =
    subst (λ (ps : List ℕ). (length ps ≤ 20 → ((p : ℕ) → In p ps → p < length ps) → c ≡ walk (length ps) (listed nodes) ps 0 b a) → c ≡ meant (length (order_of h)) (listed nodes) (order_of h) b a) (sym e)
    (λ f. f (let l = order_length h in let k = h.few in omega arith) (order_names h).small) w
