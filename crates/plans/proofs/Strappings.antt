-- Strapping a line.
use Rattle.std.proofs.Common.{◌≡◌, ℕ, ◌+◌, ◌*◌, ◌<◌, ◌≤◌, Bool, not, List, length, get_or, Some, None, Err, Option, Result, sym, refl, ap, ◌∙◌, subst, ap₂, arith}
use Rattle.std.proofs.lemmas.Bool.Decides.{nat_tests}
use Rattle.faults.specs.declared.fault.Fault.{Fault}
use Rattle.faults.specs.declared.fault.Ground.TheVariants.{LineEmpty, LineTaken}
use Rattle.faults.specs.Refusals.{at, refuse_if}
use Rattle.model.specs.declared.Branch.{Branch}
use Rattle.model.specs.declared.Node.{Node}
use Rattle.model.specs.Lists.{In, held}
use Rattle.model.specs.Orders.{place_in}
use Rattle.model.specs.Joins.{strapped, strap as strap_tree}
use Rattle.model.specs.Selections.{Selection, view_of}
use Rattle.model.specs.Diagrams.{listed, tree}
use Rattle.model.proofs.Views.{straps}
use Rattle.model.proofs.Walks.{tree_means}
use Rattle.growths.specs.Growths.{Grows}
use Rattle.plans.specs.declared.header.Header.{Header}
use Rattle.plans.specs.Plain.{Plain, Call, strap, pins, line, is_held, with_line, strap_line, input_refusal, strap_refusal, too_many_parts}
use Rattle.plans.specs.Holding.{Holds, Did, order_of}
use Rattle.plans.specs.Settling.{Settles}
use Rattle.plans.proofs.Holdings.{heads_pins, held_line, empty_line, root_stands, order_is}
use Rattle.plans.proofs.Changing.{state_did, work_enough, grown_beside, settled_call}

-- what the arguments have in hand
module _ (n size a pin d nodes work : ℕ) (clear : None ≡ strap_refusal n size a pin d nodes work) where
  pub strap_from : a < 32
  strap_from = grind (arith, nat_tests)

  pub strap_to : d < 32
  strap_to = grind (arith, nat_tests)

  pub strap_pin : pin < n
  strap_pin = grind (arith, nat_tests)

  pub strap_tables : (nodes ≡ size) × (3 * size + 2 ≤ work)
  strap_tables = (grind (arith, nat_tests), work_enough n size work (grind (arith, nat_tests)))

module _ (h : Header) (nodes : List Node) (a pin : ℕ) (high : Bool) (d work : ℕ) (clear : None ≡ input_refusal h.pins h.size (strap a pin high d (length nodes) work)) where
  abbrev call : Call
  call = strap a pin high d (length nodes) work

  from : a < 32
  from = strap_from h.pins h.size a pin d (length nodes) work clear

  to : d < 32
  to = strap_to h.pins h.size a pin d (length nodes) work clear

  -- the grounds of the lines, by what the lines hold
  abbrev grounds : Plain → Option Selection → Option Selection → Option Fault
  grounds p x y = refuse_if (not (is_held x)) (at LineEmpty a) (refuse_if (is_held y) (at LineTaken d) (too_many_parts p d (strap_line (pins p) pin high x) None))

  pub strap_empty : (g : Fault) → get_or h.lines a None ≡ None → g ≡ at LineEmpty a → Did h nodes call (Err g) h nodes
  strap_empty g e q =
      state_did h nodes nodes call g clear
      (λ p o. ap (λ x. grounds p x (line p d)) (empty_line h nodes p o a from e) ∙ ap Some (sym q)) (λ p o. o) (λ p o i r. refl)

  module _ (b : Branch) (held_a : get_or h.lines a None ≡ Some b) where
    pub strap_taken : (x : Branch) (g : Fault) → get_or h.lines d None ≡ Some x → g ≡ at LineTaken d → Did h nodes call (Err g) h nodes
    strap_taken x g e q =
        state_did h nodes nodes call g clear
        (λ p o. ap (λ l. grounds p l (line p d)) (held_line h nodes p o a from b held_a).1 ∙ ap (λ l. grounds p (Some (held_line h nodes p o a from b held_a).0) l) (held_line h nodes p o d to x e).1 ∙ ap Some (sym q))
        (λ p o. o) (λ p o i r. refl)

    pub strapped_line : get_or h.lines d None ≡ None → (nodes' : List Node) (ws : List ℕ) → length ws ≡ work → (root : Option Branch) (r : Result (Unit {0}) Fault) (h' : Header)
        → (In b (held h.lines) → Grows h.pins nodes ws h.lines (strap_tree (place_in (order_of h) pin) high (tree (listed nodes) h.pins 0 b)) nodes' root)
        → Settles h nodes' d root r h' → Did h nodes call r h' nodes'
    strapped_line vacant nodes' ws long root r h' grows s =
        settled_call h nodes call d clear to vacant nodes' root r h' s
        (λ p o. let f = (held_line h nodes p o a from b held_a).0 in
        let e = (held_line h nodes p o a from b held_a).1 in
        record {
          new = strapped (pins p) pin high f;
          tells = ap (λ l. grounds p l (line p d)) e ∙ ap (λ l. grounds p (Some f) l) (empty_line h nodes p o d to vacant);
          puts = ap (λ l. with_line p d (strap_line (pins p) pin high l)) e;
          grew = grown_beside h nodes p o ws nodes' root enough (strap_tree (place_in (order_of h) pin) high (tree (listed nodes) h.pins 0 b)) (view_of (pins p) p.order (strapped (pins p) pin high f))
              (same p o) (grows (root_stands h nodes p o a from b held_a));
        })
      where
        enough : 3 * length nodes + 2 ≤ length ws
        enough =
            let t = strap_tables h.pins h.size a pin d (length nodes) work clear in
            omega (arith, t, long)

        same : (p : Plain) (o : Holds h nodes p) → strap_tree (place_in (order_of h) pin) high (tree (listed nodes) h.pins 0 b) ≡ view_of (pins p) p.order (strapped (pins p) pin high (held_line h nodes p o a from b held_a).0)
        same p o =
            let k = held_line h nodes p o a from b held_a in
            let n = pins p in
            let small : pin < n = subst (λ (x : ℕ). pin < x) (sym (heads_pins h p o.heads)) (strap_pin h.pins h.size a pin d (length nodes) work clear) in
            let means : tree (listed nodes) n 0 b ≡ view_of n p.order k.0 = (tree_means n p.order (order_is h nodes p o) (listed nodes) b k.0).1 k.2 in
            ap₂ (λ ps x. strap_tree (place_in ps pin) high (tree (listed nodes) x 0 b)) (sym o.heads.order) (sym (heads_pins h p o.heads))
            ∙ ap (strap_tree (place_in p.order pin) high) means ∙ sym (straps n p.order (order_is h nodes p o) pin high k.0 small)
