-- Calls that put a grown root on an empty line.
use Rattle.std.proofs.Common.{◌≡◌, ℕ, ◌+◌, ◌*◌, ◌<◌, ◌≤◌, List, length, get_or, Some, None, Ok, Err, Option, Result, sym, refl, ap, ◌∙◌, subst, mul-le-mul_right, arith}
use Rattle.faults.specs.declared.fault.Fault.{Fault}
use Rattle.faults.specs.declared.fault.Ground.TheVariants.{Parts}
use Rattle.faults.specs.Refusals.{at, or_else, refuse_if}
use Rattle.model.specs.declared.Branch.{Branch}
use Rattle.model.specs.declared.Node.{Node}
use Rattle.model.specs.Lists.{held}
use Rattle.model.specs.Trees.{Tree}
use Rattle.model.specs.Selections.{Selection, view_of}
use Rattle.model.specs.Diagrams.{listed, Reached}
use Rattle.growths.specs.Growths.{Grew, Grows}
use Rattle.plans.specs.declared.header.Header.{Header}
use Rattle.plans.specs.Plain.{Plain, Call, pins, with_line, input_refusal, state_told, told, changed, work_size, too_many_parts}
use Rattle.plans.specs.Holding.{Heads, Holds, Did}
use Rattle.plans.specs.Settling.{Settles}
use Rattle.plans.proofs.Holdings.{not_turned, at_header, heads_pins, diagram, roots_from}
use Rattle.plans.proofs.Growings.{too_many, holds_new, few_enough, stands, kept_holds}
use Rattle.plans.proofs.Rebuilding.{refused_leaves, accepted_leaves}

some_one : (a b : Fault) → ◌≡◌ {A = Option Fault} (Some a) (Some b) → a ≡ b
some_one a b e = cc

-- a refusal by the arguments alone
pub turned_did : (h : Header) (nodes : List Node) (c : Call) (f : Fault) → Some f ≡ input_refusal h.pins h.size c → Did h nodes c (Err f) h nodes
turned_did h nodes c f e = record {
  turned = λ p heads g t. (ap Err (some_one f g (e ∙ sym (at_header h p heads (λ n size. input_refusal n size c)) ∙ t)), refl);
  tells = λ p o. sym (first p o.heads);
  leaves = λ p o. refused_leaves h nodes p c f (first p o.heads) o;
  stand = λ p o i r. refl;
  same = λ g z. refl;
}
  where
    first : (p : Plain) → Heads h p → told p c ≡ Some f
    first p heads = ap (λ t. or_else t (state_told p c)) (at_header h p heads (λ n size. input_refusal n size c) ∙ sym e)

-- past the arguments, what the lines hold decides
pub past_input : (h : Header) (p : Plain) (c : Call) → Heads h p → None ≡ input_refusal h.pins h.size c → told p c ≡ state_told p c
past_input h p c heads e = ap (λ t. or_else t (state_told p c)) (at_header h p heads (λ n size. input_refusal n size c) ∙ sym e)

-- a refusal by what the lines hold, before any node is written
pub state_did : (h : Header) (nodes nodes' : List Node) (c : Call) (f : Fault) → None ≡ input_refusal h.pins h.size c
    → ((p : Plain) → Holds h nodes p → state_told p c ≡ Some f) → ((p : Plain) → Holds h nodes p → Holds h nodes' p)
    → ((p : Plain) → Holds h nodes p → (i : ℕ) → Reached (listed nodes) (held h.lines) i → listed nodes' i ≡ listed nodes i)
    → Did h nodes c (Err f) h nodes'
state_did h nodes nodes' c f clear says keeps stays = record {
  turned = λ p heads g t. not_turned h p heads (λ n size. input_refusal n size c) clear g t;
  tells = λ p o. sym (past_input h p c o.heads clear ∙ says p o);
  leaves = λ p o. refused_leaves h nodes' p c f (past_input h p c o.heads clear ∙ says p o) (keeps p o);
  stand = stays;
  same = λ g z. refl;
}

-- an accepted call
pub accepted_did : (h : Header) (nodes : List Node) (c : Call) (h' : Header) (nodes' : List Node) → None ≡ input_refusal h.pins h.size c
    → ((p : Plain) → Holds h nodes p → state_told p c ≡ None) → ((p : Plain) → Holds h nodes p → Holds h' nodes' (changed p c))
    → ((p : Plain) → Holds h nodes p → (i : ℕ) → Reached (listed nodes) (held h.lines) i → listed nodes' i ≡ listed nodes i)
    → Did h nodes c (Ok tt) h' nodes'
accepted_did h nodes c h' nodes' clear says holds stays = record {
  turned = λ p heads g t. not_turned h p heads (λ n size. input_refusal n size c) clear g t;
  tells = λ p o. sym (past_input h p c o.heads clear ∙ says p o);
  leaves = λ p o. accepted_leaves h' nodes' p c (past_input h p c o.heads clear ∙ says p o) (holds p o);
  stand = stays;
  same = λ g z. let y : ◌≡◌ {A = ℕ} 0 1 = cc in absurd (omega arith);
}

-- the work is enough for marks and index
pub work_enough : (n size work : ℕ) → work_size n size ≤ work → 3 * size + 2 ≤ work
work_enough n size work e =
    let a : 4 * (size + 2) ≤ 4 * (n + 1) * (size + 2) = mul-le-mul_right (size + 2) (omega arith) in
    omega arith

-- what a call puts on a line for a plain plan that is held: a new selection, for which only room may be wanting, and which was grown
pub record Puts (h : Header) (nodes : List Node) (c : Call) (d : ℕ) (nodes' : List Node) (root : Option Branch) (p : Plain) : Type 0 where
  pub new : Selection
  pub tells : state_told p c ≡ too_many_parts p d (Some new) None
  pub puts : changed p c ≡ with_line p d (Some new)
  pub grew : Grew (pins p) nodes (held h.lines) (view_of (pins p) p.order new) nodes' root

-- a growth beside the lines, for a plain plan that is held
pub grown_beside : (h : Header) (nodes : List Node) (p : Plain) (o : Holds h nodes p) (ws : List ℕ) (nodes' : List Node) (root : Option Branch) → 3 * length nodes + 2 ≤ length ws
    → (t u : Tree) → t ≡ u → Grows h.pins nodes ws h.lines t nodes' root → Grew (pins p) nodes (held h.lines) u nodes' root
grown_beside h nodes p o ws nodes' root enough t u e grows =
    let g : Grows (pins p) nodes ws h.lines u nodes' root =
    subst (λ (z : Tree). Grows (pins p) nodes ws h.lines z nodes' root) e (subst (λ (k : ℕ). Grows k nodes ws h.lines t nodes' root) (sym (heads_pins h p o.heads)) grows) in
    let few = h.sized in
    let s = o.heads.size in
    let w = o.whole in
    g o.reachable (diagram h nodes p o) (roots_from h nodes p o) (omega arith) enough

module _ (h : Header) (nodes : List Node) (c : Call) (d : ℕ) (clear : None ≡ input_refusal h.pins h.size c) (small : d < 32) (vacant : get_or h.lines d None ≡ None) (nodes' : List Node) where
  pub settled_call : (root : Option Branch) (r : Result (Unit {0}) Fault) (h' : Header) → Settles h nodes' d root r h' → ((p : Plain) → Holds h nodes p → Puts h nodes c d nodes' root p) → Did h nodes c r h' nodes'
  settled_call (Some b) r h' s each =
      subst (λ (x : Result (Unit {0}) Fault). Did h nodes c x h' nodes') (sym s.0)
      (accepted_did h nodes c h' nodes' clear
      (λ p o. let w = each p o in w.tells ∙ ap (λ t. refuse_if t (at Parts p.size) None) (few_enough h nodes p o d small vacant w.new nodes' b w.grew h' s.1))
      (λ p o. let w = each p o in subst (λ (q : Plain). Holds h' nodes' q) (sym w.puts) (holds_new h nodes p o d small vacant w.new nodes' b w.grew h' s.1))
      (λ p o. let w = each p o in stands h nodes p o d small vacant w.new nodes' w.grew))
  settled_call None r h' s each =
      subst (λ (x : Header). Did h nodes c r x nodes') (sym s.1)
      (subst (λ (x : Result (Unit {0}) Fault). Did h nodes c x h nodes') (sym s.0)
      (state_did h nodes nodes' c (at Parts h.size) clear
      (λ p o. let w = each p o in w.tells ∙ ap (λ t. refuse_if t (at Parts p.size) None) (too_many h nodes p o d small vacant w.new nodes' w.grew) ∙ ap (λ z. Some (at Parts z)) o.heads.size)
      (λ p o. let w = each p o in kept_holds h nodes p o nodes' w.new d small vacant w.grew)
      (λ p o. let w = each p o in stands h nodes p o d small vacant w.new nodes' w.grew)))
