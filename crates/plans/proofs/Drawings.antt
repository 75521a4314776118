-- Drawing on a line.
use Rattle.std.proofs.Common.{◌≡◌, ℕ, ◌+◌, ◌*◌, ◌<◌, ◌≤◌, ltb, List, length, get_or, Some, None, Err, Option, Result, sym, refl, ap, ◌∙◌, subst, ap₂, arith, le-ltb, lt-ltb}
use Rattle.std.proofs.lemmas.Bool.Decides.{nat_tests}
use Rattle.faults.specs.declared.fault.Fault.{Fault}
use Rattle.faults.specs.declared.fault.Ground.TheVariants.{LineTaken, TreeTable}
use Rattle.faults.specs.Refusals.{at, refuse_if}
use Rattle.model.specs.declared.Branch.{Branch}
use Rattle.model.specs.declared.Node.{Node}
use Rattle.model.specs.Selections.{Selection, view_of}
use Rattle.trees.specs.Mixed.{mixed_blocks}
use Rattle.growths.specs.Growths.{Grows}
use Rattle.plans.specs.declared.header.Header.{Header}
use Rattle.plans.specs.Plain.{Plain, Call, draw, pins, is_held, input_refusal, draw_refusal, state_told, work_size, too_many_parts}
use Rattle.plans.specs.Holding.{Holds, Did, order_of}
use Rattle.plans.specs.Settling.{Settles}
use Rattle.plans.proofs.Holdings.{heads_pins, held_line, empty_line}
use Rattle.plans.proofs.Changing.{turned_did, state_did, work_enough, grown_beside, settled_call}

pub turned_draw : (h : Header) (nodes : List Node) (d x m : ℕ) (f : Selection) (tree work : ℕ) → x ≡ m → (g : Fault) → Some g ≡ input_refusal h.pins h.size (draw d x f (length nodes) tree work)
    → Did h nodes (draw d m f (length nodes) tree work) (Err g) h nodes
turned_draw h nodes d x m f tree work e g q =
    subst (λ (z : ℕ). Did h nodes (draw d z f (length nodes) tree work) (Err g) h nodes) e (turned_did h nodes (draw d x f (length nodes) tree work) g q)

-- what the arguments of a draw have in hand
pub draw_pins : (n size d m : ℕ) (f : Selection) (nodes tree work : ℕ) → None ≡ input_refusal n size (draw d m f nodes tree work) → m ≡ n
draw_pins n size d m f nodes tree work e = grind (arith, nat_tests)

pub draw_line : (n size d m : ℕ) (f : Selection) (nodes tree work : ℕ) → None ≡ input_refusal n size (draw d m f nodes tree work) → d < 32
draw_line n size d m f nodes tree work e = grind (arith, nat_tests)

pub draw_work : (n size d m : ℕ) (f : Selection) (nodes tree work : ℕ) → None ≡ input_refusal n size (draw d m f nodes tree work) → work_size n size ≤ work
draw_work n size d m f nodes tree work e = grind (arith, nat_tests)

pub draw_tables : (n size m d nodes work : ℕ) → None ≡ draw_refusal n size m d nodes work → (nodes ≡ size) × (3 * size + 2 ≤ work)
draw_tables n size m d nodes work e = (grind (arith, nat_tests), work_enough n size work (grind (arith, nat_tests)))

module _ (h : Header) (nodes : List Node) (d m : ℕ) (f : Selection) (tree work : ℕ) (clear : None ≡ input_refusal h.pins h.size (draw d m f (length nodes) tree work)) where
  abbrev call : Call
  call = draw d m f (length nodes) tree work

  small : d < 32
  small = draw_line h.pins h.size d m f (length nodes) tree work clear

  -- the line is held already
  pub draw_taken : (b : Branch) (g : Fault) → get_or h.lines d None ≡ Some b → g ≡ at LineTaken d → Did h nodes call (Err g) h nodes
  draw_taken b g e q =
      state_did h nodes nodes call g clear
      (λ p o. let r = held_line h nodes p o d small b e in ap (λ l. refuse_if (is_held l) (at LineTaken d) (refuse_if (ltb tree (length (mixed_blocks m f))) (at TreeTable tree) (too_many_parts p d (Some f) None))) r.1 ∙ ap Some (sym q))
      (λ p o. o) (λ p o i r. refl)

  module _ (vacant : get_or h.lines d None ≡ None) where
    past_taken : (p : Plain) → Holds h nodes p → state_told p call ≡ refuse_if (ltb tree (length (mixed_blocks m f))) (at TreeTable tree) (too_many_parts p d (Some f) None)
    past_taken p o = ap (λ l. refuse_if (is_held l) (at LineTaken d) (refuse_if (ltb tree (length (mixed_blocks m f))) (at TreeTable tree) (too_many_parts p d (Some f) None))) (empty_line h nodes p o d small vacant)

    -- the tree table is too short
    pub draw_tree_full : (g : Fault) → g ≡ at TreeTable tree → tree < length (mixed_blocks m f) → Did h nodes call (Err g) h nodes
    draw_tree_full g q over =
        state_did h nodes nodes call g clear
        (λ p o. past_taken p o ∙ ap (λ t. refuse_if t (at TreeTable tree) (too_many_parts p d (Some f) None)) (lt-ltb tree (length (mixed_blocks m f)) over) ∙ ap Some (sym q))
        (λ p o. o) (λ p o i r. refl)

    -- the tree was built
    module _ (room : length (mixed_blocks m f) ≤ tree) (nodes' : List Node) (ws : List ℕ) (long : length ws ≡ work) where
      past_tree : (p : Plain) → Holds h nodes p → state_told p call ≡ too_many_parts p d (Some f) None
      past_tree p o = past_taken p o ∙ ap (λ t. refuse_if t (at TreeTable tree) (too_many_parts p d (Some f) None)) (le-ltb tree (length (mixed_blocks m f)) room)

      pub drawn : (root : Option Branch) (r : Result (Unit {0}) Fault) (h' : Header) → Grows h.pins nodes ws h.lines (view_of h.pins (order_of h) f) nodes' root → Settles h nodes' d root r h' → Did h nodes call r h' nodes'
      drawn root r h' grows s =
          settled_call h nodes call d clear small vacant nodes' root r h' s
          (λ p o. record { new = f; tells = past_tree p o; puts = refl; grew = grown_beside h nodes p o ws nodes' root enough (view_of h.pins (order_of h) f) (view_of (pins p) p.order f) (same_view p o) grows })
        where
          enough : 3 * length nodes + 2 ≤ length ws
          enough =
              let t = draw_tables h.pins h.size m d (length nodes) work clear in
              omega (arith, t, long)

          same_view : (p : Plain) → Holds h nodes p → view_of h.pins (order_of h) f ≡ view_of (pins p) p.order f
          same_view p o = ap₂ (λ k ps. view_of k ps f) (sym (heads_pins h p o.heads)) (sym o.heads.order)
