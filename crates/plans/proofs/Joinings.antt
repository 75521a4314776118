-- Joining two lines.
use Rattle.std.proofs.Common.{◌≡◌, ℕ, zero, suc, ◌+◌, ◌*◌, ◌^◌, ◌<◌, ◌≤◌, Bool, true, false, not, ◌||◌, List, length, get_or, Some, None, Ok, Err, Option, Result, sym, refl, ap, ◌∙◌, subst, ap₂, inl, inr, arith}
use Rattle.std.proofs.lemmas.Bool.Decides.{nat_tests, eqb_tells}
use Rattle.faults.specs.declared.fault.Fault.{Fault}
use Rattle.faults.specs.declared.fault.Ground.TheVariants.{LineEmpty, LineTaken, Undecoded}
use Rattle.faults.specs.Refusals.{at, refuse_if}
use Rattle.model.specs.declared.Branch.{Branch}
use Rattle.model.specs.declared.Node.{Node}
use Rattle.model.specs.Lists.{In, held}
use Rattle.model.specs.Orders.{Order}
use Rattle.model.specs.Joins.{joined, join as join_trees}
use Rattle.model.specs.Selections.{Selection, view_of}
use Rattle.model.specs.Diagrams.{listed, tree}
use Rattle.model.proofs.Views.{joins}
use Rattle.model.proofs.Walks.{tree_means}
use Rattle.growths.specs.Codes.{all_codes}
use Rattle.growths.specs.Growths.{Grows}
use Rattle.growths.proofs.Passing.{every_address_passes}
use Rattle.plans.specs.declared.header.Header.{Header}
use Rattle.plans.specs.Plain.{Plain, Call, join, pins, line, is_held, with_line, join_lines, undecoded, line_undecoded, input_refusal, join_refusal, too_many_parts}
use Rattle.plans.specs.Decoding.{Checks}
use Rattle.plans.specs.Holding.{Holds, Did}
use Rattle.plans.specs.Results.{refusal}
use Rattle.plans.specs.Settling.{Settles}
use Rattle.plans.proofs.Holdings.{heads_pins, diagram, roots_from, held_line, empty_line, root_stands, order_is}
use Rattle.plans.proofs.Changing.{state_did, work_enough, grown_beside, settled_call}

-- what the arguments have in hand
module _ (n size a b d nodes work : ℕ) (clear : None ≡ join_refusal n size a b d nodes work) where
  pub join_left : a < 32
  join_left = grind (arith, nat_tests)

  pub join_right : b < 32
  join_right = grind (arith, nat_tests)

  pub join_to : d < 32
  join_to = grind (arith, nat_tests)

  pub join_tables : (nodes ≡ size) × (3 * size + 2 ≤ work)
  join_tables = (grind (arith, nat_tests), work_enough n size work (grind (arith, nat_tests)))

-- one of the codes is not decoded exactly when not every code of the tree is
decoded_below : (decoding : ℕ → Bool) (k : ℕ) (f : Selection) → undecoded decoding k f ≡ false → (x : ℕ) → x < k → decoding (f x) ≡ true
decoded_below decoding zero f e x l = absurd (omega arith)
decoded_below decoding (suc k) f e x l =
    elim (eqb_tells x k) [
      | inl t ↦ ap (λ z. decoding (f z)) t.1 ∙ first (decoding (f k)) (undecoded decoding k f) e
      | inr t ↦ decoded_below decoding k f (rest (decoding (f k)) (undecoded decoding k f) e) x (omega (arith, t.1))
    ]
  where
    first : (p q : Bool) → (not p || q) ≡ false → p ≡ true
    first true q e = refl
    first false q e = sym e

    rest : (p q : Bool) → (not p || q) ≡ false → q ≡ false
    rest true q e = e
    rest false true e = e
    rest false false e = refl

below_decoded : (decoding : ℕ → Bool) (k : ℕ) (f : Selection) → ((x : ℕ) → x < k → decoding (f x) ≡ true) → undecoded decoding k f ≡ false
below_decoded decoding zero f h = refl
below_decoded decoding (suc k) f h = let r = below_decoded decoding k f (λ x l. h x (omega arith)) in let q = h k (omega arith) in simp (q, r)

undecoded_is : (n : ℕ) (order : List ℕ) → Order n order → (decoding : ℕ → Bool) (f : Selection) → undecoded decoding (2 ^ n) f ≡ not (all_codes decoding (view_of n order f))
undecoded_is n order o decoding f = both (undecoded decoding (2 ^ n) f) (all_codes decoding (view_of n order f)) there back
  where
    there : undecoded decoding (2 ^ n) f ≡ false → all_codes decoding (view_of n order f) ≡ true
    there e = (every_address_passes n order o decoding f).1 (decoded_below decoding (2 ^ n) f e)

    back : all_codes decoding (view_of n order f) ≡ true → undecoded decoding (2 ^ n) f ≡ false
    back e = below_decoded decoding (2 ^ n) f ((every_address_passes n order o decoding f).0 e)

    both : (u v : Bool) → (u ≡ false → v ≡ true) → (v ≡ true → u ≡ false) → u ≡ not v
    both true true p q = q refl
    both true false p q = refl
    both false true p q = refl
    both false false p q = p refl

module _ (h : Header) (nodes : List Node) (decoding : ℕ → Bool) (g : ℕ → ℕ → ℕ) (a b d work : ℕ) (clear : None ≡ input_refusal h.pins h.size (join decoding g a b d (length nodes) work)) where
  abbrev call : Call
  call = join decoding g a b d (length nodes) work

  left : a < 32
  left = join_left h.pins h.size a b d (length nodes) work clear

  right : b < 32
  right = join_right h.pins h.size a b d (length nodes) work clear

  to : d < 32
  to = join_to h.pins h.size a b d (length nodes) work clear

  -- the grounds of the lines, by what the lines hold
  abbrev grounds : Plain → Option Selection → Option Selection → Option Selection → Option Fault
  grounds p x y z =
      refuse_if (not (is_held x)) (at LineEmpty a) (refuse_if (not (is_held y)) (at LineEmpty b) (refuse_if (is_held z) (at LineTaken d)
      (refuse_if (line_undecoded p decoding x) (at Undecoded a) (refuse_if (line_undecoded p decoding y) (at Undecoded b) (too_many_parts p d (join_lines g x y) None)))))

  pub join_empty_left : (f : Fault) → get_or h.lines a None ≡ None → f ≡ at LineEmpty a → Did h nodes call (Err f) h nodes
  join_empty_left f e q =
      state_did h nodes nodes call f clear
      (λ p o. ap (λ x. grounds p x (line p b) (line p d)) (empty_line h nodes p o a left e) ∙ ap Some (sym q)) (λ p o. o) (λ p o i r. refl)

  module _ (x : Branch) (held_a : get_or h.lines a None ≡ Some x) where
    pub join_empty_right : (f : Fault) → get_or h.lines b None ≡ None → f ≡ at LineEmpty b → Did h nodes call (Err f) h nodes
    join_empty_right f e q =
        state_did h nodes nodes call f clear
        (λ p o. ap (λ l. grounds p l (line p b) (line p d)) (held_line h nodes p o a left x held_a).1 ∙ ap (λ l. grounds p (Some (held_line h nodes p o a left x held_a).0) l (line p d)) (empty_line h nodes p o b right e) ∙ ap Some (sym q))
        (λ p o. o) (λ p o i r. refl)

    module _ (y : Branch) (held_b : get_or h.lines b None ≡ Some y) where
      module _ (p : Plain) (o : Holds h nodes p) where
        abbrev fa : Selection
        fa = (held_line h nodes p o a left x held_a).0

        abbrev fb : Selection
        fb = (held_line h nodes p o b right y held_b).0

        both_held : (z : Option Selection) → line p d ≡ z → grounds p (line p a) (line p b) (line p d) ≡ grounds p (Some fa) (Some fb) z
        both_held z e =
            ap (λ l. grounds p l (line p b) (line p d)) (held_line h nodes p o a left x held_a).1 ∙ ap (λ l. grounds p (Some fa) l (line p d)) (held_line h nodes p o b right y held_b).1 ∙ ap (λ l. grounds p (Some fa) (Some fb) l) e

        means_a : tree (listed nodes) (pins p) 0 x ≡ view_of (pins p) p.order fa
        means_a = (tree_means (pins p) p.order (order_is h nodes p o) (listed nodes) x fa).1 (held_line h nodes p o a left x held_a).2

        means_b : tree (listed nodes) (pins p) 0 y ≡ view_of (pins p) p.order fb
        means_b = (tree_means (pins p) p.order (order_is h nodes p o) (listed nodes) y fb).1 (held_line h nodes p o b right y held_b).2

        -- what the check of a line's codes says
        checked : (e : ℕ) (l : e < 32) (c : Branch) (held_c : get_or h.lines e None ≡ Some c) (f : Selection) → tree (listed nodes) (pins p) 0 c ≡ view_of (pins p) p.order f → (r : Result (Unit {0}) Fault)
            → Checks decoding h.pins nodes c e r → refusal r ≡ refuse_if (undecoded decoding (2 ^ pins p) f) (at Undecoded e) None
        checked e l c held_c f means r check =
            let t = subst (λ (n : ℕ). Checks decoding n nodes c e r) (sym (heads_pins h p o.heads)) check o.reachable (diagram h nodes p o) (roots_from h nodes p o c (root_stands h nodes p o e l c held_c)) in
            t ∙ ap (λ b. refuse_if b (at Undecoded e) None) (ap (λ z. not (all_codes decoding z)) means ∙ sym (undecoded_is (pins p) p.order (order_is h nodes p o) decoding f))

      pub join_taken : (z : Branch) (f : Fault) → get_or h.lines d None ≡ Some z → f ≡ at LineTaken d → Did h nodes call (Err f) h nodes
      join_taken z f e q =
          state_did h nodes nodes call f clear
          (λ p o. both_held p o (Some (held_line h nodes p o d to z e).0) (held_line h nodes p o d to z e).1 ∙ ap Some (sym q)) (λ p o. o) (λ p o i r. refl)

      module _ (vacant : get_or h.lines d None ≡ None) where
        -- a test that told a refusal held, and one that told none failed
        told_true : (b : Bool) (f g : Fault) → Some f ≡ refuse_if b g None → (b ≡ true) × (f ≡ g)
        told_true true f g e = (refl, (let q : f ≡ g = cc in q))
        told_true false f g e = let z : ◌≡◌ {A = ℕ} 0 1 = cc in absurd (omega arith)

        told_false : (b : Bool) (g : Fault) → None ≡ refuse_if b g None → b ≡ false
        told_false true g e = let z : ◌≡◌ {A = ℕ} 0 1 = cc in absurd (omega arith)
        told_false false g e = refl

        abbrev after_codes : Plain → Bool → Bool → Option Fault → Option Fault
        after_codes p u v t = refuse_if u (at Undecoded a) (refuse_if v (at Undecoded b) t)

        pub join_undecoded_left : (f : Fault) → Checks decoding h.pins nodes x a (Err f) → Did h nodes call (Err f) h nodes
        join_undecoded_left f check =
            state_did h nodes nodes call f clear
            (λ p o. let t = told_true (undecoded decoding (2 ^ pins p) (fa p o)) f (at Undecoded a) (checked p o a left x held_a (fa p o) (means_a p o) (Err f) check) in
            both_held p o None (empty_line h nodes p o d to vacant)
            ∙ ap (λ u. after_codes p u (undecoded decoding (2 ^ pins p) (fb p o)) (too_many_parts p d (Some (joined g (fa p o) (fb p o))) None)) t.0 ∙ ap Some (sym t.1))
            (λ p o. o) (λ p o i r. refl)

        module _ (u : Unit {0}) (good_a : Checks decoding h.pins nodes x a (Ok u)) where
          clean_a : (p : Plain) (o : Holds h nodes p) → undecoded decoding (2 ^ pins p) (fa p o) ≡ false
          clean_a p o = told_false (undecoded decoding (2 ^ pins p) (fa p o)) (at Undecoded a) (checked p o a left x held_a (fa p o) (means_a p o) (Ok u) good_a)

          pub join_undecoded_right : (f : Fault) → Checks decoding h.pins nodes y b (Err f) → Did h nodes call (Err f) h nodes
          join_undecoded_right f check =
              state_did h nodes nodes call f clear
              (λ p o. let t = told_true (undecoded decoding (2 ^ pins p) (fb p o)) f (at Undecoded b) (checked p o b right y held_b (fb p o) (means_b p o) (Err f) check) in
              both_held p o None (empty_line h nodes p o d to vacant)
              ∙ ap₂ (λ u v. after_codes p u v (too_many_parts p d (Some (joined g (fa p o) (fb p o))) None)) (clean_a p o) t.0 ∙ ap Some (sym t.1))
              (λ p o. o) (λ p o i r. refl)

          pub joined_line : (v : Unit {0}) → Checks decoding h.pins nodes y b (Ok v) → (nodes' : List Node) (ws : List ℕ) → length ws ≡ work → (root : Option Branch) (r : Result (Unit {0}) Fault) (h' : Header)
              → (In x (held h.lines) → In y (held h.lines) → Grows h.pins nodes ws h.lines (join_trees g (tree (listed nodes) h.pins 0 x) (tree (listed nodes) h.pins 0 y)) nodes' root)
              → Settles h nodes' d root r h' → Did h nodes call r h' nodes'
          joined_line v good_b nodes' ws long root r h' grows s =
              settled_call h nodes call d clear to vacant nodes' root r h' s
              (λ p o. record {
                new = joined g (fa p o) (fb p o);
                tells = both_held p o None (empty_line h nodes p o d to vacant)
                    ∙ ap₂ (λ u v. after_codes p u v (too_many_parts p d (Some (joined g (fa p o) (fb p o))) None)) (clean_a p o) (told_false (undecoded decoding (2 ^ pins p) (fb p o)) (at Undecoded b) (checked p o b right y held_b (fb p o) (means_b p o) (Ok v) good_b));
                puts = ap₂ (λ k l. with_line p d (join_lines g k l)) (held_line h nodes p o a left x held_a).1 (held_line h nodes p o b right y held_b).1;
                grew = grown_beside h nodes p o ws nodes' root enough (join_trees g (tree (listed nodes) h.pins 0 x) (tree (listed nodes) h.pins 0 y)) (view_of (pins p) p.order (joined g (fa p o) (fb p o)))
                    (same p o) (grows (root_stands h nodes p o a left x held_a) (root_stands h nodes p o b right y held_b));
              })
            where
              enough : 3 * length nodes + 2 ≤ length ws
              enough =
                  let t = join_tables h.pins h.size a b d (length nodes) work clear in
                  omega (arith, t, long)

              same : (p : Plain) (o : Holds h nodes p) → join_trees g (tree (listed nodes) h.pins 0 x) (tree (listed nodes) h.pins 0 y) ≡ view_of (pins p) p.order (joined g (fa p o) (fb p o))
              same p o =
                  ap (λ k. join_trees g (tree (listed nodes) k 0 x) (tree (listed nodes) k 0 y)) (sym (heads_pins h p o.heads)) ∙ ap₂ (join_trees g) (means_a p o) (means_b p o) ∙ sym (joins (pins p) p.order g (fa p o) (fb p o))
