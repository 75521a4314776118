-- Growing from a tree, step by step.
use Rattle.std.proofs.Common.{◌≡◌, ℕ, zero, suc, ◌+◌, ◌-◌, ◌<◌, ◌≤◌, true, false, List, [], ◌∷◌, length, get_or, drop, Some, None, Option, sym, refl, ap, ◌∙◌, subst, inl, inr, add-one, arith, length-drop, drop-cons}
use lib.Bits.{bit_or}
use Rattle.std.proofs.lemmas.List.{drop_all}
use Rattle.model.specs.declared.Branch.{Branch}
use Rattle.model.specs.declared.Branch.TheVariants.{End as end}
use Rattle.model.specs.declared.Node.{Node}
use Rattle.model.specs.Lists.{In, Apart}
use Rattle.model.specs.Orders.{Order}
use Rattle.model.specs.Trees.{fork}
use Rattle.model.specs.Selections.{Selection, Setting, put, view, view_of, all_low}
use Rattle.model.specs.Diagrams.{listed, tree as unfolded}
use Rattle.tables.specs.States.{State, Outcome}
use Rattle.tables.specs.Additions.{Adds, Prepares}
use Rattle.trees.specs.declared.tree.Record.{Record}
use Rattle.trees.specs.declared.tree.Tree.{Tree}
use Rattle.trees.specs.Left.{OneLeft, TwoLeft}
use Rattle.trees.specs.Records.{Built}
use Rattle.growths.proofs.Halves.{stayed, low_refused, high_refused, halves_node}
use Rattle.growths.proofs.Rooted.{grown_root}
use Rattle.drawings.specs.Fixed.{Fixed, bit_of}
use Rattle.tables.specs.declared.adding.Growing.{Growing}
use Rattle.drawings.specs.Draws.{Draws, DrawsIn, DrawsRoot}
use Rattle.drawings.proofs.Fixing.{one_code, fixed_low, fixed_high, all_fixed, none_fixed}
use Rattle.model.proofs.Lists.{in_get_or}

-- the pins from a place on
apart_drop : (ps : List ℕ) (d : ℕ) → Apart ps → Apart (drop d ps)
apart_drop ps zero a = a
apart_drop [] (suc d) a = tt
apart_drop (p ∷ ps) (suc d) a = apart_drop ps d a.1

module _ (tree : Tree) (records : List Record) (order : List ℕ) (d mask value : ℕ) (nodes : List Node) (marks index : List ℕ) where
  abbrev n : ℕ
  n = tree.pins

  -- one code is left
  pub draw_end : (e : ℕ) → ((c : Selection) → Built n c records tree → OneLeft n c mask value e) → Draws tree records order d mask value nodes marks index nodes marks index (Some (end e))
  draw_end e told f s built long names st small fixed =
      let k : length (drop d order) ≡ n - d = length-drop d order ∙ ap (λ x. x - d) long in
      stayed n d (view n f (drop d order) s) nodes marks index (end e) st tt
      (sym (one_code n mask value f e (listed nodes) (told f built) (drop d order) s d fixed.gone fixed.stands ∙ ap (λ h. unfolded (listed nodes) h d (end e)) k))

  -- past the order
  pub draw_past : ((c : Selection) → Built n c records tree → TwoLeft n c mask value) → (length order ≤ 20 → length order ≤ d) → (r : Option Branch) → Draws tree records order d mask value nodes marks index nodes marks index r
  draw_past told over r f s built long names st small fixed =
      let l : length order ≤ d = over (let few = built.few in omega (arith, long)) in
      let z : drop d order ≡ [] = drop_all d order l in
      absurd (all_fixed n mask value s f (subst (λ (ps : List ℕ). Fixed n mask value ps s) z fixed) (told f built))

  -- the next pin
  module _ (inside : d < length order) (bit : ℕ) (is_bit : length order ≤ 20 → get_or order d 0 < length order → bit ≡ bit_of (length order) (get_or order d 0)) where
    module _ (f : Selection) (s : Setting) (built : Built n f records tree) (long : length order ≡ n) (names : Order n order) (fixed : Fixed n mask value (drop d order) s) where
      abbrev p : ℕ
      p = get_or order d 0

      abbrev rest : List ℕ
      rest = drop (d + 1) order

      below : p < n
      below = names.small p (in_get_or order d inside)

      bit_is : bit ≡ bit_of n p
      bit_is = is_bit (let few = built.few in omega (arith, long)) (let b = below in omega (arith, long)) ∙ ap (λ x. bit_of x p) long

      next_pin : drop d order ≡ p ∷ rest
      next_pin = drop-cons order d 0 inside ∙ ap (λ x. p ∷ drop x order) (sym (add-one d))

      once : Apart (p ∷ rest)
      once = subst Apart next_pin (apart_drop order d names.once)

      here : Fixed n mask value (p ∷ rest) s
      here = subst (λ (ps : List ℕ). Fixed n mask value ps s) next_pin fixed

      low_fixed : Fixed n (bit_or mask bit) value rest (put s p false)
      low_fixed = subst (λ (b : ℕ). Fixed n (bit_or mask b) value rest (put s p false)) (sym bit_is) (fixed_low n mask value p rest s below once here)

      high_fixed : Fixed n (bit_or mask bit) (bit_or value bit) rest (put s p true)
      high_fixed = subst (λ (b : ℕ). Fixed n (bit_or mask b) (bit_or value b) rest (put s p true)) (sym bit_is) (fixed_high n mask value p rest s below once here)

      whole : fork (view n f rest (put s p false)) (view n f rest (put s p true)) ≡ view n f (drop d order) s
      whole = ap (λ (ps : List ℕ). view n f ps s) (sym next_pin)

    module _ (nodes₁ : List Node) (marks₁ index₁ : List ℕ) where
      pub draw_low_refused : Draws tree records order (d + 1) (bit_or mask bit) value nodes marks index nodes₁ marks₁ index₁ None → Draws tree records order d mask value nodes marks index nodes₁ marks₁ index₁ None
      draw_low_refused o f s built long names st small fixed =
          low_refused (whole f s built long names fixed) (o f (put s (get_or order d 0) false) built long names st (omega (arith, long)) (low_fixed f s built long names fixed))

      module _ (low : Branch) (o₁ : Draws tree records order (d + 1) (bit_or mask bit) value nodes marks index nodes₁ marks₁ index₁ (Some low)) (nodes₂ : List Node) (marks₂ index₂ : List ℕ) where
        pub draw_high_refused : Draws tree records order (d + 1) (bit_or mask bit) (bit_or value bit) nodes₁ marks₁ index₁ nodes₂ marks₂ index₂ None
            → Draws tree records order d mask value nodes marks index nodes₂ marks₂ index₂ None
        draw_high_refused o₂ f s built long names st small fixed =
            let low_done = o₁ f (put s (get_or order d 0) false) built long names st (omega (arith, long)) (low_fixed f s built long names fixed) in
            high_refused (whole f s built long names fixed) low_done (o₂ f (put s (get_or order d 0) true) built long names low_done.state (omega (arith, long)) (high_fixed f s built long names fixed))

        pub draw_node : (high : Branch) → Draws tree records order (d + 1) (bit_or mask bit) (bit_or value bit) nodes₁ marks₁ index₁ nodes₂ marks₂ index₂ (Some high)
            → (nodes₃ : List Node) (marks₃ index₃ : List ℕ) (r : Option Branch) → Adds n d low high nodes₂ marks₂ index₂ nodes₃ marks₃ index₃ r → Draws tree records order d mask value nodes marks index nodes₃ marks₃ index₃ r
        draw_node high o₂ nodes₃ marks₃ index₃ r adds f s built long names st small fixed =
            let low_done = o₁ f (put s (get_or order d 0) false) built long names st (omega (arith, long)) (low_fixed f s built long names fixed) in
            let high_done = o₂ f (put s (get_or order d 0) true) built long names low_done.state (omega (arith, long)) (high_fixed f s built long names fixed) in
            halves_node (omega (arith, long)) (whole f s built long names fixed) low_done high_done adds

-- the growth from the first place on, in a table t that was prepared, which leaves it as t' and the nodes as last
pub drawn_root : (tree : Tree) (records : List Record) (order : List ℕ) (n : ℕ) (nodes : List Node) (work : List ℕ) (lines : List (Option Branch)) (t t' : Growing) → t.pins ≡ n → t.nodes.now ≡ nodes
    → Prepares n nodes work lines t.marks.now t.index.now → (last : List Node) → t'.nodes.now ≡ last → (r : Option Branch)
    → DrawsIn tree records order (record { place = 0; bits = record { mask = 0; value = 0 } }) t t' r → DrawsRoot tree records order nodes work n lines last r
drawn_root tree records order n nodes work lines t t' pins_are nodes_are prepared last ended r draws f built long names =
    let e : tree.pins ≡ n = built.pins in
    let from_none : Draws tree records order 0 0 0 nodes t.marks.now t.index.now t'.nodes.now t'.marks.now t'.index.now r =
    subst (λ (xs : List Node). Draws tree records order 0 0 0 xs t.marks.now t.index.now t'.nodes.now t'.marks.now t'.index.now r) nodes_are (draws (pins_are ∙ sym e)) in
    grown_root n nodes work lines t t' pins_are nodes_are prepared last ended r (view_of n order f)
    (λ st from.
    subst (λ (k : ℕ). Outcome k 0 (view k f order all_low) nodes t.marks.now t'.nodes.now t'.marks.now t'.index.now r) e
    (from_none f all_low (subst (λ (k : ℕ). Built k f records tree) (sym e) built) (long ∙ sym e) (subst (λ (k : ℕ). Order k order) (sym e) names)
    (subst (λ (k : ℕ). State k nodes t.marks.now t.index.now) (sym e) st) (omega arith) (none_fixed tree.pins order all_low (subst (λ (k : ℕ). Order k order) (sym e) names))))
