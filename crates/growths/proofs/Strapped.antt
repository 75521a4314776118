-- A branch with a pin set, by its halves.
use Rattle.std.proofs.Common.{◌≡◌, ℕ, zero, suc, ◌+◌, ◌-◌, ◌<◌, ◌≤◌, Bool, true, false, cond, List, Some, None, Option, sym, refl, ap, ◌∙◌, subst, ap₂, arith}
use Rattle.model.specs.declared.Branch.{Branch}
use Rattle.model.specs.declared.Branch.TheVariants.{End as end}
use Rattle.model.specs.declared.Node.{Node}
use Rattle.model.specs.Trees.{Tree, fork}
use Rattle.model.specs.Joins.{strap}
use Rattle.model.specs.Diagrams.{Table, listed, next, code, From, tree}
use Rattle.model.proofs.Least.{from_next}
use Rattle.model.proofs.Grow.{passed}
use Rattle.tables.specs.States.{Live, State, Outcome}
use Rattle.tables.specs.Additions.{Adds}
use Rattle.tables.proofs.Growing.{from_weaker, from_grown}
use Rattle.growths.specs.Growths.{StrapsTo}
use Rattle.growths.proofs.Halves.{stayed, halves_of, from_step, tree_grown, low_refused, halves_one, high_refused, halves_node}

-- a constant stays what it is
end_strap : (q : ℕ) (v : Bool) (T : Table) (h d c : ℕ) → tree T h d (end c) ≡ strap q v (tree T h d (end c))
end_strap q v T zero d c = refl
end_strap zero v T (suc h) d c = go v
  where
    go : (v : Bool) → fork (tree T h (suc d) (end c)) (tree T h (suc d) (end c)) ≡ fork (cond v (tree T h (suc d) (end c)) (tree T h (suc d) (end c))) (cond v (tree T h (suc d) (end c)) (tree T h (suc d) (end c)))
    go true = refl
    go false = refl
end_strap (suc q) v T (suc h) d c = ap₂ fork (end_strap q v T h (suc d) c) (end_strap q v T h (suc d) c)

side_of : (v : Bool) (F : Branch → Tree) (T : Table) (d : ℕ) (b : Branch) → F (next T d v b) ≡ cond v (F (next T d true b)) (F (next T d false b))
side_of true F T d b = refl
side_of false F T d b = refl

module _ (q : ℕ) (v : Bool) (n d : ℕ) (b : Branch) (nodes : List Node) (marks index : List ℕ) where
  -- no pin is left
  pub strap_last : n ≤ d → StrapsTo q v n d b nodes marks index nodes marks index (Some b)
  strap_last l st le lq f =
      let z : n - d ≡ 0 = omega arith in
      stayed n d (strap (q - d) v (tree (listed nodes) (n - d) d b)) nodes marks index b st f
      (subst (λ k. tree (listed nodes) k d b ≡ strap (q - d) v (tree (listed nodes) k d b)) (sym z) refl)

  pub strap_end : b ≡ end (code b) → StrapsTo q v n d b nodes marks index nodes marks index (Some b)
  strap_end e st le lq f =
      stayed n d (strap (q - d) v (tree (listed nodes) (n - d) d b)) nodes marks index b st f
      (subst (λ x. tree (listed nodes) (n - d) d x ≡ strap (q - d) v (tree (listed nodes) (n - d) d x)) (sym e) (end_strap (q - d) v (listed nodes) (n - d) d (code b)))

  -- the pin at this place is set
  pub strap_here : d < n → d ≡ q → (r : Branch) → r ≡ next (listed nodes) d v b → StrapsTo q v n d b nodes marks index nodes marks index (Some r)
  strap_here small here r er st le lq f =
      let T = listed nodes in
      let h = n - suc d in
      let left : n - d ≡ suc h = omega arith in
      let none : q - d ≡ 0 = omega arith in
      let fr : From (Live marks) T (suc d) r = subst (From (Live marks) T (suc d)) (sym er) (from_next n T (Live marks) st.ordered d v b f) in
      let w : tree T h (suc d) r ≡ cond v (tree T h (suc d) (next T d true b)) (tree T h (suc d) (next T d false b)) = ap (tree T h (suc d)) er ∙ side_of v (tree T h (suc d)) T d b in
      stayed n d (strap (q - d) v (tree T (n - d) d b)) nodes marks index r st (from_weaker (Live marks) T d r fr)
      (ap (λ k. tree T k d r) left ∙ (passed T (Live marks) h d r fr ∙ (ap₂ fork w w ∙ ap₂ (λ j k. strap j v (tree T k d b)) (sym none) (sym left))))

  -- where the pin of an earlier place leads
  module _ (small : d < n) (before : d < q) (low_side high_side : Branch) (el : low_side ≡ next (listed nodes) d false b) (eh : high_side ≡ next (listed nodes) d true b)
      (nodes₁ : List Node) (marks₁ index₁ : List ℕ) where
    abbrev T : Table
    T = listed nodes

    abbrev of : Branch → Tree
    of x = strap (q - (d + 1)) v (tree T (n - (d + 1)) (d + 1) x)

    whole : fork (of low_side) (of high_side) ≡ strap (q - d) v (tree T (n - d) d b)
    whole = let z : suc (q - (d + 1)) ≡ q - d = omega arith in ap₂ (λ j t. strap j v t) z (halves_of n nodes d b low_side high_side small el eh)

    low_half : {r : Option Branch} → StrapsTo q v n (d + 1) low_side nodes marks index nodes₁ marks₁ index₁ r
        → State n nodes marks index → From (Live marks) T d b → Outcome n (d + 1) (of low_side) nodes marks nodes₁ marks₁ index₁ r
    low_half grows st f = grows st (omega arith) (omega arith) (from_step n nodes marks index d false b low_side st f el)

    pub strap_low_refused : StrapsTo q v n (d + 1) low_side nodes marks index nodes₁ marks₁ index₁ None → StrapsTo q v n d b nodes marks index nodes₁ marks₁ index₁ None
    strap_low_refused grows st le lq f = low_refused whole (low_half grows st f)

    module _ (low : Branch) (grows_low : StrapsTo q v n (d + 1) low_side nodes marks index nodes₁ marks₁ index₁ (Some low)) where
      -- the branch does not ask the pin of this place
      pub strap_passed : low_side ≡ high_side → StrapsTo q v n d b nodes marks index nodes₁ marks₁ index₁ (Some low)
      strap_passed e st le lq f = halves_one small whole (ap of e) (low_half grows_low st f)

      module _ (nodes₂ : List Node) (marks₂ index₂ : List ℕ) where
        high_half : {r : Option Branch} → StrapsTo q v n (d + 1) high_side nodes₁ marks₁ index₁ nodes₂ marks₂ index₂ r
            → State n nodes marks index → From (Live marks) T d b → Outcome n (d + 1) (of high_side) nodes₁ marks₁ nodes₂ marks₂ index₂ r
        high_half {r} grows st f =
            let o = low_half grows_low st f in
            let g = from_step n nodes marks index d true b high_side st f eh in
            subst (λ t. Outcome n (d + 1) t nodes₁ marks₁ nodes₂ marks₂ index₂ r)
            (ap (strap (q - (d + 1)) v) (tree_grown n nodes marks index nodes₁ marks₁ st o.grown (n - (d + 1)) (d + 1) high_side g))
            (grows o.state (omega arith) (omega arith) (from_grown nodes marks nodes₁ marks₁ o.grown (d + 1) high_side g))

        pub strap_high_refused : StrapsTo q v n (d + 1) high_side nodes₁ marks₁ index₁ nodes₂ marks₂ index₂ None → StrapsTo q v n d b nodes marks index nodes₂ marks₂ index₂ None
        strap_high_refused grows st le lq f = high_refused whole (low_half grows_low st f) (high_half grows st f)

        pub strap_node : (high : Branch) → StrapsTo q v n (d + 1) high_side nodes₁ marks₁ index₁ nodes₂ marks₂ index₂ (Some high)
            → (nodes₃ : List Node) (marks₃ index₃ : List ℕ) (r : Option Branch) → Adds n d low high nodes₂ marks₂ index₂ nodes₃ marks₃ index₃ r
            → StrapsTo q v n d b nodes marks index nodes₃ marks₃ index₃ r
        strap_node high grows nodes₃ marks₃ index₃ r adds st le lq f = halves_node small whole (low_half grows_low st f) (high_half grows st f) adds
