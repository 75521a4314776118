-- The join of two branches by its halves.
use Rattle.std.proofs.Common.{◌≡◌, ℕ, zero, suc, ◌+◌, ◌-◌, ◌<◌, ◌≤◌, true, false, List, Some, None, Option, sym, refl, ap, ◌∙◌, subst, ap₂, arith}
use Rattle.model.specs.declared.Branch.{Branch}
use Rattle.model.specs.declared.Branch.TheVariants.{End as end}
use Rattle.model.specs.declared.Node.{Node}
use Rattle.model.specs.Trees.{Tree, leaf, fork}
use Rattle.model.specs.Joins.{join}
use Rattle.model.specs.Diagrams.{Table, listed, next, code, From, tree}
use Rattle.tables.specs.States.{Live, State, Outcome}
use Rattle.tables.specs.Additions.{Adds}
use Rattle.tables.proofs.Growing.{from_grown}
use Rattle.growths.specs.Growths.{JoinsTo}
use Rattle.growths.proofs.Halves.{stayed, halves_of, from_step, tree_grown, low_refused, halves_one, high_refused, halves_node}

ends_join : (g : ℕ → ℕ → ℕ) (T : Table) (h d x y : ℕ) → tree T h d (end (g x y)) ≡ join g (tree T h d (end x)) (tree T h d (end y))
ends_join g T zero d x y = refl
ends_join g T (suc h) d x y = ap₂ fork (ends_join g T h (suc d) x y) (ends_join g T h (suc d) x y)

module _ (g : ℕ → ℕ → ℕ) (n d : ℕ) (a b : Branch) (nodes : List Node) (marks index : List ℕ) where
  -- no pin is left
  pub join_last : n ≤ d → (c : ℕ) → c ≡ g (code a) (code b) → JoinsTo g n d a b nodes marks index nodes marks index (Some (end c))
  join_last l c e st le fa fb =
      let z : n - d ≡ 0 = omega arith in
      stayed n d (join g (tree (listed nodes) (n - d) d a) (tree (listed nodes) (n - d) d b)) nodes marks index (end c) st tt
      (subst (λ k. tree (listed nodes) k d (end c) ≡ join g (tree (listed nodes) k d a) (tree (listed nodes) k d b)) (sym z) (ap leaf e))

  pub join_ends : a ≡ end (code a) → b ≡ end (code b) → (c : ℕ) → c ≡ g (code a) (code b) → JoinsTo g n d a b nodes marks index nodes marks index (Some (end c))
  join_ends ea eb c e st le fa fb =
      stayed n d (join g (tree (listed nodes) (n - d) d a) (tree (listed nodes) (n - d) d b)) nodes marks index (end c) st tt
      (ap (λ z. tree (listed nodes) (n - d) d (end z)) e
      ∙ (ends_join g (listed nodes) (n - d) d (code a) (code b)
      ∙ ap₂ (λ x y. join g (tree (listed nodes) (n - d) d x) (tree (listed nodes) (n - d) d y)) (sym ea) (sym eb)))

  -- where the pin leads from both branches
  module _ (small : d < n) (low_a low_b high_a high_b : Branch)
      (ela : low_a ≡ next (listed nodes) d false a) (elb : low_b ≡ next (listed nodes) d false b)
      (eha : high_a ≡ next (listed nodes) d true a) (ehb : high_b ≡ next (listed nodes) d true b)
      (nodes₁ : List Node) (marks₁ index₁ : List ℕ) where
    abbrev T : Table
    T = listed nodes

    abbrev of : Branch → Branch → Tree
    of x y = join g (tree T (n - (d + 1)) (d + 1) x) (tree T (n - (d + 1)) (d + 1) y)

    whole : fork (of low_a low_b) (of high_a high_b) ≡ join g (tree T (n - d) d a) (tree T (n - d) d b)
    whole = ap₂ (join g) (halves_of n nodes d a low_a high_a small ela eha) (halves_of n nodes d b low_b high_b small elb ehb)

    low_half : {r : Option Branch} → JoinsTo g n (d + 1) low_a low_b nodes marks index nodes₁ marks₁ index₁ r
        → State n nodes marks index → From (Live marks) T d a → From (Live marks) T d b → Outcome n (d + 1) (of low_a low_b) nodes marks nodes₁ marks₁ index₁ r
    low_half grows st fa fb = grows st (omega arith) (from_step n nodes marks index d false a low_a st fa ela) (from_step n nodes marks index d false b low_b st fb elb)

    pub join_low_refused : JoinsTo g n (d + 1) low_a low_b nodes marks index nodes₁ marks₁ index₁ None → JoinsTo g n d a b nodes marks index nodes₁ marks₁ index₁ None
    join_low_refused low st le fa fb = low_refused whole (low_half low st fa fb)

    module _ (low : Branch) (grows_low : JoinsTo g n (d + 1) low_a low_b nodes marks index nodes₁ marks₁ index₁ (Some low)) where
      -- neither branch asks the pin
      pub join_passed : low_a ≡ high_a → low_b ≡ high_b → JoinsTo g n d a b nodes marks index nodes₁ marks₁ index₁ (Some low)
      join_passed sa sb st le fa fb = halves_one small whole (ap₂ of sa sb) (low_half grows_low st fa fb)

      module _ (nodes₂ : List Node) (marks₂ index₂ : List ℕ) where
        high_half : {r : Option Branch} → JoinsTo g n (d + 1) high_a high_b nodes₁ marks₁ index₁ nodes₂ marks₂ index₂ r
            → State n nodes marks index → From (Live marks) T d a → From (Live marks) T d b → Outcome n (d + 1) (of high_a high_b) nodes₁ marks₁ nodes₂ marks₂ index₂ r
        high_half {r} grows st fa fb =
            let o = low_half grows_low st fa fb in
            let ga = from_step n nodes marks index d true a high_a st fa eha in
            let gb = from_step n nodes marks index d true b high_b st fb ehb in
            subst (λ t. Outcome n (d + 1) t nodes₁ marks₁ nodes₂ marks₂ index₂ r)
            (ap₂ (join g) (tree_grown n nodes marks index nodes₁ marks₁ st o.grown (n - (d + 1)) (d + 1) high_a ga) (tree_grown n nodes marks index nodes₁ marks₁ st o.grown (n - (d + 1)) (d + 1) high_b gb))
            (grows o.state (omega arith) (from_grown nodes marks nodes₁ marks₁ o.grown (d + 1) high_a ga) (from_grown nodes marks nodes₁ marks₁ o.grown (d + 1) high_b gb))

        pub join_high_refused : JoinsTo g n (d + 1) high_a high_b nodes₁ marks₁ index₁ nodes₂ marks₂ index₂ None → JoinsTo g n d a b nodes marks index nodes₂ marks₂ index₂ None
        join_high_refused grows st le fa fb = high_refused whole (low_half grows_low st fa fb) (high_half grows st fa fb)

        pub join_node : (high : Branch) → JoinsTo g n (d + 1) high_a high_b nodes₁ marks₁ index₁ nodes₂ marks₂ index₂ (Some high)
            → (nodes₃ : List Node) (marks₃ index₃ : List ℕ) (r : Option Branch) → Adds n d low high nodes₂ marks₂ index₂ nodes₃ marks₃ index₃ r
            → JoinsTo g n d a b nodes marks index nodes₃ marks₃ index₃ r
        join_node high grows nodes₃ marks₃ index₃ r adds st le fa fb = halves_node small whole (low_half grows_low st fa fb) (high_half grows st fa fb) adds
