-- Layouts: read back, and written from reduced nodes.
use Rattle.std.proofs.Common.{◌≡◌, ℕ, zero, suc, ◌+◌, ◌-◌, ◌<◌, Bool, true, false, cond, eqb, ◌⊎◌, List, map, sym, refl, ap, ◌∙◌, subst, ap₂, inl, inr, arith}
use Rattle.std.proofs.lemmas.Bool.{not-false, eqb-true, eq-eqb, ne_eqb, and_parts, and_from}
use Rattle.model.specs.Lists.{In, spot, held, each}
use Rattle.model.specs.Trees.{Tree, leaf, fork, Full, same, matters}
use Rattle.model.specs.Parts.{Part, halves, parts}
use Rattle.model.specs.Diagrams.{Table, listed, side, next, tree, key, From, Ordered, Reduced, Branch, Node, end, node}
use Rattle.model.specs.Numberings.{numbering}
use Rattle.model.specs.Layouts.{Layout, same_part, refer, row, layout, renumber, renumbered, listing}
use Rattle.model.specs.Theorems.{LayoutReadsBack, ListingIsLayout, ListingOfSelections}
use Rattle.model.proofs.Lists.{in-++-left, in-++-right, map_same, map_map, in_held, from_held, held_map, each_same, each_id}
use Rattle.model.proofs.Onces.{Tells, tells_through, tells_eqb, at_spot, spot_map}
use Rattle.model.proofs.Trees.{same_eq, same_refl, in_halves}
use Rattle.model.proofs.Parts.{front, in_front}
use Rattle.model.proofs.Least.{from_next, no_node, key_is}
use Rattle.model.proofs.Canon.{Passes, Asks, asks, asks_matters, key_told}
use Rattle.model.proofs.Numbers.{Froms, passes_not, numbered}
use Rattle.model.proofs.Reach.{numbering_reached, means_views, follow_in}

tells_part : Tells same_part
tells_part =
    record {
      is = λ k l e. let p = and_parts (eqb k.0 l.0) (same k.1 l.1) e in
          let a = eqb-true k.0 l.0 p.0 in let b = same_eq k.1 l.1 p.1 in λ j. (a j, b j);
      self = λ k. and_from (eqb k.0 k.0) (same k.1 k.1) (eq-eqb k.0 k.0 refl) (same_refl k.1);
    }

-- each subtree that matters stands in the list
abbrev Covered : List Part → ℕ → Tree → Type 0
Covered ps d (leaf c) = Unit {0}
Covered ps d (fork l r) = (matters (fork l r) ≡ true → In (d, fork l r) ps) × Covered ps (suc d) l × Covered ps (suc d) r

covered_by : (ps : List Part) (h d : ℕ) (ts : List Tree) (t : Tree) → In t ts → ((k : Part) → In k (parts h d ts) → In k ps) → Full h t → Covered ps d t
covered_by ps zero d ts (leaf c) m s f = tt
covered_by ps zero d ts (fork l r) m s f = absurd f
covered_by ps (suc h) d ts (leaf c) m s f = tt
covered_by ps (suc h) d ts (fork l r) m s f =
    let re = parts h (suc d) (halves ts) in
    let k = in_halves l r ts m in
    let t = fork l r in (
      λ e. s (d, t) (in-++-left (d, t) (front d ts) re (in_front d ts t m e)),
      covered_by ps h (suc d) (halves ts) l k.0 (λ x p. s x (in-++-right x (front d ts) re p)) f.0,
      covered_by ps h (suc d) (halves ts) r k.1 (λ x p. s x (in-++-right x (front d ts) re p)) f.1,
    )

abbrev nodes_of : List Part → List Node
nodes_of ps = map (λ k. row ps k.0 k.1) ps

-- a reference leads to a place that is d or later, or to an end: the pins before d pass over it
later : (ps : List Part) (d e : ℕ) (s : Bool) (t : Tree) → e < d → Covered ps d t → next (listed (nodes_of ps)) e s (refer ps d t) ≡ refer ps d t
later ps d e s (leaf c) l w = refl
later ps d e s (fork x y) l w = go (matters (fork x y)) w.0 (later ps (suc d) e s x (omega arith) w.1)
  where
    T : Table
    T = listed (nodes_of ps)

    i : ℕ
    i = spot same_part ps (d, fork x y)

    go : (q : Bool) → (q ≡ true → In (d, fork x y) ps) → next T e s (refer ps (suc d) x) ≡ refer ps (suc d) x
        → next T e s (cond q (node i) (refer ps (suc d) x)) ≡ cond q (node i) (refer ps (suc d) x)
    go true m ih =
        let p : (T i).place ≡ d = ap (λ (k : Node). k.place) (at_spot same_part tells_part (λ k. row ps k.0 k.1) _ ps (d, fork x y) (m refl)) in
        ap (λ q. cond q (side s (T i)) (node i)) (ne_eqb (T i).place e (omega arith))
    go false m ih = ih

back : (ps : List Part) (h d : ℕ) (t : Tree) → Full h t → Covered ps d t → tree (listed (nodes_of ps)) h d (refer ps d t) ≡ t
back ps zero d (leaf c) f w = refl
back ps zero d (fork l r) f w = absurd f
back ps (suc h) d (leaf c) f w = absurd f
back ps (suc h) d (fork l r) f w =
    go (matters (fork l r)) refl w.0 (back ps h (suc d) l f.0 w.1) (back ps h (suc d) r f.1 w.2)
  where
    T : Table
    T = listed (nodes_of ps)

    i : ℕ
    i = spot same_part ps (d, fork l r)

    go : (q : Bool) → matters (fork l r) ≡ q → (q ≡ true → In (d, fork l r) ps) → tree T h (suc d) (refer ps (suc d) l) ≡ l → tree T h (suc d) (refer ps (suc d) r) ≡ r
        → tree T (suc h) d (cond q (node i) (refer ps (suc d) l)) ≡ fork l r
    go true e m a b =
        let k : T i ≡ row ps d (fork l r) = at_spot same_part tells_part (λ k. row ps k.0 k.1) _ ps (d, fork l r) (m refl) in
        let p = eq-eqb (T i).place d (ap (λ (k : Node). k.place) k) in
        ap₂ fork
        (ap (λ q. tree T h (suc d) (cond q (T i).low (node i))) p ∙ (ap (λ (k : Node). tree T h (suc d) k.low) k ∙ a))
        (ap (λ q. tree T h (suc d) (cond q (T i).high (node i))) p ∙ (ap (λ (k : Node). tree T h (suc d) k.high) k ∙ b))
    go false e m a b =
        let u : l ≡ r = same_eq l r (not-false (same l r) e) in
        ap₂ fork
        (ap (tree T h (suc d)) (later ps (suc d) d false l (omega arith) w.1) ∙ a)
        (ap (tree T h (suc d)) (later ps (suc d) d true l (omega arith) w.1) ∙ (a ∙ u))

same_key : (n : ℕ) (T : Table) (U : ℕ → Type 0) → Ordered n T U → Reduced T U → (i k : ℕ) → U i → U k → same_part (key n T i) (key n T k) ≡ eqb i k
same_key n T U o r i k u v = tells_through eqb tells_eqb same_part tells_part (key n T) i k (key_told n T U o r i k u v)

from_numbering : (n : ℕ) (T : Table) (U : ℕ → Type 0) → Ordered n T U → (roots : List Branch) → Froms U T 0 roots → (i : ℕ) → In i (numbering T n 0 roots) → U i
from_numbering n T U o roots f i m = let r = (numbering_reached T n 0 roots i m).0 in follow_in n T U o r.2.0 0 r.0 i (f r.0 r.1) r.2.1

module _ (n : ℕ) (T : Table) (U : ℕ → Type 0) (o : Ordered n T U) (r : Reduced T U) (is : List ℕ) (in_U : (i : ℕ) → In i is → U i) where
  abbrev ps : List Part
  ps = map (key n T) is

  refer_tree : (h d : ℕ) (b : Branch) → d + h ≡ n → From U T d b → refer ps d (tree T h d b) ≡ renumber is b
  refer_tree zero d (end c) e f = refl
  refer_tree zero d (node i) e f = absurd (no_node n T U o d i e f)
  refer_tree (suc h) d b e f = go (asks T U d b f) (refer_tree h (suc d) (next T d false b) (omega arith) (from_next n T U o d false b f))
    where
      t : Tree
      t = tree T (suc h) d b

      down : Tree
      down = tree T h (suc d) (next T d false b)

      go : Passes T d b ⊎ Asks T U d b → refer ps (suc d) down ≡ renumber is (next T d false b) → refer ps d t ≡ renumber is b
      go (inl x) ih =
          ap (λ q. cond q (node (spot same_part ps (d, t))) (refer ps (suc d) down)) (passes_not T h d b x) ∙ (ih ∙ ap (renumber is) (x.stays false))
      go (inr x) ih =
          ap (λ q. cond q (node (spot same_part ps (d, t))) (refer ps (suc d) down)) (asks_matters n T U o r h d b e f x)
          ∙ (ap (λ k. node (spot same_part ps k)) (key_is n T (suc h) d x.i b e x.is x.here)
          ∙ (ap node (spot_map eqb same_part (key n T) is x.i (λ y m. same_key n T U o r x.i y x.used (in_U y m)))
          ∙ ap (renumber is) (sym x.is)))

  row_tree : (i : ℕ) → U i → row ps (key n T i).0 (key n T i).1 ≡ renumbered is (T i)
  row_tree i u =
      let d = (T i).place in
      let l = o.within i u in
      let h = n - suc d in
      let q : n - d ≡ suc h = omega arith in
      let e : suc d + h ≡ n = omega arith in
      let f : From U T d (node i) = (u, omega arith) in
      let w : (s : Bool) → next T d s (node i) ≡ side s (T i) = λ s. ap (λ q. cond q (side s (T i)) (node i)) (eq-eqb d d refl) in
      let lo = refer_tree h (suc d) (next T d false (node i)) e (from_next n T U o d false (node i) f) ∙ ap (renumber is) (w false) in
      let hi = refer_tree h (suc d) (next T d true (node i)) e (from_next n T U o d true (node i) f) ∙ ap (renumber is) (w true) in
      ap (λ k. row ps d (tree T k d (node i))) q ∙ (λ j. record { place = d; low = lo j; high = hi j })

pub layout_reads_back : LayoutReadsBack
unfolding layout
layout_reads_back n lines f =
    let ts = held lines in
    let ps = parts n 0 ts in
    each_same (refer ps 0) (tree (listed (nodes_of ps)) n 0) (λ t. t) lines (λ t m. back ps n 0 t (f t m) (covered_by ps n 0 ts t (in_held t lines m) (λ k p. p) (f t m)))
    ∙ each_id lines

pub listing_is_layout : ListingIsLayout
unfolding layout listing
listing_is_layout n T us o r lines f =
    let U = λ (i : ℕ). In i us in
    let roots = held lines in
    let g : Froms U T 0 roots = λ b m. f b (from_held b lines m) in
    let is = numbering T n 0 roots in
    let trees = map (each (tree T n 0)) lines in
    let iu = from_numbering n T U o roots g in
    let ks = map (key n T) is in
    let e : parts n 0 (held trees) ≡ ks = ap (parts n 0) (held_map (tree T n 0) lines) ∙ numbered n T U o r n 0 (omega arith) roots g in
    let a : map (λ i. renumbered is (T i)) is ≡ map (λ k. row ks k.0 k.1) ks =
    map_same (λ i. renumbered is (T i)) (λ i. row ks (key n T i).0 (key n T i).1) is (λ i m. sym (row_tree n T U o r is iu i (iu i m)))
    ∙ sym (map_map (λ k. row ks k.0 k.1) (key n T) is) in
    let b : map (each (renumber is)) lines ≡ map (each (refer ks 0)) trees =
    sym (each_same (tree T n 0) (refer ks 0) (renumber is) lines (λ x m. refer_tree n T U o r is iu n 0 x (omega arith) (f x m))) in
    let laid : List Part → Layout = λ zs. record { nodes = map (λ k. row zs k.0 k.1) zs; lines = map (each (refer zs 0)) trees } in
    subst (λ v. listing T n lines ≡ laid v) (sym e) (λ j. record { nodes = a j; lines = b j })

pub listing_of_selections : ListingOfSelections
listing_of_selections n order o T us d r roots f lines w = listing_is_layout n T us d r roots f ∙ ap (layout n) (means_views n order o T roots lines w)
