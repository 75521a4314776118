-- A new line, grown beside those that a plan holds.
use Rattle.std.proofs.Common.{◌≡◌, ℕ, zero, suc, ◌<◌, true, false, ltb, List, [], ◌∷◌, map, length, get_or, set, Some, None, Option, sym, refl, ap, ◌∙◌, subst, inl, inr, arith, le-ltb, lt-ltb}
use Rattle.model.specs.declared.Branch.{Branch}
use Rattle.model.specs.declared.Node.{Node}
use Rattle.model.specs.Lists.{In, held, each, LineForLine}
use Rattle.model.specs.Trees.{Tree}
use Rattle.model.specs.Orders.{Order}
use Rattle.model.specs.Selections.{Selection, view_of, views}
use Rattle.model.specs.Diagrams.{Table, listed, side, tree, Means, From, Ordered, Reduced, Reached}
use Rattle.model.proofs.Lists.{pigeonhole, in_map, from_map, in_held, from_held, held_map, in_cast}
use Rattle.model.proofs.Grow.{follow_kept, from_wider}
use Rattle.model.proofs.Walks.{tree_means}
use Rattle.model.proofs.Reach.{means_views, follow_in}
use Rattle.tables.specs.Markings.{Diagram}
use Rattle.tables.proofs.Counts.{live_list, from_live, apart_live, counts_filled, filled_le, in_live}
use Rattle.growths.specs.Growths.{Grew}
use Rattle.growths.proofs.Rooted.{root_refused, grown_diagram, reached_kept, root_kept, root_new}
use Rattle.plans.specs.declared.header.Header.{Header}
use Rattle.plans.specs.Plain.{Plain, pins, with_line, used_of}
use Rattle.plans.specs.Holding.{Holds}
use Rattle.plans.specs.Settling.{Put}
use Rattle.plans.proofs.Holdings.{order_is, diagram, roots_from, empty_line}
use Rattle.plans.proofs.Reckonings.{used_holds}
use Rattle.plans.proofs.Rebuilding.{lines_set, in_set, put_holds}

-- lines are as many on both sides
lines_long : (R : Option Branch → Option Selection → Type 0) (xs : List (Option Branch)) (ys : List (Option Selection)) → LineForLine R xs ys → length ys ≡ length xs
lines_long R [] [] l = refl
lines_long R [] (y ∷ ys) l = absurd l
lines_long R (x ∷ xs) [] l = absurd l
lines_long R (x ∷ xs) (y ∷ ys) l = ap suc (lines_long R xs ys l.1)

-- the new element of a list, and the old ones where nothing stood in its place
set_in : {A : Type 0} (xs : List A) (d : ℕ) (y : A) → d < length xs → In y (set xs d y)
set_in [] d y l = absurd (omega arith)
set_in (x ∷ xs) zero y l = inl refl
set_in (x ∷ xs) (suc d) y l = inr (set_in xs d y (omega arith))

still_in : {A : Type 0} (xs : List (Option A)) (d : ℕ) (y : Option A) (z : A) → get_or xs d None ≡ None → In (Some z) xs → In (Some z) (set xs d y)
still_in [] d y z e m = m
still_in (x ∷ xs) zero y z e (inl q) = let b : ◌≡◌ {A = ℕ} 0 1 = cc in absurd (omega arith)
still_in (x ∷ xs) zero y z e (inr m) = inr m
still_in (x ∷ xs) (suc d) y z e (inl q) = inl q
still_in (x ∷ xs) (suc d) y z e (inr m) = inr (still_in xs d y z e m)

-- roots that keep their trees mean the same in another table
means_kept : (n : ℕ) (order : List ℕ) → Order n order → (T T' : Table) (xs : List (Option Branch)) (ys : List (Option Selection)) → ((b : Branch) → In b (held xs) → tree T' n 0 b ≡ tree T n 0 b)
    → LineForLine (Means n T order) xs ys → LineForLine (Means n T' order) xs ys
means_kept n order o T T' [] [] k l = tt
means_kept n order o T T' [] (y ∷ ys) k l = absurd l
means_kept n order o T T' (x ∷ xs) [] k l = absurd l
means_kept n order o T T' (None ∷ xs) (None ∷ ys) k l = (tt, means_kept n order o T T' xs ys k l.1)
means_kept n order o T T' (None ∷ xs) (Some f ∷ ys) k l = absurd l.0
means_kept n order o T T' (Some b ∷ xs) (None ∷ ys) k l = absurd l.0
means_kept n order o T T' (Some b ∷ xs) (Some f ∷ ys) k l =
    ((tree_means n order o T' b f).0 (k b (inl refl) ∙ (tree_means n order o T b f).1 l.0), means_kept n order o T T' xs ys (λ c m. k c (inr m)) l.1)

module _ (h : Header) (nodes : List Node) (p : Plain) (o : Holds h nodes p) (d : ℕ) (small : d < 32) (vacant : get_or h.lines d None ≡ None) (f : Selection) where
  abbrev n : ℕ
  n = pins p

  abbrev ts : List Tree
  ts = held (views n p.order (set p.lines d (Some f)))

  selection_in : (g : Selection) → In (Some g) (set p.lines d (Some f)) → In (view_of n p.order g) ts
  selection_in g m = in_held (view_of n p.order g) (views n p.order (set p.lines d (Some f))) (in_map (each (view_of n p.order)) (Some g) (set p.lines d (Some f)) m)

  new_in : In (view_of n p.order f) ts
  new_in = selection_in f (set_in p.lines d (Some f) (let e = lines_long (Means n (listed nodes) p.order) h.lines p.lines o.lines in let k = h.lined in omega arith))

  old_in : (b : Branch) → In b (held h.lines) → In (tree (listed nodes) n 0 b) ts
  old_in b m =
      let e : map (tree (listed nodes) n 0) (held h.lines) ≡ held (views n p.order p.lines) =
      sym (held_map (tree (listed nodes) n 0) h.lines) ∙ ap held (means_views n p.order (order_is h nodes p o) (listed nodes) h.lines p.lines o.lines) in
      let there = subst (In (tree (listed nodes) n 0 b)) e (in_map (tree (listed nodes) n 0) b (held h.lines) m) in
      let r = from_map (each (view_of n p.order)) (Some (tree (listed nodes) n 0 b)) p.lines (from_held (tree (listed nodes) n 0 b) (views n p.order p.lines) there) in
      known r.0 r.1 r.2
    where
      known : (l : Option Selection) → In l p.lines → Some (tree (listed nodes) n 0 b) ≡ each (view_of n p.order) l → In (tree (listed nodes) n 0 b) ts
      known None i q = let z : ◌≡◌ {A = ℕ} 0 1 = cc in absurd (omega arith)
      known (Some g) i q =
          let e : view_of n p.order g ≡ tree (listed nodes) n 0 b = cc in
          in_cast (view_of n p.order g) (tree (listed nodes) n 0 b) ts e (selection_in g (still_in p.lines d (Some f) g (empty_line h nodes p o d small vacant) i))

  module _ (nodes' : List Node) where
    -- no room: there are more parts than nodes
    pub too_many : Grew n nodes (held h.lines) (view_of n p.order f) nodes' None → ltb p.size (used_of (with_line p d (Some f))) ≡ true
    too_many w =
        let l = root_refused n nodes (held h.lines) (view_of n p.order f) nodes' o.reachable (diagram h nodes p o) (roots_from h nodes p o) w ts old_in new_in in
        let s = w.outcome.grown.size in
        let k = o.whole in
        lt-ltb p.size (used_of (with_line p d (Some f))) (omega arith)

    -- a root was grown, and stands on the line
    module _ (b : Branch) (w : Grew n nodes (held h.lines) (view_of n p.order f) nodes' (Some b)) (h' : Header) (put : Put h nodes' d (Some b) h') where
      abbrev live : List ℕ
      live = live_list w.marks'

      kept : (c : Branch) → In c (held h.lines) → From (λ i. In i live) (listed nodes') 0 c × (tree (listed nodes') n 0 c ≡ tree (listed nodes) n 0 c)
      kept = root_kept n nodes (held h.lines) (view_of n p.order f) nodes' o.reachable (diagram h nodes p o) (roots_from h nodes p o) w

      new : From (λ i. In i live) (listed nodes') 0 b × (tree (listed nodes') n 0 b ≡ view_of n p.order f)
      new = root_new n nodes (held h.lines) (view_of n p.order f) nodes' o.reachable (diagram h nodes p o) (roots_from h nodes p o) b w

      from' : (c : Branch) → In c (held ((set h.lines d (Some b)))) → From (λ i. In i live) (listed nodes') 0 c
      from' c m =
          elim (in_set c h.lines d (Some b) m) [
            | inl q ↦ (kept c q).0
            | inr q ↦ (let e : b ≡ c = cc in subst (λ (x : Branch). From (λ i. In i live) (listed nodes') 0 x) e new.0)
          ]

      whole' : length nodes' ≡ p.size
      whole' = w.outcome.grown.size ∙ o.whole

      live_nodes : Diagram n nodes' live
      live_nodes = grown_diagram n nodes (held h.lines) (view_of n p.order f) nodes' o.reachable (diagram h nodes p o) (roots_from h nodes p o) w

      pub holds_new : Holds h' nodes' (with_line p d (Some f))
      holds_new =
          put_holds h nodes' p o.heads d (Some b) (Some f) h' put whole' live live_nodes.ordered live_nodes.reduced from'
          (lines_set (Means n (listed nodes') p.order) h.lines p.lines d (Some b) (Some f)
          (means_kept n p.order (order_is h nodes p o) (listed nodes) (listed nodes') h.lines p.lines (λ c m. (kept c m).1) o.lines)
          ((tree_means n p.order (order_is h nodes p o) (listed nodes') b f).0 new.1))

      -- what is reached is live, and so there are no more parts than nodes
      pub few_enough : ltb p.size (used_of (with_line p d (Some f))) ≡ false
      few_enough =
          let q = holds_new in
          let u : length q.reachable ≡ used_of (with_line p d (Some f)) = sym q.used ∙ used_holds h' nodes' (with_line p d (Some f)) q in
          let a = pigeonhole q.reachable live q.reached.apart (λ i m. reach_live q i m) in
          let c = counts_filled w.marks' live (apart_live w.marks') (λ i. (from_live w.marks' i, in_live w.marks' i)) in
          let g = filled_le w.marks' in
          let k = w.outcome.state.long in
          let s = whole' in
          le-ltb p.size (used_of (with_line p d (Some f))) (omega arith)
        where
          reach_live : (q : Holds h' nodes' (with_line p d (Some f))) (i : ℕ) → In i q.reachable → In i live
          reach_live q i m =
              let r = q.reached.reached i m in
              follow_in n (listed nodes') (λ i. In i live) live_nodes.ordered r.2.0 0 r.0 i (from' r.0 (subst (λ (ls : List (Option Branch)). In r.0 (held ls)) put.lines r.1)) r.2.1

    pub stands : {r : Option Branch} → Grew n nodes (held h.lines) (view_of n p.order f) nodes' r → (i : ℕ) → Reached (listed nodes) (held h.lines) i → listed nodes' i ≡ listed nodes i
    stands w i q = reached_kept n nodes (held h.lines) (view_of n p.order f) nodes' o.reachable (diagram h nodes p o) (roots_from h nodes p o) w i q

-- a refused growth leaves the plan with what it held
pub kept_holds : (h : Header) (nodes : List Node) (p : Plain) (o : Holds h nodes p) (nodes' : List Node) (f : Selection) (d : ℕ) → d < 32 → get_or h.lines d None ≡ None
    → {r : Option Branch} → Grew (pins p) nodes (held h.lines) (view_of (pins p) p.order f) nodes' r → Holds h nodes' p
kept_holds h nodes p o nodes' f d small vacant w =
    let n = pins p in
    let rs = held h.lines in
    let T = listed nodes in
    let T' = listed nodes' in
    let t = view_of n p.order f in
    let same : (i : ℕ) → In i o.reachable → T i ≡ T' i = λ i m. sym (reached_kept n nodes rs t nodes' o.reachable (diagram h nodes p o) (roots_from h nodes p o) w i (o.reached.reached i m)) in
    let k = root_kept n nodes rs t nodes' o.reachable (diagram h nodes p o) (roots_from h nodes p o) w in
    record {
      heads = o.heads;
      whole = w.outcome.grown.size ∙ o.whole;
      reachable = o.reachable;
      reached = record {
        apart = o.reached.apart;
        reached = λ i m. let r = o.reached.reached i m in (r.0, r.1, (r.2.0, sym (follow_kept n T T' (λ i. In i o.reachable) o.ordered same r.2.0 0 r.0 (roots_from h nodes p o r.0 r.1)) ∙ r.2.1));
        all = λ i r. o.reached.all i (r.0, r.1, (r.2.0, follow_kept n T T' (λ i. In i o.reachable) o.ordered same r.2.0 0 r.0 (roots_from h nodes p o r.0 r.1) ∙ r.2.1));
      };
      ordered = ordered_same n T T' o.reachable same o.ordered;
      reduced = reduced_same T T' o.reachable same o.reduced;
      lines = means_kept n p.order (order_is h nodes p o) T T' h.lines p.lines (λ c m. (k c m).1) o.lines;
      used = o.used;
    }
  where
    ordered_same : (n : ℕ) (T T' : Table) (us : List ℕ) → ((i : ℕ) → In i us → T i ≡ T' i) → Ordered n T (λ i. In i us) → Ordered n T' (λ i. In i us)
    ordered_same n T T' us same o = record {
      within = λ i m. subst (λ (x : Node). x.place < n) (same i m) (o.within i m);
      rising = λ i m v. subst (λ (x : Node). From (λ i. In i us) T' (suc x.place) (side v x)) (same i m) (from_wider T T' (λ i. In i us) (λ i. In i us) same (λ i m. m) (suc (T i).place) (side v (T i)) (o.rising i m v));
    }

    reduced_same : (T T' : Table) (us : List ℕ) → ((i : ℕ) → In i us → T i ≡ T' i) → Reduced T (λ i. In i us) → Reduced T' (λ i. In i us)
    reduced_same T T' us same r = record {
      tested = λ i m e. r.tested i m (subst (λ (x : Node). x.low ≡ x.high) (sym (same i m)) e);
      shared = λ i k m q e. r.shared i k m q (same i m ∙ e ∙ sym (same k q));
    }
