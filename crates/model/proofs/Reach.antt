-- The nodes reached from roots: their numbering, their number, and the diagram that they are.
use Rattle.std.proofs.Common.{◌≡◌, ℕ, zero, suc, ◌+◌, ◌≤◌, Bool, true, false, cond, eqb, ◌⊎◌, List, [], ◌∷◌, ◌++◌, map, length, Some, None, Option, sym, refl, ap, ◌∙◌, subst, ap₂, inl, inr, arith}
use lib.ListN.{length-map}
use Rattle.model.specs.Lists.{In, Apart, once, held, each, LineForLine}
use Rattle.model.specs.Parts.{used, count}
use Rattle.model.specs.Selections.{Selection, view_of, views}
use Rattle.model.specs.Orders.{Order}
use Rattle.model.specs.Diagrams.{Table, side, next, tree, meant, Means, key, From, Ordered, Reduced, follow, Reached, Reaches, Rival, Branch, end, node}
use Rattle.model.specs.Numberings.{asking, ahead, numbering}
use Rattle.model.specs.Theorems.{AsManyAsParts, UsedIsExact, OwnNodesLeast, OneRoot, NumberingReaches}
use Rattle.model.proofs.Lists.{in_cast, pigeonhole, in-++-left, in-++-right, in-++, apart-++, held_map}
use Rattle.model.proofs.Onces.{tells_eqb, from_once, in_once, apart_once}
use Rattle.model.proofs.Walks.{tree_means, reading_ends, no_rival_fewer}
use Rattle.model.proofs.Least.{from_next, no_node}
use Rattle.model.proofs.Canon.{Passes, Asks, asks, node_inj, told}
use Rattle.model.proofs.Numbers.{Froms, in_ahead, from_ahead, from_asking, in_asking, numbered}

-- what is reached past the pin at d is reached before it
back_step : (T : Table) (d : ℕ) (v : Bool) (b : Branch) (vs : List Bool) (i : ℕ) → follow T vs (next T d v b) ≡ node i → (ws : List Bool) × (follow T ws b ≡ node i)
back_step T d v (end c) vs i e = (vs, e)
back_step T d v (node k) vs i e = go (eqb (T k).place d) e
  where
    go : (q : Bool) → follow T vs (cond q (side v (T k)) (node k)) ≡ node i → (ws : List Bool) × (follow T ws (node k) ≡ node i)
    go true e = (v ∷ vs, e)
    go false e = (vs, e)

pub numbering_reached : (T : Table) (h d : ℕ) (bs : List Branch) (i : ℕ) → In i (numbering T h d bs) → Reached T bs i × (d ≤ (T i).place)
numbering_reached T zero d bs i m = absurd m
numbering_reached T (suc h) d bs i m =
    elim (in-++ i (once eqb (asking T d bs)) (numbering T h (suc d) (ahead T d bs)) m) [
      | inl p ↦ (let r = from_asking T d i bs (from_once eqb tells_eqb i (asking T d bs) p) in let e = r.1 in ((node i, r.0, ([], refl)), omega arith))
      | inr p ↦
          (let r = numbering_reached T h (suc d) (ahead T d bs) i p in
          let e = from_ahead T d r.0.0 bs r.0.1 in
          let l = r.1 in
          ((e.0, e.1, back_step T d e.2.0 e.0 r.0.2.0 i (ap (follow T r.0.2.0) (sym e.2.1) ∙ r.0.2.1)), omega arith))
    ]

apart_numbering : (T : Table) (h d : ℕ) (bs : List Branch) → Apart (numbering T h d bs)
apart_numbering T zero d bs = tt
apart_numbering T (suc h) d bs =
    apart-++ (once eqb (asking T d bs)) (numbering T h (suc d) (ahead T d bs)) (apart_once eqb tells_eqb (asking T d bs)) (apart_numbering T h (suc d) (ahead T d bs))
    (λ i p q. let e = (from_asking T d i bs (from_once eqb tells_eqb i (asking T d bs) p)).1 in let l = (numbering_reached T h (suc d) (ahead T d bs) i q).1 in omega arith)

numbering_all : (n : ℕ) (T : Table) (U : ℕ → Type 0) → Ordered n T U → (h d : ℕ) (b : Branch) (bs : List Branch) → d + h ≡ n → From U T d b → In b bs
    → (vs : List Bool) (i : ℕ) → follow T vs b ≡ node i → In i (numbering T h d bs)
numbering_all n T U o zero d (end c) bs e f m [] i w = absurd (let z : ◌≡◌ {A = ℕ} 0 1 = cc in omega arith)
numbering_all n T U o zero d (end c) bs e f m (v ∷ vs) i w = absurd (let z : ◌≡◌ {A = ℕ} 0 1 = cc in omega arith)
numbering_all n T U o zero d (node k) bs e f m vs i w = absurd (no_node n T U o d k e f)
numbering_all n T U o (suc h) d b bs e f m vs i w =
    go (λ v zs q. numbering_all n T U o h (suc d) (next T d v b) (ahead T d bs) (omega arith) (from_next n T U o d v b f) (in_ahead T d v b bs m) zs i q) (asks T U d b f) vs w
  where
    here : List ℕ
    here = once eqb (asking T d bs)

    later : List ℕ
    later = numbering T h (suc d) (ahead T d bs)

    go : ((v : Bool) (zs : List Bool) → follow T zs (next T d v b) ≡ node i → In i later) → Passes T d b ⊎ Asks T U d b
        → (zs : List Bool) → follow T zs b ≡ node i → In i (here ++ later)
    go ih (inl x) zs q = in-++-right i here later (ih false zs (ap (follow T zs) (x.stays false) ∙ q))
    go ih (inr y) [] q =
        let p : (T i).place ≡ d = ap (λ j. (T j).place) (sym (node_inj y.i i (sym y.is ∙ q))) ∙ y.here in
        in-++-left i here later (in_once eqb tells_eqb i (asking T d bs) (in_asking T d i bs (in_cast b (node i) bs q m) p))
    go ih (inr y) (v ∷ zs) q = in-++-right i here later (ih v zs (ap (follow T zs) (y.goes v) ∙ (ap (follow T (v ∷ zs)) (sym y.is) ∙ q)))

pub numbering_reaches : NumberingReaches
numbering_reaches n T us o roots f =
    record {
      apart = apart_numbering T n 0 roots;
      reached = λ i m. (numbering_reached T n 0 roots i m).0;
      all = λ i r. numbering_all n T (λ k. In k us) o n 0 r.0 roots (omega arith) (f r.0 r.1) r.1 r.2.0 i r.2.1;
    }

-- roots lead to what is reached from them
roots_from : (T : Table) (roots : List Branch) (us : List ℕ) → Reaches T roots us → (b : Branch) → In b roots → From (λ i. In i us) T 0 b
roots_from T roots us w (end c) m = tt
roots_from T roots us w (node i) m = (w.all i (node i, m, ([], refl)), omega arith)

pub as_many_as_parts : AsManyAsParts
as_many_as_parts n T roots us w o r =
    let f = roots_from T roots us w in
    let is = numbering T n 0 roots in
    let v = numbering_reaches n T us o roots f in
    let a = pigeonhole us is w.apart (λ i m. v.all i (w.reached i m)) in
    let b = pigeonhole is us v.apart (λ i m. w.all i (v.reached i m)) in
    let e : used n (map (tree T n 0) roots) ≡ length (map (key n T) is) = ap length (numbered n T (λ i. In i us) o r n 0 (omega arith) roots f) in
    let l = length-map is (key n T) in
    omega arith

-- roots that mean the lines have the lines' trees
pub means_views : (n : ℕ) (order : List ℕ) → Order n order → (T : Table) (roots : List (Option Branch)) (lines : List (Option Selection)) → LineForLine (Means n T order) roots lines
    → map (each (tree T n 0)) roots ≡ views n order lines
means_views n order o T [] [] w = refl
means_views n order o T [] (f ∷ fs) w = absurd w
means_views n order o T (b ∷ bs) [] w = absurd w
means_views n order o T (b ∷ bs) (f ∷ fs) w = ap₂ ◌∷◌ (one b f w.0) (means_views n order o T bs fs w.1)
  where
    one : (b : Option Branch) (f : Option Selection) → Means n T order b f → each (tree T n 0) b ≡ each (view_of n order) f
    one None None w = refl
    one None (Some f) w = absurd w
    one (Some b) None w = absurd w
    one (Some b) (Some f) w = ap Some ((tree_means n order o T b f).1 w)

pub used_is_exact : UsedIsExact
used_is_exact n order o T roots lines m us w d r =
    as_many_as_parts n T (held roots) us w d r
    ∙ ap (used n) (sym (held_map (tree T n 0) roots) ∙ ap held (means_views n order o T roots lines m))

-- what is reached from a branch of U is in U
pub follow_in : (n : ℕ) (T : Table) (U : ℕ → Type 0) → Ordered n T U → (vs : List Bool) (d : ℕ) (b : Branch) (i : ℕ) → From U T d b → follow T vs b ≡ node i → U i
follow_in n T U o [] d b i f e = (subst (From U T d) e f).0
follow_in n T U o (v ∷ vs) d (end c) i f e = absurd (let z : ◌≡◌ {A = ℕ} 0 1 = cc in omega arith)
follow_in n T U o (v ∷ vs) d (node k) i f e = follow_in n T U o vs (suc (T k).place) (side v (T k)) i (o.rising k f.0 v) e

-- one step more
follow_on : (T : Table) (vs : List Bool) (v : Bool) (b : Branch) (i : ℕ) → follow T vs b ≡ node i → follow T (vs ++ (v ∷ [])) b ≡ side v (T i)
follow_on T [] v b i e = subst (λ z. follow T (v ∷ []) z ≡ side v (T i)) (sym e) refl
follow_on T (w ∷ vs) v (end c) i e = absurd (let z : ◌≡◌ {A = ℕ} 0 1 = cc in omega arith)
follow_on T (w ∷ vs) v (node k) i e = follow_on T vs v (side w (T k)) i e

-- what is reached from roots in an ordered diagram is itself ordered
pub ordered_reached : (n : ℕ) (T : Table) (U : ℕ → Type 0) → Ordered n T U → (roots : List Branch) (vs : List ℕ) → Froms U T 0 roots → Reaches T roots vs → Ordered n T (λ i. In i vs)
ordered_reached n T U o roots vs f w = record { within = λ i m. o.within i (inside i m); rising = λ i m v. rise (suc (T i).place) (side v (T i)) (o.rising i (inside i m) v) (next_reached i m v) }
  where
    inside : (i : ℕ) → In i vs → U i
    inside i m = let r = w.reached i m in follow_in n T U o r.2.0 0 r.0 i (f r.0 r.1) r.2.1

    next_reached : (i : ℕ) → In i vs → (v : Bool) → (k : ℕ) → side v (T i) ≡ node k → In k vs
    next_reached i m v k e = let r = w.reached i m in w.all k (r.0, r.1, (r.2.0 ++ (v ∷ []), follow_on T r.2.0 v r.0 i r.2.1 ∙ e))

    rise : (d : ℕ) (b : Branch) → From U T d b → ((k : ℕ) → b ≡ node k → In k vs) → From (λ i. In i vs) T d b
    rise d (end c) g h = tt
    rise d (node k) g h = (h k refl, g.1)

pub own_nodes_least : OwnNodesLeast
own_nodes_least n order o T us d r b f g h vs w =
    record {
      rival = rival;
      exact = exact;
      least = λ T' ws e x. subst (λ k. k ≤ length ws) (sym exact) (no_rival_fewer n order o g T' ws e x);
    }
  where
    U : ℕ → Type 0
    U i = In i us

    froms : Froms U T 0 (b ∷ [])
    froms e m = elim m [ inl q ↦ subst (From U T 0) (sym q) f | inr z ↦ absurd z ]

    inside : (i : ℕ) → In i vs → U i
    inside i m = let x = w.reached i m in follow_in n T U d x.2.0 0 x.0 i (froms x.0 x.1) x.2.1

    ordered : Ordered n T (λ i. In i vs)
    ordered = ordered_reached n T U d (b ∷ []) vs froms w

    entered : From (λ i. In i vs) T 0 b
    entered = roots_from T (b ∷ []) vs w b (inl refl)

    rival : Rival n order g T vs b
    rival = record { ordered = ordered; entered = entered; selects = λ a l. (reading_ends n order o.full T vs ordered b entered a (g a)).1 (h a l) }

    reduced : Reduced T (λ i. In i vs)
    reduced = record { tested = λ i m. r.tested i (inside i m); shared = λ i k m q. r.shared i k (inside i m) (inside k q) }

    exact : length vs ≡ count n (view_of n order g)
    exact = as_many_as_parts n T (b ∷ []) vs w ordered reduced ∙ ap (count n) ((tree_means n order o T b g).1 h)

pub one_root : OneRoot
one_root n order o T us d r b e f g = (
  λ p a l. ap (λ x. meant n T order x a) p,
  λ h. told n T (λ i. In i us) d r n 0 b e (omega arith) f g
      ((tree_means n order o T b (meant n T order e)).1 h ∙ sym ((tree_means n order o T e (meant n T order e)).1 (λ a l. refl))),
)
