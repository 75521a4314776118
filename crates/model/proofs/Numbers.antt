-- The numbering of reduced nodes is that of the parts.
use Rattle.std.proofs.Common.{◌≡◌, ℕ, zero, suc, ◌+◌, Bool, true, false, cond, not, eqb, List, [], ◌∷◌, ◌++◌, map, sym, refl, ap, ◌∙◌, subst, ap₂, inl, inr, arith}
use Rattle.std.proofs.lemmas.Bool.{eqb-true, eqb-false}
use Rattle.model.specs.Lists.{In, keep, once}
use Rattle.model.specs.Trees.{Tree, same, matters}
use Rattle.model.specs.Parts.{halves, parts}
use Rattle.model.specs.Diagrams.{Table, side, next, tree, key, From, Ordered, Reduced, Branch, end, node}
use Rattle.model.specs.Numberings.{asking, ahead, numbering}
use Rattle.model.proofs.Lists.{map_same, map-++, map_map}
use Rattle.model.proofs.Onces.{tells_through, tells_eqb, from_once, once_map}
use Rattle.model.proofs.Trees.{tells_same, same_of}
use Rattle.model.proofs.Least.{from_next, key_is}
use Rattle.model.proofs.Canon.{Passes, node_inj, told, asks_matters}

halves_ahead : (T : Table) (h d : ℕ) (bs : List Branch) → halves (map (tree T (suc h) d) bs) ≡ map (tree T h (suc d)) (ahead T d bs)
halves_ahead T h d [] = refl
halves_ahead T h d (b ∷ bs) =
    ap (λ z. tree T h (suc d) (next T d false b) ∷ (tree T h (suc d) (next T d true b) ∷ z)) (halves_ahead T h d bs)

-- all branches lead into the diagram at d or later
abbrev pub Froms : (ℕ → Type 0) → Table → ℕ → List Branch → Type 0
Froms U T d bs = (b : Branch) → In b bs → From U T d b

pub in_ahead : (T : Table) (d : ℕ) (v : Bool) (b : Branch) (bs : List Branch) → In b bs → In (next T d v b) (ahead T d bs)
in_ahead T d v b [] m = absurd m
in_ahead T d false b (e ∷ bs) (inl p) = inl (ap (next T d false) p)
in_ahead T d true b (e ∷ bs) (inl p) = inr (inl (ap (next T d true) p))
in_ahead T d v b (e ∷ bs) (inr m) = inr (inr (in_ahead T d v b bs m))

pub from_ahead : (T : Table) (d : ℕ) (e : Branch) (bs : List Branch) → In e (ahead T d bs) → (b : Branch) × In b bs × ((v : Bool) × (e ≡ next T d v b))
from_ahead T d e [] m = absurd m
from_ahead T d e (b ∷ bs) (inl p) = (b, inl refl, (false, p))
from_ahead T d e (b ∷ bs) (inr (inl p)) = (b, inl refl, (true, p))
from_ahead T d e (b ∷ bs) (inr (inr m)) = let r = from_ahead T d e bs m in (r.0, inr r.1, r.2)

pub froms_ahead : (n : ℕ) (T : Table) (U : ℕ → Type 0) → Ordered n T U → (d : ℕ) (bs : List Branch) → Froms U T d bs → Froms U T (suc d) (ahead T d bs)
froms_ahead n T U o d bs f e m =
    let r = from_ahead T d e bs m in subst (From U T (suc d)) (sym r.2.1) (from_next n T U o d r.2.0 r.0 (f r.0 r.1))

-- the nodes that ask the pin at d are those of place d
pub from_asking : (T : Table) (d i : ℕ) (bs : List Branch) → In i (asking T d bs) → In (node i) bs × ((T i).place ≡ d)
from_asking T d i [] m = absurd m
from_asking T d i (end c ∷ bs) m = let r = from_asking T d i bs m in (inr r.0, r.1)
from_asking T d i (node k ∷ bs) m = go (eqb (T k).place d) refl m (from_asking T d i bs)
  where
    go : (q : Bool) → eqb (T k).place d ≡ q → In i (cond q (k ∷ asking T d bs) (asking T d bs)) → (In i (asking T d bs) → In (node i) bs × ((T i).place ≡ d))
        → In (node i) (node k ∷ bs) × ((T i).place ≡ d)
    go true e (inl p) ih = (inl (ap node p), ap (λ j. (T j).place) p ∙ eqb-true (T k).place d e)
    go true e (inr m) ih = let r = ih m in (inr r.0, r.1)
    go false e m ih = let r = ih m in (inr r.0, r.1)

pub in_asking : (T : Table) (d i : ℕ) (bs : List Branch) → In (node i) bs → (T i).place ≡ d → In i (asking T d bs)
in_asking T d i [] m e = absurd m
in_asking T d i (end c ∷ bs) (inl p) e = absurd (let z : ◌≡◌ {A = ℕ} 0 1 = cc in omega arith)
in_asking T d i (end c ∷ bs) (inr m) e = in_asking T d i bs m e
in_asking T d i (node k ∷ bs) m e = go (eqb (T k).place d) refl m (λ x. in_asking T d i bs x e)
  where
    go : (q : Bool) → eqb (T k).place d ≡ q → In (node i) (node k ∷ bs) → (In (node i) bs → In i (asking T d bs)) → In i (cond q (k ∷ asking T d bs) (asking T d bs))
    go true w (inl p) ih = inl (node_inj i k p)
    go true w (inr x) ih = inr (ih x)
    go false w (inl p) ih = absurd (eqb-false (T k).place d w (ap (λ j. (T j).place) (sym (node_inj i k p)) ∙ e))
    go false w (inr x) ih = ih x

asking_in : (T : Table) (U : ℕ → Type 0) (d i : ℕ) (bs : List Branch) → Froms U T d bs → In i (asking T d bs) → U i × ((T i).place ≡ d)
asking_in T U d i bs f m = let r = from_asking T d i bs m in ((f (node i) r.0).0, r.1)

pub passes_not : (T : Table) (h d : ℕ) (b : Branch) → Passes T d b → matters (tree T (suc h) d b) ≡ false
passes_not T h d b x =
    let t = tree T h (suc d) in
    ap not (same_of (t (next T d false b)) (t (next T d true b)) (ap t (x.stays false ∙ sym (x.stays true))))

keep_asking : (n : ℕ) (T : Table) (U : ℕ → Type 0) → Ordered n T U → Reduced T U → (h d : ℕ) → d + suc h ≡ n → (bs : List Branch) → Froms U T d bs
    → keep matters (map (tree T (suc h) d) bs) ≡ map (λ i. tree T (suc h) d (node i)) (asking T d bs)
keep_asking n T U o r h d eq [] f = refl
keep_asking n T U o r h d eq (end c ∷ bs) f =
    ap (λ q. cond q (tree T (suc h) d (end c) ∷ keep matters (map (tree T (suc h) d) bs)) (keep matters (map (tree T (suc h) d) bs)))
    (passes_not T h d (end c) (record { stays = λ s. refl }))
    ∙ keep_asking n T U o r h d eq bs (λ x k. f x (inr k))
keep_asking n T U o r h d eq (node k ∷ bs) f =
    go (eqb (T k).place d) refl (keep_asking n T U o r h d eq bs (λ x k. f x (inr k)))
  where
    t : Tree
    t = tree T (suc h) d (node k)

    rest : List Tree
    rest = keep matters (map (tree T (suc h) d) bs)

    go : (q : Bool) → eqb (T k).place d ≡ q → rest ≡ map (λ i. tree T (suc h) d (node i)) (asking T d bs)
        → cond (matters t) (t ∷ rest) rest ≡ map (λ i. tree T (suc h) d (node i)) (cond q (k ∷ asking T d bs) (asking T d bs))
    go true e ih =
        ap (λ q. cond q (t ∷ rest) rest)
        (asks_matters n T U o r h d (node k) eq (f (node k) (inl refl))
        (record { i = k; used = (f (node k) (inl refl)).0; is = refl; here = eqb-true (T k).place d e; goes = λ s. ap (λ q. cond q (side s (T k)) (node k)) e }))
        ∙ ap (λ z. t ∷ z) ih
    go false e ih =
        ap (λ q. cond q (t ∷ rest) rest) (passes_not T h d (node k) (record { stays = λ s. ap (λ q. cond q (side s (T k)) (node k)) e })) ∙ ih

-- trees of nodes of one place are equal exactly where the nodes are
same_nodes : (n : ℕ) (T : Table) (U : ℕ → Type 0) → Ordered n T U → Reduced T U → (h d : ℕ) → d + h ≡ n → (i k : ℕ) → U i × ((T i).place ≡ d) → U k × ((T k).place ≡ d)
    → same (tree T h d (node i)) (tree T h d (node k)) ≡ eqb i k
same_nodes n T U o r h d eq i k u v =
    tells_through eqb tells_eqb same tells_same (λ j. tree T h d (node j)) i k (λ w.
    node_inj i k (told n T U o r h d (node i) (node k) eq (u.0, let p = u.1 in omega arith) (v.0, let p = v.1 in omega arith) w))

pub numbered : (n : ℕ) (T : Table) (U : ℕ → Type 0) → Ordered n T U → Reduced T U → (h d : ℕ) → d + h ≡ n → (bs : List Branch) → Froms U T d bs
    → parts h d (map (tree T h d) bs) ≡ map (key n T) (numbering T h d bs)
numbered n T U o r zero d eq bs f = refl
numbered n T U o r (suc h) d eq bs f =
    ap₂ ◌++◌
    (ap (λ z. map (λ t. (d, t)) (once same z)) (keep_asking n T U o r h d eq bs f)
    ∙ (ap (map (λ t. (d, t))) (once_map eqb tells_eqb same g is (λ x y p q. same_nodes n T U o r (suc h) d eq x y (asking_in T U d x bs f p) (asking_in T U d y bs f q)))
    ∙ (map_map (λ t. (d, t)) g (once eqb is)
    ∙ map_same (λ i. (d, g i)) (key n T) (once eqb is) (λ i m.
    key_is n T (suc h) d i (node i) eq refl (asking_in T U d i bs f (from_once eqb tells_eqb i is m)).1))))
    (ap (parts h (suc d)) (halves_ahead T h d bs) ∙ numbered n T U o r h (suc d) (omega arith) (ahead T d bs) (froms_ahead n T U o d bs f))
    ∙ sym (map-++ (key n T) (once eqb is) (numbering T h (suc d) (ahead T d bs)))
  where
    g : ℕ → Tree
    g i = tree T (suc h) d (node i)

    is : List ℕ
    is = asking T d bs
