-- Tables that change or grow: what stays, and what a new node means.
use Rattle.std.proofs.Common.{◌≡◌, ℕ, zero, suc, ◌<◌, ◌≤◌, Bool, true, false, cond, eqb, ◌⊎◌, List, [], ◌∷◌, map, sym, refl, ap, ◌∙◌, subst, ap₂, inl, inr, arith}
use lib.ListN.{length-map}
use Rattle.std.proofs.lemmas.Bool.{eq-eqb, ne_eqb}
use Rattle.model.specs.Lists.{In}
use Rattle.model.specs.Trees.{fork}
use Rattle.model.specs.Parts.{parts}
use Rattle.model.specs.Diagrams.{Table, side, next, tree, key, From, Ordered, Reduced, follow, Branch, Node, end, node}
use Rattle.model.specs.Theorems.{OnePartMore}
use Rattle.model.proofs.Lists.{in_cast, pigeonhole, from_map, apart_map}
use Rattle.model.proofs.Least.{from_next}
use Rattle.model.proofs.Canon.{key_told}

-- the tables agree on U
abbrev pub Agree : (ℕ → Type 0) → Table → Table → Type 0
Agree U T T' = (i : ℕ) → U i → T i ≡ T' i

next_kept : (T T' : Table) (U : ℕ → Type 0) → Agree U T T' → (d : ℕ) (s : Bool) (b : Branch) → From U T d b → next T d s b ≡ next T' d s b
next_kept T T' U a d s (end c) f = refl
next_kept T T' U a d s (node i) f = ap (λ (k : Node). cond (eqb k.place d) (side s k) (node i)) (a i f.0)

pub tree_kept : (n : ℕ) (T T' : Table) (U : ℕ → Type 0) → Ordered n T U → Agree U T T' → (h d : ℕ) (b : Branch) → From U T d b → tree T h d b ≡ tree T' h d b
tree_kept n T T' U o a zero d b f = refl
tree_kept n T T' U o a (suc h) d b f = ap₂ fork (one false (tree_kept n T T' U o a h (suc d) (next T d false b) (from_next n T U o d false b f))) (one true (tree_kept n T T' U o a h (suc d) (next T d true b) (from_next n T U o d true b f)))
  where
    one : (s : Bool) → tree T h (suc d) (next T d s b) ≡ tree T' h (suc d) (next T d s b) → tree T h (suc d) (next T d s b) ≡ tree T' h (suc d) (next T' d s b)
    one s ih = ih ∙ ap (tree T' h (suc d)) (next_kept T T' U a d s b f)

pub follow_kept : (n : ℕ) (T T' : Table) (U : ℕ → Type 0) → Ordered n T U → Agree U T T' → (vs : List Bool) (d : ℕ) (b : Branch) → From U T d b → follow T vs b ≡ follow T' vs b
follow_kept n T T' U o a [] d b f = refl
follow_kept n T T' U o a (v ∷ vs) d (end c) f = refl
follow_kept n T T' U o a (v ∷ vs) d (node i) f =
    follow_kept n T T' U o a vs (suc (T i).place) (side v (T i)) (o.rising i f.0 v) ∙ ap (λ (k : Node). follow T' vs (side v k)) (a i f.0)

pub from_wider : (T T' : Table) (U V : ℕ → Type 0) → Agree U T T' → ((i : ℕ) → U i → V i) → (d : ℕ) (b : Branch) → From U T d b → From V T' d b
from_wider T T' U V a w d (end c) f = tt
from_wider T T' U V a w d (node i) f = (w i f.0, subst (λ (k : Node). d ≤ k.place) (a i f.0) f.1)

-- U with one node more
abbrev pub More : (ℕ → Type 0) → ℕ → ℕ → Type 0
More U i k = U k ⊎ (k ≡ i)

pub ordered_more : (n : ℕ) (T T' : Table) (U : ℕ → Type 0) → Ordered n T U → Agree U T T' → (i : ℕ) → (T' i).place < n
    → ((s : Bool) → From U T (suc (T' i).place) (side s (T' i))) → Ordered n T' (More U i)
ordered_more n T T' U o a i l f = record { within = in'; rising = up }
  where
    in' : (k : ℕ) → More U i k → (T' k).place < n
    in' k (inl u) = subst (λ (x : Node). x.place < n) (a k u) (o.within k u)
    in' k (inr e) = subst (λ z. (T' z).place < n) (sym e) l

    up : (k : ℕ) → More U i k → (s : Bool) → From (More U i) T' (suc (T' k).place) (side s (T' k))
    up k (inl u) s =
        subst (λ (x : Node). From (More U i) T' (suc x.place) (side s x)) (a k u)
        (from_wider T T' U (More U i) a (λ j p. inl p) (suc (T k).place) (side s (T k)) (o.rising k u s))
    up k (inr e) s =
        subst (λ z. From (More U i) T' (suc (T' z).place) (side s (T' z))) (sym e)
        (from_wider T T' U (More U i) a (λ j p. inl p) (suc (T' i).place) (side s (T' i)) (f s))

pub reduced_more : (T T' : Table) (U : ℕ → Type 0) → Reduced T U → Agree U T T' → (i : ℕ) → ((T' i).low ≡ (T' i).high → ⊥)
    → ((k : ℕ) → U k → T k ≡ T' i → k ≡ i) → Reduced T' (More U i)
reduced_more T T' U r a i ne new = record { tested = test; shared = share }
  where
    test : (k : ℕ) → More U i k → (T' k).low ≡ (T' k).high → ⊥
    test k (inl u) e = r.tested k u (subst (λ (x : Node). x.low ≡ x.high) (sym (a k u)) e)
    test k (inr p) e = ne (subst (λ z. (T' z).low ≡ (T' z).high) p e)

    share : (j k : ℕ) → More U i j → More U i k → T' j ≡ T' k → j ≡ k
    share j k (inl u) (inl v) e = r.shared j k u v (a j u ∙ (e ∙ sym (a k v)))
    share j k (inl u) (inr q) e = new j u (a j u ∙ (e ∙ ap T' q)) ∙ sym q
    share j k (inr p) (inl v) e = p ∙ sym (new k v (a k v ∙ (sym e ∙ ap T' p)))
    share j k (inr p) (inr q) e = p ∙ sym q

-- a node of place d means a fork
pub made : (T : Table) (h d i : ℕ) → (T i).place ≡ d → tree T (suc h) d (node i) ≡ fork (tree T h (suc d) (T i).low) (tree T h (suc d) (T i).high)
made T h d i e = ap (λ q. fork (tree T h (suc d) (cond q (T i).low (node i))) (tree T h (suc d) (cond q (T i).high (node i)))) (eq-eqb (T i).place d e)

-- a branch of a later place means twice itself
pub passed : (T : Table) (U : ℕ → Type 0) (h d : ℕ) (b : Branch) → From U T (suc d) b → tree T (suc h) d b ≡ fork (tree T h (suc d) b) (tree T h (suc d) b)
passed T U h d (end c) f = refl
passed T U h d (node i) f =
    let l = f.1 in
    ap (λ q. fork (tree T h (suc d) (cond q (T i).low (node i))) (tree T h (suc d) (cond q (T i).high (node i)))) (ne_eqb (T i).place d (omega arith))

pub one_part_more : OnePartMore
one_part_more n T us ts a o r f k m new =
    let ks = map (key n T) us in
    let p = pigeonhole (k ∷ ks) (parts n 0 ts)
    (λ x. let y = from_map (key n T) k us x in new y.0 y.1 y.2, apart_map (key n T) us (key_told n T (λ i. In i us) o r) a)
    (λ x z. elim z [ inl e ↦ in_cast k x (parts n 0 ts) (sym e) m | inr q ↦ (let y = from_map (key n T) x us q in in_cast (key n T y.0) x (parts n 0 ts) (sym y.2) (f y.0 y.1)) ]) in
    let l = length-map us (key n T) in
    omega arith
