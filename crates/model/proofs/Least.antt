-- Each part of the tree of an ordered diagram is the tree of one of its nodes, at that node's place.
use Rattle.std.proofs.Common.{◌≡◌, ℕ, zero, suc, ◌+◌, ◌-◌, ◌≤◌, Bool, true, false, cond, not, eqb, List, [], ◌∷◌, map, length, sym, refl, ap, ◌∙◌, subst, inl, inr, arith}
use lib.ListN.{length-map}
use Rattle.std.proofs.lemmas.Bool.{both_ways, not-true, eqb-true, eqb-false}
use Rattle.model.specs.Lists.{In}
use Rattle.model.specs.Trees.{Tree, fork, same, matters}
use Rattle.model.specs.Parts.{Part, halves, parts, count}
use Rattle.model.specs.Diagrams.{Table, side, next, tree, key, From, Ordered, Branch, end, node}
use Rattle.model.proofs.Lists.{in_cast, pigeonhole, in-++, in_map}
use Rattle.model.proofs.Trees.{same_refl, from_halves, fork_left, fork_right}
use Rattle.model.proofs.Parts.{front, from_front, apart_parts}

-- the next pin leads on in the diagram
pub from_next : (n : ℕ) (T : Table) (U : ℕ → Type 0) → Ordered n T U → (d : ℕ) (s : Bool) (b : Branch) → From U T d b → From U T (suc d) (next T d s b)
from_next n T U o d s (end c) f = tt
from_next n T U o d s (node i) f = go (eqb (T i).place d) refl
  where
    go : (q : Bool) → eqb (T i).place d ≡ q → From U T (suc d) (cond q (side s (T i)) (node i))
    go true e = subst (λ p. From U T (suc p) (side s (T i))) (eqb-true (T i).place d e) (o.rising i f.0 s)
    go false e = (f.0, let ne = eqb-false (T i).place d e in let le = f.1 in omega arith)

-- past the last place there is no node
pub no_node : (n : ℕ) (T : Table) (U : ℕ → Type 0) → Ordered n T U → (d i : ℕ) → d + 0 ≡ n → From U T d (node i) → ⊥
no_node n T U o d i e f = let x = o.within i f.0 in let y = f.1 in omega arith

-- what matters at d is a node of place d
matter_node : (T : Table) (h d : ℕ) (b : Branch) → matters (tree T (suc h) d b) ≡ true → (i : ℕ) × (b ≡ node i) × ((T i).place ≡ d)
matter_node T h d (end c) m = let t = tree T h (suc d) (end c) in absurd (both_ways (same t t) (not-true (same t t) m) (same_refl t))
matter_node T h d (node i) m = go (eqb (T i).place d) refl m
  where
    go : (q : Bool) → eqb (T i).place d ≡ q
        → not (same (tree T h (suc d) (cond q (T i).low (node i))) (tree T h (suc d) (cond q (T i).high (node i)))) ≡ true
        → (k : ℕ) × (node i ≡ node k) × ((T k).place ≡ d)
    go true e w = (i, refl, eqb-true (T i).place d e)
    go false e w = let t = tree T h (suc d) (node i) in absurd (both_ways (same t t) (not-true (same t t) w) (same_refl t))

-- the trees are those of branches of the diagram, with d pins fixed and h left
abbrev Unfolds : Table → (ℕ → Type 0) → ℕ → ℕ → List Tree → Type 0
Unfolds T U h d ts = (t : Tree) → In t ts → (b : Branch) × From U T d b × (t ≡ tree T h d b)

unfolds_halves : (n : ℕ) (T : Table) (U : ℕ → Type 0) → Ordered n T U → (h d : ℕ) (ts : List Tree) → Unfolds T U (suc h) d ts → Unfolds T U h (suc d) (halves ts)
unfolds_halves n T U o h d ts g x m =
    let k = from_halves x ts m in
    let w = g (fork k.0 k.1.0) k.1.1.0 in
    elim k.1.1.1 [
      | inl e ↦ (next T d false w.0, from_next n T U o d false w.0 w.1, e ∙ fork_left w.2)
      | inr e ↦ (next T d true w.0, from_next n T U o d true w.0 w.1, e ∙ fork_right w.2)
    ]

pub key_is : (n : ℕ) (T : Table) (h d i : ℕ) (b : Branch) → d + h ≡ n → b ≡ node i → (T i).place ≡ d → ◌≡◌ {A = Part} (d, tree T h d b) (key n T i)
key_is n T h d i b e f p =
    let q : h ≡ n - (T i).place = omega arith in
    λ j. (sym p j, tree T (q j) (sym p j) (f j))

pub covered : (n : ℕ) (T : Table) (U : ℕ → Type 0) → Ordered n T U → (h d : ℕ) (ts : List Tree) → d + h ≡ n → Unfolds T U h d ts
    → (k : Part) → In k (parts h d ts) → (i : ℕ) × U i × (k ≡ key n T i)
covered n T U o zero d ts e g k m = absurd m
covered n T U o (suc h) d ts e g k m =
    elim (in-++ k (front d ts) (parts h (suc d) (halves ts)) m) [
      | inl p ↦ top (from_front d ts k p)
      | inr p ↦ covered n T U o h (suc d) (halves ts) (omega arith) (unfolds_halves n T U o h d ts g) k p
    ]
  where
    top : (k.0 ≡ d) × In k.1 ts × (matters k.1 ≡ true) → (i : ℕ) × U i × (k ≡ key n T i)
    top r =
        let v = g k.1 r.1 in
        let x = matter_node T h d v.0 (ap matters (sym v.2) ∙ r.2) in
        let y = subst (From U T d) x.1 v.1 in
        (x.0, y.0, (λ j. (r.0 j, v.2 j)) ∙ key_is n T (suc h) d x.0 v.0 e x.1 x.2)

-- an ordered diagram has at least as many nodes as its tree has parts
pub least : (n : ℕ) (T : Table) (us : List ℕ) (b : Branch) → Ordered n T (λ i. In i us) → From (λ i. In i us) T 0 b → count n (tree T n 0 b) ≤ length us
least n T us b o f =
    let ts = tree T n 0 b ∷ [] in
    let g : Unfolds T (λ i. In i us) n 0 ts = λ t m. elim m [ inl e ↦ (b, f, e) | inr z ↦ absurd z ] in
    let l = pigeonhole (parts n 0 ts) (map (key n T) us) (apart_parts n 0 ts)
    (λ k m. let c = covered n T (λ i. In i us) o n 0 ts (omega arith) g k m in
    in_cast (key n T c.0) k (map (key n T) us) (sym c.2) (in_map (key n T) c.0 us c.1)) in
    omega (arith, length-map us (key n T))
