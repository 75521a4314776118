-- Trees: the test of equality, and what the lists of trees hold.
use Rattle.std.proofs.Common.{◌≡◌, ℕ, Bool, true, false, ◌⊎◌, List, [], ◌∷◌, refl, ap, ap₂, inl, inr, arith}
use Rattle.std.proofs.lemmas.Bool.{eqb-true, eq-eqb, and_parts, and_from}
use Rattle.model.specs.Lists.{In}
use Rattle.model.specs.Trees.{Tree, leaf, fork, same, remains}
use Rattle.model.specs.Parts.{halves}
use Rattle.model.proofs.Onces.{Tells, tells_of, tells_ne}

pub same_eq : (t u : Tree) → same t u ≡ true → t ≡ u
same_eq (leaf a) (leaf b) e = ap leaf (eqb-true a b e)
same_eq (leaf a) (fork l r) e = let z : leaf a ≡ fork l r = cc in z
same_eq (fork l r) (leaf b) e = let z : fork l r ≡ leaf b = cc in z
same_eq (fork l r) (fork l' r') e =
    let p = and_parts (same l l') (same r r') e in ap₂ fork (same_eq l l' p.0) (same_eq r r' p.1)

pub same_refl : (t : Tree) → same t t ≡ true
same_refl (leaf a) = eq-eqb a a refl
same_refl (fork l r) = and_from (same l l) (same r r) (same_refl l) (same_refl r)

pub tells_same : Tells same
tells_same = record { is = same_eq; self = same_refl }

pub same_of : (t u : Tree) → t ≡ u → same t u ≡ true
same_of t u e = tells_of same tells_same t u e

pub same_ne : (t u : Tree) → (t ≡ u → ⊥) → same t u ≡ false
same_ne t u h = tells_ne same tells_same t u h

pub from_halves : (x : Tree) (ts : List Tree) → In x (halves ts) → (l : Tree) × ((r : Tree) × (In (fork l r) ts × ((x ≡ l) ⊎ (x ≡ r))))
from_halves x [] m = absurd m
from_halves x (leaf c ∷ ts) m = let k = from_halves x ts m in (k.0, (k.1.0, (inr k.1.1.0, k.1.1.1)))
from_halves x (fork l r ∷ ts) (inl e) = (l, (r, (inl refl, inl e)))
from_halves x (fork l r ∷ ts) (inr (inl e)) = (l, (r, (inl refl, inr e)))
from_halves x (fork l r ∷ ts) (inr (inr m)) = let k = from_halves x ts m in (k.0, (k.1.0, (inr k.1.1.0, k.1.1.1)))

abbrev left_of : Tree → Tree
left_of (leaf c) = leaf c
left_of (fork l r) = l

abbrev right_of : Tree → Tree
right_of (leaf c) = leaf c
right_of (fork l r) = r

pub fork_left : {l r l' r' : Tree} → fork l r ≡ fork l' r' → l ≡ l'
fork_left e = ap left_of e

pub fork_right : {l r l' r' : Tree} → fork l r ≡ fork l' r' → r ≡ r'
fork_right e = ap right_of e

pub in_halves : (l r : Tree) (ts : List Tree) → In (fork l r) ts → In l (halves ts) × In r (halves ts)
in_halves l r [] m = absurd m
in_halves l r (leaf c ∷ ts) (inl e) = let z : In l (halves ts) × In r (halves ts) = absurd (let w : ◌≡◌ {A = ℕ} 0 1 = cc in omega arith) in z
in_halves l r (leaf c ∷ ts) (inr m) = in_halves l r ts m
in_halves l r (fork l' r' ∷ ts) (inl e) = (inl (fork_left e), inr (inl (fork_right e)))
in_halves l r (fork l' r' ∷ ts) (inr m) = let k = in_halves l r ts m in (inr (inr k.0), inr (inr k.1))

abbrev leaf_code : Tree → ℕ
leaf_code (leaf c) = c
leaf_code (fork l r) = 0

pub leaf_told : {a c : ℕ} → leaf a ≡ leaf c → a ≡ c
leaf_told e = ap leaf_code e

pub remains_leaf : (vs : List Bool) (c : ℕ) → remains vs (leaf c) ≡ leaf c
remains_leaf [] c = refl
remains_leaf (v ∷ vs) c = remains_leaf vs c
