-- The list of parts, and what stands in it.
use Rattle.std.proofs.Common.{◌≡◌, ℕ, zero, suc, ◌+◌, ◌<◌, Bool, true, false, List, [], ◌∷◌, map, length, drop, Some, sym, refl, ap, ◌∙◌, subst, inl, inr, add-zero, zero-add, arith}
use Rattle.std.proofs.lemmas.Bool.{both_ways}
use Rattle.model.specs.Lists.{In, Apart, keep, once, held}
use Rattle.model.specs.Trees.{Tree, leaf, fork, same, matters, half, remains}
use Rattle.model.specs.Parts.{Part, halves, level, parts}
use Rattle.model.specs.Selections.{Selection, all_low, fix, view, view_of, views}
use Rattle.model.specs.Theorems.{PartsAre, PartsOfSelections}
use Rattle.model.proofs.Lists.{in_cast, in-++-left, in-++-right, in-++, in_map, from_map, apart_map, apart-++, in_held, from_held, held_map}
use Rattle.model.proofs.Onces.{from_keep, in_keep, from_once, in_once, apart_once}
use Rattle.model.proofs.Trees.{tells_same, from_halves, in_halves, remains_leaf}
use Rattle.model.proofs.Views.{remains_view}

-- the different parts at one place
abbrev pub front : ℕ → List Tree → List Part
front d ts = map (λ t. (d, t)) (once same (keep matters ts))

pub from_front : (d : ℕ) (ts : List Tree) (k : Part) → In k (front d ts) → (k.0 ≡ d) × In k.1 ts × (matters k.1 ≡ true)
from_front d ts k m =
    let r = from_map (λ t. (d, t)) k (once same (keep matters ts)) m in
    let t : k.1 ≡ r.0 = ap (λ (w : Part). w.1) r.2 in
    let w = from_keep matters r.0 ts (from_once same tells_same r.0 (keep matters ts) r.1) in
    (ap (λ (w : Part). w.0) r.2, in_cast r.0 k.1 ts (sym t) w.0, ap matters t ∙ w.1)

pub in_front : (d : ℕ) (ts : List Tree) (t : Tree) → In t ts → matters t ≡ true → In (d, t) (front d ts)
in_front d ts t m w = in_map (λ t. (d, t)) t (once same (keep matters ts)) (in_once same tells_same t (keep matters ts) (in_keep matters t ts m w))

-- a part stands at a level, and matters there
pub from_parts : (h d : ℕ) (ts : List Tree) (k : Part) → In k (parts h d ts)
    → (j : ℕ) × (k.0 ≡ d + j) × (j < h) × In k.1 (level j ts) × (matters k.1 ≡ true)
from_parts zero d ts k m = absurd m
from_parts (suc h) d ts k m =
    elim (in-++ k (front d ts) (parts h (suc d) (halves ts)) m) [
      | inl p ↦ (let r = from_front d ts k p in let e = r.0 in (0, omega arith, omega arith, r.1, r.2))
      | inr p ↦ (let r = from_parts h (suc d) (halves ts) k p in let e = r.1 in let l = r.2 in (suc r.0, omega arith, omega arith, r.3, r.4))
    ]

pub apart_parts : (h d : ℕ) (ts : List Tree) → Apart (parts h d ts)
apart_parts zero d ts = tt
apart_parts (suc h) d ts =
    apart-++ (front d ts) (parts h (suc d) (halves ts))
    (apart_map (λ t. (d, t)) (once same (keep matters ts)) (λ x y p q e. ap (λ (w : Part). w.1) e) (apart_once same tells_same (keep matters ts)))
    (apart_parts h (suc d) (halves ts))
    (λ k p q. let e = (from_front d ts k p).0 in let l = (from_parts h (suc d) (halves ts) k q).1 in omega arith)

-- what matters at a level is a part
pub level_part : (j h d : ℕ) (ts : List Tree) (t : Tree) → In t (level j ts) → j < h → matters t ≡ true → In (d + j, t) (parts h d ts)
level_part j zero d ts t m l w = absurd (omega arith)
level_part zero (suc h) d ts t m l w =
    in_cast (d, t) (d + 0, t) (parts (suc h) d ts) (ap (λ k. (k, t)) (sym (add-zero d)))
    (in-++-left (d, t) (front d ts) (parts h (suc d) (halves ts)) (in_front d ts t m w))
level_part (suc j) (suc h) d ts t m l w =
    let k : suc d + j ≡ d + suc j = omega arith in
    in_cast (suc d + j, t) (d + suc j, t) (parts (suc h) d ts) (ap (λ k. (k, t)) k)
    (in-++-right (suc d + j, t) (front d ts) (parts h (suc d) (halves ts)) (level_part j h (suc d) (halves ts) t m (omega arith) w))

pub level_halves : (j : ℕ) (ts : List Tree) (l r : Tree) → In (fork l r) (level j ts) → In l (level (suc j) ts) × In r (level (suc j) ts)
level_halves zero ts l r m = in_halves l r ts m
level_halves (suc j) ts l r m = level_halves j (halves ts) l r m

-- a level has what remains with that many pins fixed
pub from_level : (j : ℕ) (ts : List Tree) (t : Tree) → In t (level j ts) → (u : Tree) × In u ts × ((vs : List Bool) × (length vs ≡ j) × (t ≡ remains vs u))
from_level zero ts t m = (t, m, ([], refl, refl))
from_level (suc j) ts t m =
    let r = from_level j (halves ts) t m in
    let k = from_halves r.0 ts r.1 in
    let u = fork k.0 k.1.0 in
    elim k.1.1.1 [
      | inl e ↦ (u, k.1.1.0, (false ∷ r.2.0, ap suc r.2.1, r.2.2 ∙ ap (remains r.2.0) e))
      | inr e ↦ (u, k.1.1.0, (true ∷ r.2.0, ap suc r.2.1, r.2.2 ∙ ap (remains r.2.0) e))
    ]

in_half : (v : Bool) (l r : Tree) (ts : List Tree) → In (fork l r) ts → In (half v (fork l r)) (halves ts)
in_half false l r ts m = (in_halves l r ts m).0
in_half true l r ts m = (in_halves l r ts m).1

in_level : (vs : List Bool) (u : Tree) (ts : List Tree) → In u ts → matters (remains vs u) ≡ true → In (remains vs u) (level (length vs) ts)
in_level [] u ts m w = m
in_level (v ∷ vs) (leaf c) ts m w = absurd (both_ways false refl (ap matters (sym (remains_leaf vs c)) ∙ w))
in_level (v ∷ vs) (fork l r) ts m w = in_level vs (half v (fork l r)) (halves ts) (in_half v l r ts m) w

pub parts_are : PartsAre
parts_are n ts = (apart_parts n 0 ts, λ j t. (there j t, back j t))
  where
    Remaining : ℕ → Tree → Type 0
    Remaining j t = (j < n) × (matters t ≡ true) × ((u : Tree) × In u ts × ((vs : List Bool) × (length vs ≡ j) × (t ≡ remains vs u)))

    there : (j : ℕ) (t : Tree) → In (j, t) (parts n 0 ts) → Remaining j t
    there j t m =
        let r = from_parts n 0 ts (j, t) m in
        let e : r.0 ≡ j = let z = r.1 in omega arith in
        (subst (λ i. i < n) e r.2, r.4, from_level j ts t (subst (λ i. In t (level i ts)) e r.3))

    back : (j : ℕ) (t : Tree) → Remaining j t → In (j, t) (parts n 0 ts)
    back j t r =
        let u = r.2.0 in
        let vs = r.2.2.0 in
        let e = r.2.2.2 in
        let m : In t (level j ts) = subst (λ i. In t (level i ts)) r.2.2.1
        (in_cast (remains vs u) t (level (length vs) ts) (sym e) (in_level vs u ts r.2.1 (ap matters (sym e) ∙ r.1))) in
        in_cast (0 + j, t) (j, t) (parts n 0 ts) (ap (λ k. (k, t)) (zero-add j)) (level_part j n 0 ts t m r.0 r.1)

pub parts_of_selections : PartsOfSelections
parts_of_selections n order o lines j t = (there, back)
  where
    ts : List Tree
    ts = held (views n order lines)

    viewed : (f : Selection) (vs : List Bool) → length vs ≡ j → remains vs (view_of n order f) ≡ view n f (drop j order) (fix order vs all_low)
    viewed f vs l = remains_view n f order vs all_low ∙ ap (λ k. view n f (drop k order) (fix order vs all_low)) l

    Remaining : Type 0
    Remaining = (j < n) × (matters t ≡ true) × ((f : Selection) × In (Some f) lines × ((vs : List Bool) × (length vs ≡ j) × (t ≡ view n f (drop j order) (fix order vs all_low))))

    there : In (j, t) (parts n 0 ts) → Remaining
    there m =
        let r = ((parts_are n ts).1 j t).0 m in
        let u = r.2.0 in
        let w = from_map (view_of n order) u (held lines) (subst (In u) (held_map (view_of n order) lines) r.2.1) in
        let vs = r.2.2.0 in
        let l = r.2.2.1 in
        (r.0, r.1, (w.0, from_held w.0 lines w.1, (vs, l, r.2.2.2 ∙ (ap (remains vs) w.2 ∙ viewed w.0 vs l))))

    back : Remaining → In (j, t) (parts n 0 ts)
    back r =
        let f = r.2.0 in
        let vs = r.2.2.0 in
        let l = r.2.2.1 in
        let u = view_of n order f in
        let m : In u ts = subst (In u) (sym (held_map (view_of n order) lines)) (in_map (view_of n order) f (held lines) (in_held f lines r.2.1)) in
        ((parts_are n ts).1 j t).1 (r.0, r.1, (u, m, (vs, l, r.2.2.2 ∙ sym (viewed f vs l))))
