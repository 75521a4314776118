-- The parts are numbered by place, then by line, then by the values of the fixed pins.
use Rattle.std.proofs.Common.{◌≡◌, ℕ, zero, suc, ◌+◌, ◌*◌, ◌<◌, ◌≤◌, Bool, true, false, cond, not, ◌⊎◌, ◌↔◌, List, [], ◌∷◌, ◌++◌, map, length, Some, None, Option, sym, refl, ap, ◌∙◌, subst, inl, inr, arith}
use Rattle.std.proofs.lemmas.Bool.{both_ways, cases_lt, cases_order}
use Rattle.model.specs.Lists.{In, At, Precedes, keep, without, once, held}
use Rattle.model.specs.Trees.{Tree, leaf, fork, Full, same, matters, half, remains}
use Rattle.model.specs.Parts.{Part, halves, level, parts, number, Occurs, Sooner, First, Before}
use Rattle.model.specs.Selections.{bit}
use Rattle.model.specs.Theorems.{PartsInOrder}
use Rattle.model.proofs.Lists.{in-++, from_map, from_held}
use Rattle.model.proofs.Onces.{Tells, from_keep, from_without}
use Rattle.model.proofs.Trees.{same_eq, tells_same, same_of, from_halves}
use Rattle.model.proofs.Parts.{front, from_front, from_parts}
use Rattle.model.proofs.Settings.{bit_small}

-- The number of values behind a line's own number compares as line, then values.

-- values compared from the first pin on
abbrev Lower : List Bool → List Bool → Type 0
Lower [] [] = ⊥
Lower [] (w ∷ ws) = ⊥
Lower (v ∷ vs) [] = ⊥
Lower (v ∷ vs) (w ∷ ws) = (bit v < bit w) ⊎ ((bit v ≡ bit w) × Lower vs ws)

number_splits : (a b : ℕ) (vs ws : List Bool) → length vs ≡ length ws → number a vs < number b ws → (a < b) ⊎ ((a ≡ b) × Lower vs ws)
number_splits a b [] [] l h = inl h
number_splits a b [] (w ∷ ws) l h = absurd (omega arith)
number_splits a b (v ∷ vs) [] l h = absurd (omega arith)
number_splits a b (v ∷ vs) (w ∷ ws) l h =
    let p = bit_small v in
    let q = bit_small w in
    elim (number_splits (2 * a + bit v) (2 * b + bit w) vs ws (omega arith) h) [
      | inl x ↦ elim (cases_order a b) [ inl e ↦ inr (e, inl (omega arith)) | inr t ↦ elim t [ inl m ↦ inl m | inr m ↦ absurd (omega arith) ] ]
      | inr x ↦ (let e = x.0 in inr (omega arith, inr (omega arith, x.1)))
    ]

number_rises : (a b : ℕ) (vs ws : List Bool) → length vs ≡ length ws → a < b → number a vs < number b ws
number_rises a b [] [] l h = h
number_rises a b [] (w ∷ ws) l h = absurd (omega arith)
number_rises a b (v ∷ vs) [] l h = absurd (omega arith)
number_rises a b (v ∷ vs) (w ∷ ws) l h = let p = bit_small v in number_rises (2 * a + bit v) (2 * b + bit w) vs ws (omega arith) (omega arith)

number_lower : (a b : ℕ) (vs ws : List Bool) → a ≡ b → Lower vs ws → length vs ≡ length ws → number a vs < number b ws
number_lower a b [] [] e h l = absurd h
number_lower a b [] (w ∷ ws) e h l = absurd h
number_lower a b (v ∷ vs) [] e h l = absurd h
number_lower a b (v ∷ vs) (w ∷ ws) e (inl x) l = number_rises (2 * a + bit v) (2 * b + bit w) vs ws (omega arith) (omega arith)
number_lower a b (v ∷ vs) (w ∷ ws) e (inr x) l = let y = x.0 in number_lower (2 * a + bit v) (2 * b + bit w) vs ws (omega arith) x.1 (omega arith)

sooner_number : (i j : ℕ) (vs ws : List Bool) → length vs ≡ length ws → Sooner i vs j ws ↔ (number i vs < number j ws)
sooner_number i j vs ws l = (there, λ h. elim (number_splits i j vs ws l h) [ inl x ↦ inl x | inr x ↦ inr (x.0, number_lower 0 0 vs ws refl x.1 l) ])
  where
    there : Sooner i vs j ws → number i vs < number j ws
    there (inl h) = number_rises i j vs ws l h
    there (inr h) = elim (number_splits 0 0 vs ws l h.1) [ inl x ↦ absurd (omega arith) | inr x ↦ number_lower i j vs ws h.0 x.1 l ]

-- A level has what remains of tree i with pins fixed as vs at index `number i vs`.

abbrev AllFull : ℕ → List Tree → Type 0
AllFull h ts = (t : Tree) → In t ts → Full h t

full_halves : (h : ℕ) (ts : List Tree) → AllFull (suc h) ts → AllFull h (halves ts)
full_halves h ts f t m =
    let k = from_halves t ts m in
    let w = f (fork k.0 k.1.0) k.1.1.0 in
    elim k.1.1.1 [ inl e ↦ subst (Full h) (sym e) w.0 | inr e ↦ subst (Full h) (sym e) w.1 ]

halves_at : (h : ℕ) (ts : List Tree) → AllFull (suc h) ts → (i : ℕ) (u : Tree) (v : Bool) → At i u ts → At (2 * i + bit v) (half v u) (halves ts)
halves_at h [] f i u v a = absurd a
halves_at h (leaf c ∷ ts) f i u v a = absurd (f (leaf c) (inl refl))
halves_at h (fork l r ∷ ts) f zero u false a = ap (half false) a
halves_at h (fork l r ∷ ts) f zero u true a = ap (half true) a
halves_at h (fork l r ∷ ts) f (suc i) u v a =
    let e : suc (suc (2 * i + bit v)) ≡ 2 * suc i + bit v = omega arith in
    subst (λ k. At k (half v u) (l ∷ (r ∷ halves ts))) e (halves_at h ts (λ t m. f t (inr m)) i u v a)

from_halves_at : (h : ℕ) (ts : List Tree) → AllFull (suc h) ts → (p : ℕ) (t : Tree) → At p t (halves ts)
    → (i : ℕ) × ((v : Bool) × ((u : Tree) × ((p ≡ 2 * i + bit v) × At i u ts × (t ≡ half v u))))
from_halves_at h [] f p t a = absurd a
from_halves_at h (leaf c ∷ ts) f p t a = absurd (f (leaf c) (inl refl))
from_halves_at h (fork l r ∷ ts) f zero t a = (0, (false, (fork l r, (refl, refl, a))))
from_halves_at h (fork l r ∷ ts) f (suc zero) t a = (0, (true, (fork l r, (refl, refl, a))))
from_halves_at h (fork l r ∷ ts) f (suc (suc p)) t a =
    let x = from_halves_at h ts (λ t m. f t (inr m)) p t a in
    let e = x.1.1.1.0 in
    (suc x.0, (x.1.0, (x.1.1.0, (omega arith, x.1.1.1.1, x.1.1.1.2))))

level_at : (vs : List Bool) (h : ℕ) (ts : List Tree) → AllFull h ts → length vs ≤ h → (i : ℕ) (u : Tree) → At i u ts
    → At (number i vs) (remains vs u) (level (length vs) ts)
level_at [] h ts f l i u a = a
level_at (v ∷ vs) zero ts f l i u a = absurd (omega arith)
level_at (v ∷ vs) (suc h) ts f l i u a = level_at vs h (halves ts) (full_halves h ts f) (omega arith) (2 * i + bit v) (half v u) (halves_at h ts f i u v a)

from_level_at : (j h : ℕ) (ts : List Tree) → AllFull h ts → j ≤ h → (p : ℕ) (t : Tree) → At p t (level j ts)
    → (i : ℕ) × ((vs : List Bool) × ((u : Tree) × ((p ≡ number i vs) × (length vs ≡ j) × At i u ts × (t ≡ remains vs u))))
from_level_at zero h ts f l p t a = (p, ([], (t, (refl, refl, a, refl))))
from_level_at (suc j) zero ts f l p t a = absurd (omega arith)
from_level_at (suc j) (suc h) ts f l p t a =
    let x = from_level_at j h (halves ts) (full_halves h ts f) (omega arith) p t a in
    let vs = x.1.0 in
    let w = x.1.1.1 in
    let y = from_halves_at h ts f x.0 x.1.1.0 w.2 in
    let z = y.1.1.1 in
    (y.0, (y.1.0 ∷ vs, (y.1.1.0, (w.0 ∙ ap (λ k. number k vs) z.0, ap suc w.1, z.1, w.3 ∙ ap (remains vs) z.2))))

-- First occurrences.

-- each y of the list has an x before it
abbrev Behind : {A : Type 0} → A → A → List A → Type 0
Behind x y [] = Unit {0}
Behind x y (z ∷ zs) = (x ≡ z) ⊎ ((y ≡ z → ⊥) × Behind x y zs)

behind_at : {A : Type 0} (x y : A) (zs : List A) → (x ≡ y → ⊥) → Behind x y zs → (q : ℕ) → At q y zs → (p : ℕ) × (p < q) × At p x zs
behind_at x y [] ne b q a = absurd a
behind_at x y (z ∷ zs) ne (inl e) zero a = absurd (ne (e ∙ sym a))
behind_at x y (z ∷ zs) ne (inl e) (suc q) a = (0, omega arith, e)
behind_at x y (z ∷ zs) ne (inr b) zero a = absurd (b.0 a)
behind_at x y (z ∷ zs) ne (inr b) (suc q) a = let r = behind_at x y zs ne b.1 q a in let l = r.1 in (suc r.0, omega arith, r.2)

precedes_in : {A : Type 0} (x y : A) (zs : List A) → Precedes x y zs → In x zs × In y zs
precedes_in x y [] p = absurd p
precedes_in x y (z ∷ zs) (inl p) = (inl p.0, inr p.1)
precedes_in x y (z ∷ zs) (inr p) = let r = precedes_in x y zs p in (inr r.0, inr r.1)

precedes-++ : {A : Type 0} (x y : A) (us vs : List A) → Precedes x y (us ++ vs) → Precedes x y us ⊎ ((In x us × In y vs) ⊎ Precedes x y vs)
precedes-++ x y [] vs p = inr (inr p)
precedes-++ x y (u ∷ us) vs (inl p) = elim (in-++ y us vs p.1) [ inl m ↦ inl (inl (p.0, m)) | inr m ↦ inr (inl (inl p.0, m)) ]
precedes-++ x y (u ∷ us) vs (inr p) =
    elim (precedes-++ x y us vs p) [ inl r ↦ inl (inr r) | inr r ↦ elim r [ inl w ↦ inr (inl (inr w.0, w.1)) | inr w ↦ inr (inr w) ] ]

precedes_map : {A B : Type 0} (f : A → B) (x y : B) (zs : List A) → Precedes x y (map f zs) → (a : A) × ((b : A) × ((x ≡ f a) × (y ≡ f b) × Precedes a b zs))
precedes_map f x y [] p = absurd p
precedes_map f x y (z ∷ zs) (inl p) = let r = from_map f y zs p.1 in (z, (r.0, (p.0, r.2, inl (refl, r.1))))
precedes_map f x y (z ∷ zs) (inr p) = let r = precedes_map f x y zs p in (r.0, (r.1.0, (r.1.1.0, r.1.1.1, inr r.1.1.2)))

precedes_keep : {A : Type 0} (p : A → Bool) (x y : A) (zs : List A) → Precedes x y (keep p zs) → Precedes x y zs
precedes_keep p x y [] r = r
precedes_keep p x y (z ∷ zs) r = go (p z) r (precedes_keep p x y zs)
  where
    go : (q : Bool) → Precedes x y (cond q (z ∷ keep p zs) (keep p zs)) → (Precedes x y (keep p zs) → Precedes x y zs) → Precedes x y (z ∷ zs)
    go true (inl r) ih = inl (r.0, (from_keep p y zs r.1).0)
    go true (inr r) ih = inr (ih r)
    go false r ih = inr (ih r)

once_behind : {A : Type 0} (eq : A → A → Bool) → Tells eq → (x y : A) (zs : List A) → Precedes x y (once eq zs) → Behind x y zs × (x ≡ y → ⊥)
once_behind eq w x y [] p = absurd p
once_behind eq w x y (z ∷ zs) (inl p) = let out = (from_without eq w y z (once eq zs) p.1).1 in (inl p.0, λ e. out (sym p.0 ∙ e))
once_behind eq w x y (z ∷ zs) (inr p) =
    let r = once_behind eq w x y zs (precedes_keep (λ u. not (eq z u)) x y (once eq zs) p) in
    let out = (from_without eq w y z (once eq zs) (precedes_in x y (without eq z (once eq zs)) p).1).1 in
    (inr (λ e. out (sym e), r.0), r.1)

keep_behind : {A : Type 0} (p : A → Bool) (x y : A) (zs : List A) → p y ≡ true → Behind x y (keep p zs) → Behind x y zs
keep_behind p x y [] m b = tt
keep_behind p x y (z ∷ zs) m b = go (p z) refl b (keep_behind p x y zs m)
  where
    go : (q : Bool) → p z ≡ q → Behind x y (cond q (z ∷ keep p zs) (keep p zs)) → (Behind x y (keep p zs) → Behind x y zs) → Behind x y (z ∷ zs)
    go true e (inl r) ih = inl r
    go true e (inr r) ih = inr (r.0, ih r.1)
    go false e r ih = inr (λ i. both_ways (p z) e (ap p (sym i) ∙ m), ih r)

-- of two parts the one that stands before has a smaller place, or the same and then each of the other's occurrences behind one of its own
parts_behind : (h d : ℕ) (ts : List Tree) (k l : Part) → Precedes k l (parts h d ts)
    → (k.0 < l.0) ⊎ ((k.0 ≡ l.0) × ((j : ℕ) × ((k.0 ≡ d + j) × (j < h) × Behind k.1 l.1 (level j ts) × (k.1 ≡ l.1 → ⊥))))
parts_behind zero d ts k l p = absurd p
parts_behind (suc h) d ts k l p =
    elim (precedes-++ k l (front d ts) (parts h (suc d) (halves ts)) p) [
      | inl q ↦
          (let r = precedes_map (λ t. (d, t)) k l (once same (keep matters ts)) q in
          let a = r.0 in
          let b = r.1.0 in
          let i = precedes_in k l (front d ts) q in
          let x = (from_front d ts k i.0).0 in
          let y = from_front d ts l i.1 in
          let s : k.1 ≡ a = ap (λ (w : Part). w.1) r.1.1.0 in
          let t : l.1 ≡ b = ap (λ (w : Part). w.1) r.1.1.1 in
          let w = once_behind same tells_same a b (keep matters ts) r.1.1.2 in
          inr (
            x ∙ sym y.0,
            (
              0,
              (
                omega arith,
                omega arith,
                keep_behind matters k.1 l.1 ts y.2 (subst (λ z. Behind z l.1 (keep matters ts)) (sym s) (subst (λ z. Behind a z (keep matters ts)) (sym t) w.0)),
                λ e. w.1 (sym s ∙ (e ∙ t)),
              ),
            ),
          ))
      | inr q ↦
          elim q [
            | inl r ↦ (let x = (from_front d ts k r.0).0 in let y = (from_parts h (suc d) (halves ts) l r.1).1 in inl (omega arith))
            | inr r ↦
                elim (parts_behind h (suc d) (halves ts) k l r) [
                  | inl x ↦ inl x
                  | inr x ↦ (let a = x.1.1.0 in let b = x.1.1.1 in inr (x.0, (suc x.1.0, (omega arith, omega arith, x.1.1.2, x.1.1.3))))
                ]
          ]
    ]

-- the first index of a tree
first_at : (t : Tree) (us : List Tree) → In t us → (p : ℕ) × At p t us × ((q : ℕ) → At q t us → p ≤ q)
first_at t [] m = absurd m
first_at t (u ∷ us) m = go (same t u) refl m (first_at t us)
  where
    up : (same t u ≡ false) → (p : ℕ) → ((q : ℕ) → At q t us → p ≤ q) → (q : ℕ) → At q t (u ∷ us) → suc p ≤ q
    up e p h zero a = absurd (both_ways (same t u) e (same_of t u a))
    up e p h (suc q) a = let l = h q a in omega arith

    go : (b : Bool) → same t u ≡ b → In t (u ∷ us) → (In t us → (p : ℕ) × At p t us × ((q : ℕ) → At q t us → p ≤ q))
        → (p : ℕ) × At p t (u ∷ us) × ((q : ℕ) → At q t (u ∷ us) → p ≤ q)
    go true e m ih = (0, same_eq t u e, λ q a. omega arith)
    go false e (inl x) ih = absurd (both_ways (same t u) e (same_of t u x))
    go false e (inr x) ih = let r = ih x in (suc r.0, r.1, up e r.0 r.2)

-- Lines, and their rank among those that hold something.

abbrev rank : {A : Type 0} → List (Option A) → ℕ → ℕ
rank [] i = 0
rank (None ∷ ls) zero = 0
rank (None ∷ ls) (suc i) = rank ls i
rank (Some x ∷ ls) zero = 0
rank (Some x ∷ ls) (suc i) = suc (rank ls i)

held_at : {A : Type 0} (ls : List (Option A)) (i : ℕ) (x : A) → At i (Some x) ls → At (rank ls i) x (held ls)
held_at [] i x a = a
held_at (None ∷ ls) zero x a = absurd (let z : ◌≡◌ {A = ℕ} 0 1 = cc in omega arith)
held_at (None ∷ ls) (suc i) x a = held_at ls i x a
held_at (Some y ∷ ls) zero x a = let z : x ≡ y = cc in z
held_at (Some y ∷ ls) (suc i) x a = held_at ls i x a

line_at : {A : Type 0} (ls : List (Option A)) (a : ℕ) (x : A) → At a x (held ls) → (i : ℕ) × At i (Some x) ls × (rank ls i ≡ a)
line_at [] a x m = absurd m
line_at (None ∷ ls) a x m = let r = line_at ls a x m in (suc r.0, r.1, r.2)
line_at (Some y ∷ ls) zero x m = (0, ap Some m, refl)
line_at (Some y ∷ ls) (suc a) x m = let r = line_at ls a x m in (suc r.0, r.1, ap suc r.2)

rank_up : {A : Type 0} (ls : List (Option A)) (i j : ℕ) (x : A) → At i (Some x) ls → i < j → rank ls i < rank ls j
rank_up [] i j x a l = absurd a
rank_up (y ∷ ls) i zero x a l = absurd (omega arith)
rank_up (None ∷ ls) zero (suc j) x a l = absurd (let z : ◌≡◌ {A = ℕ} 0 1 = cc in omega arith)
rank_up (None ∷ ls) (suc i) (suc j) x a l = rank_up ls i j x a (omega arith)
rank_up (Some y ∷ ls) zero (suc j) x a l = omega arith
rank_up (Some y ∷ ls) (suc i) (suc j) x a l = let h = rank_up ls i j x a (omega arith) in omega arith

rank_sooner : {A : Type 0} (ls : List (Option A)) (i j : ℕ) (x y : A) (vs ws : List Bool) → At i (Some x) ls → At j (Some y) ls
    → Sooner i vs j ws ↔ Sooner (rank ls i) vs (rank ls j) ws
rank_sooner ls i j x y vs ws a b = (there, back)
  where
    there : Sooner i vs j ws → Sooner (rank ls i) vs (rank ls j) ws
    there (inl l) = inl (rank_up ls i j x a l)
    there (inr e) = inr (ap (rank ls) e.0, e.1)

    back : Sooner (rank ls i) vs (rank ls j) ws → Sooner i vs j ws
    back s =
        elim (cases_order i j) [
          | inl e ↦ elim s [ inl l ↦ (let z = ap (rank ls) e in absurd (omega arith)) | inr w ↦ inr (e, w.1) ]
          | inr t ↦ elim t [ inl l ↦ inl l | inr l ↦ (let z = rank_up ls j i y b l in elim s [ inl m ↦ absurd (omega arith) | inr m ↦ (let q = m.0 in absurd (omega arith)) ]) ]
        ]

pub parts_in_order : PartsInOrder
parts_in_order n lines full = (exists, sorted)
  where
    ts : List Tree
    ts = held lines

    fulls : AllFull n ts
    fulls t m = full t (from_held t lines m)

    -- an occurrence at its index in the level
    occurs_at : (k : Part) (i : ℕ) (vs : List Bool) → k.0 ≤ n → Occurs lines k i vs → At (number (rank lines i) vs) k.1 (level k.0 ts)
    occurs_at k i vs l o =
        let e = o.fixed in
        let a = level_at vs n ts fulls (omega arith) (rank lines i) o.whole (held_at lines i o.whole o.line) in
        subst (λ z. At (number (rank lines i) vs) z (level k.0 ts)) o.left (subst (λ z. At (number (rank lines i) vs) (remains vs o.whole) (level z ts)) e a)

    at_occurs : (k : Part) (p : ℕ) → k.0 ≤ n → At p k.1 (level k.0 ts) → (i : ℕ) × ((vs : List Bool) × (Occurs lines k i vs × (p ≡ number (rank lines i) vs)))
    at_occurs k p l a =
        let x = from_level_at k.0 n ts fulls l p k.1 a in
        let vs = x.1.0 in
        let w = x.1.1.1 in
        let y = line_at lines x.0 x.1.1.0 w.2 in
        (y.0, (vs, (record { whole = x.1.1.0; line = y.1; fixed = w.1; left = sym w.3 }, w.0 ∙ ap (λ z. number z vs) (sym y.2))))

    exists : (k : Part) → In k (parts n 0 ts) → (i : ℕ) × ((vs : List Bool) × First lines k i vs)
    exists k m =
        let r = from_parts n 0 ts k m in
        let e : r.0 ≡ k.0 = let z = r.1 in omega arith in
        let l : k.0 ≤ n = let z = r.2 in omega arith in
        let f = first_at k.1 (level k.0 ts) (subst (λ z. In k.1 (level z ts)) e r.3) in
        let o = at_occurs k f.0 l f.1 in
        let i = o.0 in
        let vs = o.1.0 in (
          i,
          (
            vs,
            record {
              occurs = o.1.1.0;
              least = λ j ws w s.
                  let a = f.2 (number (rank lines j) ws) (occurs_at k j ws l w) in
                  let b = o.1.1.1 in
                  let c = (sooner_number (rank lines j) (rank lines i) ws vs (w.fixed ∙ sym o.1.1.0.fixed)).0
                  ((rank_sooner lines j i w.whole o.1.1.0.whole ws vs w.line o.1.1.0.line).0 s) in
                  omega arith;
            },
          ),
        )

    sorted : (k l : Part) → Precedes k l (parts n 0 ts) → (i j : ℕ) (vs ws : List Bool) → First lines k i vs → First lines l j ws → Before k i vs l j ws
    sorted k l p i j vs ws f g =
        elim (parts_behind n 0 ts k l p) [
          | inl x ↦ inl x
          | inr x ↦ inr (x.0, same_place x.0 x.1)
        ]
      where
        same_place : k.0 ≡ l.0 → (c : ℕ) × ((k.0 ≡ 0 + c) × (c < n) × Behind k.1 l.1 (level c ts) × (k.1 ≡ l.1 → ⊥)) → Sooner i vs j ws
        same_place e x =
            let z : x.0 ≡ k.0 = let y = x.1.0 in omega arith in
            let a : k.0 ≤ n = let y = x.1.1 in omega arith in
            let b = behind_at k.1 l.1 (level k.0 ts) x.1.3 (subst (λ c. Behind k.1 l.1 (level c ts)) z x.1.2)
            (number (rank lines j) ws) (subst (λ c. At (number (rank lines j) ws) l.1 (level c ts)) (sym e) (occurs_at l j ws (omega arith) g.occurs)) in
            let o = at_occurs k b.0 a b.2 in
            let r = o.1.1.0 in
            let u = o.1.0 in
            let lv : length u ≡ length vs = r.fixed ∙ sym f.occurs.fixed in
            let lw : length vs ≡ length ws = f.occurs.fixed ∙ (e ∙ sym g.occurs.fixed) in
            let not_sooner : number (rank lines o.0) u < number (rank lines i) vs → ⊥ = λ y.
            f.least o.0 u r ((rank_sooner lines o.0 i r.whole f.occurs.whole u vs r.line f.occurs.line).1
            ((sooner_number (rank lines o.0) (rank lines i) u vs lv).1 y)) in
            let q = o.1.1.1 in
            let t = b.1 in
            let s : number (rank lines i) vs < number (rank lines j) ws = elim (cases_lt (number (rank lines o.0) u) (number (rank lines i) vs)) [
              | inl y ↦ absurd (not_sooner y)
              | inr y ↦ omega arith
            ] in
            (rank_sooner lines i j f.occurs.whole g.occurs.whole vs ws f.occurs.line g.occurs.line).1
            ((sooner_number (rank lines i) (rank lines j) vs ws lw).1 s)
