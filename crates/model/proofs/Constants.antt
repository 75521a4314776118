-- Constants, and they alone, have no parts.
use Rattle.std.proofs.Common.{◌≡◌, ℕ, zero, suc, ◌^◌, ◌<◌, Bool, true, false, cond, not, List, [], ◌∷◌, length, drop, Some, sym, refl, ap, ◌∙◌, subst, inl, inr, arith}
use Rattle.std.proofs.lemmas.Bool.{both_ways, cases_Bool, not_from_false}
use Rattle.model.specs.Lists.{In}
use Rattle.model.specs.Trees.{Tree, leaf, fork, Full, same, matters, remains}
use Rattle.model.specs.Parts.{parts, count}
use Rattle.model.specs.Selections.{Selection, Setting, all_low, put, fix, address, pin, view, view_of, code_at}
use Rattle.model.specs.Theorems.{ConstantsHaveNone}
use Rattle.model.proofs.Trees.{same_eq, same_of, remains_leaf}
use Rattle.model.proofs.Parts.{parts_are, parts_of_selections}
use Rattle.model.proofs.Settings.{address_small}
use Rattle.model.proofs.Views.{tree_reads, one_part, view_full}

none_in : {A : Type 0} (xs : List A) → ((x : A) → In x xs → ⊥) → length xs ≡ 0
none_in [] h = refl
none_in (x ∷ xs) h = absurd (h x (inl refl))

in_none : {A : Type 0} (x : A) (xs : List A) → length xs ≡ 0 → In x xs → ⊥
in_none x [] e m = m
in_none x (y ∷ ys) e m = omega arith

flat_view : (n : ℕ) (f : Selection) → ((a b : ℕ) → a < 2 ^ n → b < 2 ^ n → f a ≡ f b) → (ps : List ℕ) (s : Setting) → matters (view n f ps s) ≡ false
flat_view n f h [] s = refl
flat_view n f h (p ∷ ps) s =
    let lo = put s p false in
    let hi = put s p true in
    ap not (same_of (view n f ps lo) (view n f ps hi)
    ((one_part n f f ps lo hi).1 (λ vs l. h (address n (fix ps vs lo)) (address n (fix ps vs hi)) (address_small n (fix ps vs lo)) (address_small n (fix ps vs hi)))))

-- what matters has a pin left
pin_left : (h : ℕ) (vs : List Bool) (t : Tree) → Full h t → matters (remains vs t) ≡ true → length vs < h
pin_left zero vs (leaf c) f m = absurd (both_ways false refl (ap matters (sym (remains_leaf vs c)) ∙ m))
pin_left zero vs (fork l r) f m = absurd f
pin_left (suc h) vs (leaf c) f m = absurd f
pin_left (suc h) [] (fork l r) f m = omega arith
pin_left (suc h) (false ∷ vs) (fork l r) f m = let i = pin_left h vs l f.0 m in omega arith
pin_left (suc h) (true ∷ vs) (fork l r) f m = let i = pin_left h vs r f.1 m in omega arith

-- where nothing matters all settings lead to one code
one_code : (h : ℕ) (t : Tree) (ps : List ℕ) (x y : Setting) → length ps ≡ h → Full h t → ((vs : List Bool) → matters (remains vs t) ≡ true → ⊥) → code_at t ps x ≡ code_at t ps y
one_code zero (leaf c) ps x y e f h = refl
one_code zero (fork l r) ps x y e f h = absurd f
one_code (suc k) (leaf c) ps x y e f h = absurd f
one_code (suc k) (fork l r) [] x y e f h = refl
one_code (suc k) (fork l r) (p ∷ ps) x y e f h = low x ∙ (one_code k l ps x y (omega arith) f.0 (λ vs m. h (false ∷ vs) m) ∙ sym (low y))
  where
    one : l ≡ r
    one = elim (cases_Bool (same l r)) [ inl i ↦ same_eq l r i | inr i ↦ absurd (h [] (not_from_false (same l r) i)) ]

    pick : (z : Setting) (v : Bool) → cond v (code_at r ps z) (code_at l ps z) ≡ code_at l ps z
    pick z false = refl
    pick z true = ap (λ t. code_at t ps z) (sym one)

    low : (z : Setting) → code_at (fork l r) (p ∷ ps) z ≡ code_at l ps z
    low z = pick z (z p)

pub constants_have_none : ConstantsHaveNone
constants_have_none n order o f = (there, back)
  where
    t : Tree
    t = view_of n order f

    full : Full n t
    full = subst (λ k. Full k t) o.full (view_full n f order all_low)

    there : count n t ≡ 0 → (a b : ℕ) → a < 2 ^ n → b < 2 ^ n → f a ≡ f b
    there e a b k l =
        let none : (vs : List Bool) → matters (remains vs t) ≡ true → ⊥ = λ vs m.
        in_none (length vs, remains vs t) (parts n 0 (t ∷ [])) e
        (((parts_are n (t ∷ [])).1 (length vs) (remains vs t)).1 (pin_left n vs t full m, m, (t, inl refl, (vs, refl, refl)))) in
        sym (tree_reads n order o f a k) ∙ (one_code n t order (pin n a) (pin n b) o.full full none ∙ tree_reads n order o f b l)

    back : ((a b : ℕ) → a < 2 ^ n → b < 2 ^ n → f a ≡ f b) → count n t ≡ 0
    back h =
        none_in (parts n 0 (t ∷ [])) (λ k m.
        let r = (parts_of_selections n order o (Some f ∷ []) k.0 k.1).0 m in
        let g = r.2.0 in
        let s = fix order r.2.2.0 all_low in
        let e : f ≡ g = elim r.2.1 [ inl q ↦ (let z : f ≡ g = cc in z) | inr q ↦ absurd q ] in
        both_ways (matters k.1)
        (ap matters r.2.2.2 ∙ subst (λ (z : Selection). matters (view n z (drop k.0 order) s) ≡ false) e (flat_view n f h (drop k.0 order) s))
        r.1)
