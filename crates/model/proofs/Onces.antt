-- Tests of equality, first occurrences, and indices.
use Rattle.std.proofs.Common.{◌≡◌, suc, Bool, true, false, cond, not, eqb, List, [], ◌∷◌, ◌++◌, map, get_or, sym, refl, ap, ◌∙◌, subst, ap₂, inl, inr}
use Rattle.std.proofs.lemmas.Bool.{both_ways, not-true, eqb-true, eq-eqb, cases_Bool, not_from_false}
use Rattle.model.specs.Lists.{In, Apart, keep, without, once, spot}

-- a test that tells whether two are equal
pub record Tells {A : Type 0} (eq : A → A → Bool) : Type 0 where
  pub is : (x y : A) → eq x y ≡ true → x ≡ y
  pub self : (x : A) → eq x x ≡ true

pub tells_of : {A : Type 0} (eq : A → A → Bool) → Tells eq → (x y : A) → x ≡ y → eq x y ≡ true
tells_of eq w x y e = subst (λ z. eq x z ≡ true) e (w.self x)

pub tells_ne : {A : Type 0} (eq : A → A → Bool) → Tells eq → (x y : A) → (x ≡ y → ⊥) → eq x y ≡ false
tells_ne eq w x y h = elim (cases_Bool (eq x y)) [ inl e ↦ absurd (h (w.is x y e)) | inr e ↦ e ]

-- two tests agree through a map that keeps two elements apart
pub tells_through : {A B : Type 0} (eq : A → A → Bool) → Tells eq → (eq' : B → B → Bool) → Tells eq' → (f : A → B) (x y : A) → (f x ≡ f y → x ≡ y) → eq' (f x) (f y) ≡ eq x y
tells_through eq w eq' w' f x y inj =
    elim (cases_Bool (eq x y)) [
      | inl e ↦ tells_of eq' w' (f x) (f y) (ap f (w.is x y e)) ∙ sym e
      | inr e ↦ tells_ne eq' w' (f x) (f y) (λ i. both_ways (eq x y) e (tells_of eq w x y (inj i))) ∙ sym e
    ]

pub tells_eqb : Tells eqb
tells_eqb = record { is = eqb-true; self = λ n. eq-eqb n n refl }

-- What a test keeps.

pub from_keep : {A : Type 0} (p : A → Bool) (x : A) (xs : List A) → In x (keep p xs) → In x xs × (p x ≡ true)
from_keep p x [] m = absurd m
from_keep p x (y ∷ ys) m = go (p y) refl m (from_keep p x ys)
  where
    go : (q : Bool) → p y ≡ q → In x (cond q (y ∷ keep p ys) (keep p ys)) → (In x (keep p ys) → In x ys × (p x ≡ true)) → In x (y ∷ ys) × (p x ≡ true)
    go true e (inl i) ih = (inl i, ap p i ∙ e)
    go true e (inr k) ih = let r = ih k in (inr r.0, r.1)
    go false e k ih = let r = ih k in (inr r.0, r.1)

pub in_keep : {A : Type 0} (p : A → Bool) (x : A) (xs : List A) → In x xs → p x ≡ true → In x (keep p xs)
in_keep p x [] m h = absurd m
in_keep p x (y ∷ ys) m h = go (p y) refl m (λ k. in_keep p x ys k h)
  where
    go : (q : Bool) → p y ≡ q → In x (y ∷ ys) → (In x ys → In x (keep p ys)) → In x (cond q (y ∷ keep p ys) (keep p ys))
    go true e (inl i) ih = inl i
    go true e (inr k) ih = inr (ih k)
    go false e (inl i) ih = absurd (both_ways (p y) e (ap p (sym i) ∙ h))
    go false e (inr k) ih = ih k

apart_keep : {A : Type 0} (p : A → Bool) (xs : List A) → Apart xs → Apart (keep p xs)
apart_keep p [] a = tt
apart_keep p (x ∷ xs) a = go (p x) (apart_keep p xs a.1)
  where
    go : (q : Bool) → Apart (keep p xs) → Apart (cond q (x ∷ keep p xs) (keep p xs))
    go true b = (λ m. a.0 (from_keep p x xs m).0, b)
    go false b = b

keep_map : {A B : Type 0} (p : A → Bool) (p' : B → Bool) (f : A → B) (xs : List A) → ((x : A) → In x xs → p' (f x) ≡ p x) → keep p' (map f xs) ≡ map f (keep p xs)
keep_map p p' f [] h = refl
keep_map p p' f (x ∷ xs) h = go (p x) (h x (inl refl)) (keep_map p p' f xs (λ y m. h y (inr m)))
  where
    go : (q : Bool) → p' (f x) ≡ q → keep p' (map f xs) ≡ map f (keep p xs) → keep p' (map f (x ∷ xs)) ≡ map f (cond q (x ∷ keep p xs) (keep p xs))
    go true e ih = ap (λ q. cond q (f x ∷ keep p' (map f xs)) (keep p' (map f xs))) e ∙ ap (λ z. f x ∷ z) ih
    go false e ih = ap (λ q. cond q (f x ∷ keep p' (map f xs)) (keep p' (map f xs))) e ∙ ih

pub keep_all : {A : Type 0} (p : A → Bool) (xs : List A) → ((x : A) → In x xs → p x ≡ true) → keep p xs ≡ xs
keep_all p [] h = refl
keep_all p (x ∷ xs) h = ap (λ q. cond q (x ∷ keep p xs) (keep p xs)) (h x (inl refl)) ∙ ap (λ z. x ∷ z) (keep_all p xs (λ y m. h y (inr m)))

pub keep-++ : {A : Type 0} (p : A → Bool) (xs ys : List A) → keep p (xs ++ ys) ≡ keep p xs ++ keep p ys
keep-++ p [] ys = refl
keep-++ p (x ∷ xs) ys = go (p x) (keep-++ p xs ys)
  where
    go : (q : Bool) → keep p (xs ++ ys) ≡ keep p xs ++ keep p ys
        → cond q (x ∷ keep p (xs ++ ys)) (keep p (xs ++ ys)) ≡ cond q (x ∷ keep p xs) (keep p xs) ++ keep p ys
    go true ih = ap (λ z. x ∷ z) ih
    go false ih = ih

pub keep_swap : {A : Type 0} (p q : A → Bool) (xs : List A) → keep p (keep q xs) ≡ keep q (keep p xs)
keep_swap p q [] = refl
keep_swap {A} p q (x ∷ xs) = go (p x) (q x) refl refl (keep_swap p q xs)
  where
    a : List A
    a = keep p xs

    b : List A
    b = keep q xs

    go : (u v : Bool) → p x ≡ u → q x ≡ v → keep p b ≡ keep q a → keep p (cond v (x ∷ b) b) ≡ keep q (cond u (x ∷ a) a)
    go true true e f ih = ap (λ w. cond w (x ∷ keep p b) (keep p b)) e ∙ (ap (λ w. x ∷ w) ih ∙ sym (ap (λ w. cond w (x ∷ keep q a) (keep q a)) f))
    go true false e f ih = ih ∙ sym (ap (λ w. cond w (x ∷ keep q a) (keep q a)) f)
    go false true e f ih = ap (λ w. cond w (x ∷ keep p b) (keep p b)) e ∙ ih
    go false false e f ih = ih

pub keep_twice : {A : Type 0} (p : A → Bool) (xs : List A) → keep p (keep p xs) ≡ keep p xs
keep_twice p xs = keep_all p (keep p xs) (λ x m. (from_keep p x xs m).1)

-- Each element once.

pub from_without : {A : Type 0} (eq : A → A → Bool) → Tells eq → (x t : A) (ts : List A) → In x (without eq t ts) → In x ts × (t ≡ x → ⊥)
from_without eq w x t ts m =
    let r = from_keep (λ y. not (eq t y)) x ts m in (r.0, λ e. both_ways (eq t x) (not-true (eq t x) r.1) (tells_of eq w t x e))

in_without : {A : Type 0} (eq : A → A → Bool) → Tells eq → (x t : A) (ts : List A) → In x ts → (t ≡ x → ⊥) → In x (without eq t ts)
in_without eq w x t ts m h = in_keep (λ y. not (eq t y)) x ts m (not_from_false (eq t x) (tells_ne eq w t x h))

pub from_once : {A : Type 0} (eq : A → A → Bool) → Tells eq → (x : A) (ts : List A) → In x (once eq ts) → In x ts
from_once eq w x [] m = m
from_once eq w x (t ∷ ts) (inl e) = inl e
from_once eq w x (t ∷ ts) (inr m) = inr (from_once eq w x ts (from_without eq w x t (once eq ts) m).0)

pub in_once : {A : Type 0} (eq : A → A → Bool) → Tells eq → (x : A) (ts : List A) → In x ts → In x (once eq ts)
in_once eq w x [] m = m
in_once eq w x (t ∷ ts) (inl e) = inl e
in_once eq w x (t ∷ ts) (inr m) =
    elim (cases_Bool (eq t x)) [
      | inl e ↦ inl (sym (w.is t x e))
      | inr e ↦ inr (in_without eq w x t (once eq ts) (in_once eq w x ts m) (λ f. both_ways (eq t x) e (tells_of eq w t x f)))
    ]

pub apart_once : {A : Type 0} (eq : A → A → Bool) → Tells eq → (ts : List A) → Apart (once eq ts)
apart_once eq w [] = tt
apart_once eq w (t ∷ ts) = (λ m. (from_without eq w t t (once eq ts) m).1 refl, apart_keep (λ y. not (eq t y)) (once eq ts) (apart_once eq w ts))

-- tests that agree through f, on the list
pub once_map : {A B : Type 0} (eq : A → A → Bool) → Tells eq → (eq' : B → B → Bool) (f : A → B) (xs : List A)
    → ((x y : A) → In x xs → In y xs → eq' (f x) (f y) ≡ eq x y) → once eq' (map f xs) ≡ map f (once eq xs)
once_map eq w eq' f [] h = refl
once_map eq w eq' f (x ∷ xs) h =
    ap (λ z. f x ∷ without eq' (f x) z) (once_map eq w eq' f xs (λ a b p q. h a b (inr p) (inr q)))
    ∙ ap (λ z. f x ∷ z) (keep_map (λ y. not (eq x y)) (λ y. not (eq' (f x) y)) f (once eq xs) (λ y m. ap not (h x y (inl refl) (inr (from_once eq w y xs m)))))

-- what stands at the number of x
pub at_spot : {A B : Type 0} (eq : A → A → Bool) → Tells eq → (f : A → B) (z : B) (xs : List A) (x : A) → In x xs → get_or (map f xs) (spot eq xs x) z ≡ f x
at_spot eq w f z [] x m = absurd m
at_spot {A} {B} eq w f z (y ∷ ys) x m = go (eq x y) refl m (at_spot eq w f z ys x)
  where
    go : (q : Bool) → eq x y ≡ q → In x (y ∷ ys) → (In x ys → get_or (map f ys) (spot eq ys x) z ≡ f x)
        → get_or (map f (y ∷ ys)) (cond q 0 (suc (spot eq ys x))) z ≡ f x
    go true e m ih = ap f (sym (w.is x y e))
    go false e (inl p) ih = absurd (both_ways (eq x y) e (tells_of eq w x y p))
    go false e (inr m) ih = ih m

-- numbers through a map that tells as the test does
pub spot_map : {A B : Type 0} (eq : A → A → Bool) (eq' : B → B → Bool) (f : A → B) (xs : List A) (x : A) → ((y : A) → In y xs → eq' (f x) (f y) ≡ eq x y)
    → spot eq' (map f xs) (f x) ≡ spot eq xs x
spot_map eq eq' f [] x h = refl
spot_map eq eq' f (y ∷ ys) x h = ap₂ (λ q k. cond q 0 (suc k)) (h y (inl refl)) (spot_map eq eq' f ys x (λ z m. h z (inr m)))

pub once_apart : {A : Type 0} (eq : A → A → Bool) → Tells eq → (xs : List A) → Apart xs → once eq xs ≡ xs
once_apart eq w [] a = refl
once_apart eq w (x ∷ xs) a = ap (λ z. x ∷ z) (ap (without eq x) (once_apart eq w xs a.1) ∙ keep_all (λ y. not (eq x y)) xs (λ y m. not_from_false (eq x y) (tells_ne eq w x y (λ e. a.0 (subst (λ z. In z xs) (sym e) m)))))
