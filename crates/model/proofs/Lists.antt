-- Membership, lists with nothing twice, and the pigeonhole.
use Rattle.std.proofs.Common.{◌≡◌, ℕ, zero, suc, ◌<◌, ◌≤◌, ◌⊎◌, List, [], ◌∷◌, ◌++◌, map, length, get_or, Some, None, Option, sym, refl, ap, ◌∙◌, subst, ap₂, inl, inr, zero-le, arith}
use Rattle.model.specs.Lists.{In, Apart, held, each}

-- the list without the place at which x stands
abbrev cut : {A : Type 0} (x : A) (ys : List A) → In x ys → List A
cut x [] m = []
cut x (y ∷ ys) (inl e) = ys
cut x (y ∷ ys) (inr m) = y ∷ cut x ys m

length_cut : {A : Type 0} (x : A) (ys : List A) (m : In x ys) → length ys ≡ suc (length (cut x ys m))
length_cut x [] m = absurd m
length_cut x (y ∷ ys) (inl e) = refl
length_cut x (y ∷ ys) (inr m) = ap suc (length_cut x ys m)

in_cut : {A : Type 0} (x : A) (ys : List A) (m : In x ys) (z : A) → In z ys → (z ≡ x → ⊥) → In z (cut x ys m)
in_cut x [] m z k h = absurd m
in_cut x (y ∷ ys) (inl e) z (inl f) h = absurd (h (f ∙ sym e))
in_cut x (y ∷ ys) (inl e) z (inr k) h = k
in_cut x (y ∷ ys) (inr m) z (inl f) h = inl f
in_cut x (y ∷ ys) (inr m) z (inr k) h = inr (in_cut x ys m z k h)

pub in_cast : {A : Type 0} (x y : A) (xs : List A) → x ≡ y → In x xs → In y xs
in_cast x y xs e m = subst (λ w. In w xs) e m

pub pigeonhole : {A : Type 0} (xs ys : List A) → Apart xs → ((x : A) → In x xs → In x ys) → length xs ≤ length ys
pigeonhole [] ys a f = zero-le
pigeonhole (x ∷ xs) ys a f =
    let m = f x (inl refl) in
    let IH = pigeonhole xs (cut x ys m) a.1 (λ z k. in_cut x ys m z (f z (inr k)) (λ e. a.0 (in_cast z x xs e k))) in
    omega (arith, IH, length_cut x ys m)

pub in-++-left : {A : Type 0} (x : A) (xs ys : List A) → In x xs → In x (xs ++ ys)
in-++-left x [] ys m = absurd m
in-++-left x (y ∷ xs) ys (inl e) = inl e
in-++-left x (y ∷ xs) ys (inr m) = inr (in-++-left x xs ys m)

pub in-++-right : {A : Type 0} (x : A) (xs ys : List A) → In x ys → In x (xs ++ ys)
in-++-right x [] ys m = m
in-++-right x (y ∷ xs) ys m = inr (in-++-right x xs ys m)

pub in-++ : {A : Type 0} (x : A) (xs ys : List A) → In x (xs ++ ys) → In x xs ⊎ In x ys
in-++ x [] ys m = inr m
in-++ x (y ∷ xs) ys (inl e) = inl (inl e)
in-++ x (y ∷ xs) ys (inr m) = elim (in-++ x xs ys m) [ inl k ↦ inl (inr k) | inr k ↦ inr k ]

-- the element at a position
pub in_get_or : (xs : List ℕ) (i : ℕ) → i < length xs → In (get_or xs i 0) xs
in_get_or [] i l = absurd (omega arith)
in_get_or (x ∷ xs) zero l = inl refl
in_get_or (x ∷ xs) (suc i) l = inr (in_get_or xs i (omega arith))

pub in_map : {A B : Type 0} (f : A → B) (x : A) (xs : List A) → In x xs → In (f x) (map f xs)
in_map f x [] m = absurd m
in_map f x (y ∷ xs) (inl e) = inl (ap f e)
in_map f x (y ∷ xs) (inr m) = inr (in_map f x xs m)

pub from_map : {A B : Type 0} (f : A → B) (y : B) (xs : List A) → In y (map f xs) → (x : A) × In x xs × (y ≡ f x)
from_map f y [] m = absurd m
from_map f y (x ∷ xs) (inl e) = (x, inl refl, e)
from_map f y (x ∷ xs) (inr m) = let r = from_map f y xs m in (r.0, inr r.1, r.2)

-- a map that tells the elements apart keeps them apart
pub apart_map : {A B : Type 0} (f : A → B) (xs : List A) → ((x y : A) → In x xs → In y xs → f x ≡ f y → x ≡ y) → Apart xs → Apart (map f xs)
apart_map f [] inj a = tt
apart_map f (x ∷ xs) inj a = (
  λ m. let r = from_map f (f x) xs m in a.0 (in_cast r.0 x xs (sym (inj x r.0 (inl refl) (inr r.1) r.2)) r.1),
  apart_map f xs (λ u v p q e. inj u v (inr p) (inr q) e) a.1,
)

pub apart-++ : {A : Type 0} (xs ys : List A) → Apart xs → Apart ys → ((x : A) → In x xs → In x ys → ⊥) → Apart (xs ++ ys)
apart-++ [] ys a b h = b
apart-++ (x ∷ xs) ys a b h =
    (λ m. elim (in-++ x xs ys m) [ inl k ↦ a.0 k | inr k ↦ h x (inl refl) k ], apart-++ xs ys a.1 b (λ z p q. h z (inr p) q))

pub apart_right : {A : Type 0} (xs ys : List A) → Apart (xs ++ ys) → Apart ys
apart_right [] ys a = a
apart_right (x ∷ xs) ys a = apart_right xs ys a.1

pub apart_both : {A : Type 0} (x : A) (xs ys : List A) → Apart (xs ++ ys) → In x xs → In x ys → ⊥
apart_both x [] ys a m k = m
apart_both x (y ∷ xs) ys a (inl e) k = a.0 (in-++-right y xs ys (in_cast x y ys e k))
apart_both x (y ∷ xs) ys a (inr m) k = apart_both x xs ys a.1 m k

pub map_same : {A B : Type 0} (f g : A → B) (xs : List A) → ((x : A) → In x xs → f x ≡ g x) → map f xs ≡ map g xs
map_same f g [] h = refl
map_same f g (x ∷ xs) h = ap₂ ◌∷◌ (h x (inl refl)) (map_same f g xs (λ y m. h y (inr m)))

pub map-++ : {A B : Type 0} (f : A → B) (xs ys : List A) → map f (xs ++ ys) ≡ map f xs ++ map f ys
map-++ f [] ys = refl
map-++ f (x ∷ xs) ys = ap (λ z. f x ∷ z) (map-++ f xs ys)

pub map_map : {A B C : Type 0} (g : B → C) (f : A → B) (xs : List A) → map g (map f xs) ≡ map (λ x. g (f x)) xs
map_map g f [] = refl
map_map g f (x ∷ xs) = ap (λ z. g (f x) ∷ z) (map_map g f xs)

-- lines: what they hold
pub in_held : {A : Type 0} (x : A) (ls : List (Option A)) → In (Some x) ls → In x (held ls)
in_held x [] m = absurd m
in_held x (None ∷ ls) (inl e) = absurd (let z : ◌≡◌ {A = ℕ} 0 1 = cc in omega arith)
in_held x (None ∷ ls) (inr m) = in_held x ls m
in_held x (Some y ∷ ls) (inl e) = inl (cc)
in_held x (Some y ∷ ls) (inr m) = inr (in_held x ls m)

pub from_held : {A : Type 0} (x : A) (ls : List (Option A)) → In x (held ls) → In (Some x) ls
from_held x [] m = absurd m
from_held x (None ∷ ls) m = inr (from_held x ls m)
from_held x (Some y ∷ ls) (inl e) = inl (ap Some e)
from_held x (Some y ∷ ls) (inr m) = inr (from_held x ls m)

pub held_map : {A B : Type 0} (f : A → B) (ls : List (Option A)) → held (map (each f) ls) ≡ map f (held ls)
held_map f [] = refl
held_map f (None ∷ ls) = held_map f ls
held_map f (Some x ∷ ls) = ap (λ z. f x ∷ z) (held_map f ls)

-- the same of each line, where it is the same of what the line holds
pub each_same : {A B C : Type 0} (f : A → B) (g : B → C) (h : A → C) (ls : List (Option A)) → ((x : A) → In (Some x) ls → g (f x) ≡ h x)
    → map (each g) (map (each f) ls) ≡ map (each h) ls
each_same f g h [] e = refl
each_same f g h (None ∷ ls) e = ap (λ z. None ∷ z) (each_same f g h ls (λ x m. e x (inr m)))
each_same f g h (Some x ∷ ls) e = ap₂ (λ y z. Some y ∷ z) (e x (inl refl)) (each_same f g h ls (λ y m. e y (inr m)))

pub each_id : {A : Type 0} (ls : List (Option A)) → map (each (λ x. x)) ls ≡ ls
each_id [] = refl
each_id (None ∷ ls) = ap (λ z. None ∷ z) (each_id ls)
each_id (Some x ∷ ls) = ap (λ z. Some x ∷ z) (each_id ls)
