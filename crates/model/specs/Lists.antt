-- Words for lists: what stands in them, first occurrences, and lines that may be empty.
use Rattle.std.specs.Prelude.{◌≡◌, ℕ, zero, suc, Bool, cond, not, ◌⊎◌, List, [], ◌∷◌, ◌++◌, Some, None, Option}

-- x stands in the list
abbrev pub In : {A : Type 0} → A → List A → Type 0
In x [] = ⊥
In x (y ∷ ys) = (x ≡ y) ⊎ In x ys

-- x stands in the list at index i, counted from 0
abbrev pub At : {A : Type 0} → ℕ → A → List A → Type 0
At i x [] = ⊥
At zero x (y ∷ ys) = x ≡ y
At (suc i) x (y ∷ ys) = At i x ys

-- x stands in the list before some y
abbrev pub Precedes : {A : Type 0} → A → A → List A → Type 0
Precedes x y [] = ⊥
Precedes x y (z ∷ zs) = ((x ≡ z) × In y zs) ⊎ Precedes x y zs

-- nothing stands twice in the list
abbrev pub Apart : {A : Type 0} → List A → Type 0
Apart [] = Unit {0}
Apart (x ∷ xs) = (In x xs → ⊥) × Apart xs

-- those elements that pass a test
abbrev pub keep : {A : Type 0} → (A → Bool) → List A → List A
keep p [] = []
keep p (x ∷ xs) = cond (p x) (x ∷ keep p xs) (keep p xs)

-- the list without x, by a test of equality
abbrev pub without : {A : Type 0} → (A → A → Bool) → A → List A → List A
without eq x ys = keep (λ y. not (eq x y)) ys

-- each element once, at its first occurrence
abbrev pub once : {A : Type 0} → (A → A → Bool) → List A → List A
once eq [] = []
once eq (x ∷ xs) = x ∷ without eq x (once eq xs)

-- the index of the first element equal to x
abbrev pub spot : {A : Type 0} → (A → A → Bool) → List A → A → ℕ
spot eq [] x = 0
spot eq (y ∷ ys) x = cond (eq x y) 0 (suc (spot eq ys x))

-- the lists that g gives for the elements, one behind the other
abbrev pub flat : {A B : Type 0} → (A → List B) → List A → List B
flat g [] = []
flat g (x ∷ xs) = g x ++ flat g xs

-- A line holds something or nothing.

-- what the lines hold, in their order
abbrev pub held : {A : Type 0} → List (Option A) → List A
held [] = []
held (None ∷ ls) = held ls
held (Some x ∷ ls) = x ∷ held ls

-- f of what a line holds; nothing stays nothing
abbrev pub each : {A B : Type 0} → (A → B) → Option A → Option B
each f None = None
each f (Some x) = Some (f x)

-- two lists are equally long and R holds of them line for line
abbrev pub LineForLine : {A B : Type 0} → (A → B → Type 0) → List A → List B → Type 0
LineForLine R [] [] = Unit {0}
LineForLine R [] (y ∷ ys) = ⊥
LineForLine R (x ∷ xs) [] = ⊥
LineForLine R (x ∷ xs) (y ∷ ys) = R x y × LineForLine R xs ys
