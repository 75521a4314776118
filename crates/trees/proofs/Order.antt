-- The order of the mixed blocks, and their places.
use Rattle.std.proofs.Common.{◌≡◌, ℕ, zero, suc, ◌+◌, ◌^◌, ◌<◌, ◌≤◌, Bool, true, false, eqb, List, [], ◌∷◌, ◌++◌, map, length, get_or, filter, sym, refl, ap, ◌∙◌, subst, inl, inr, arith}
use Rattle.std.specs.List.{range_with_len, flat_map, AllByRecursion}
use Rattle.std.proofs.ByRecursion.{All-get_or, All-append, all_kept_by, All-weaker}
use Rattle.std.proofs.lemmas.Bool.{eq-eqb, ne_eqb, and_from, and_left, and_right, cases_Bool, cond-true, cond-false}
use Rattle.std.proofs.lemmas.Bool.Decides.{eqb_tells}
use Rattle.model.specs.Lists.{In}
use Rattle.trees.specs.Mixed.{mixed, Block, mixed_block, level, blocks, mixed_blocks, Before, Ordered}
use Rattle.trees.specs.Records.{same_block, place}
use Rattle.model.proofs.Lists.{in_map}

-- membership
pub in_append_left : {X : Type 0} (x : X) (xs ys : List X) → In x xs → In x (xs ++ ys)
in_append_left x [] ys h = absurd h
in_append_left x (y ∷ xs) ys (inl e) = inl e
in_append_left x (y ∷ xs) ys (inr h) = inr (in_append_left x xs ys h)

pub in_append_right : {X : Type 0} (x : X) (xs ys : List X) → In x ys → In x (xs ++ ys)
in_append_right x [] ys h = h
in_append_right x (y ∷ xs) ys h = inr (in_append_right x xs ys h)

pub all_in : {X : Type 0} (P : X → Type 0) (x : X) (xs : List X) → AllByRecursion P xs → In x xs → P x
all_in P x [] a h = absurd h
all_in P x (y ∷ ys) a (inl e) = subst P (sym e) a.0
all_in P x (y ∷ ys) a (inr h) = all_in P x ys a.1 h

in_joined : {X A : Type 0} (f : X → List A) (a : A) (x : X) (xs : List X) → In x xs → In a (f x) → In a (flat_map f xs)
in_joined f a x [] h g = absurd h
in_joined f a x (y ∷ ys) (inl e) g = in_append_left a (f y) (flat_map f ys) (subst (λ z. In a (f z)) e g)
in_joined f a x (y ∷ ys) (inr h) g = in_append_right a (f y) (flat_map f ys) (in_joined f a x ys h g)

in_kept : {X : Type 0} (p : X → Bool) (x : X) (xs : List X) → In x xs → p x ≡ true → In x (filter p xs)
in_kept p x [] h e = absurd h
in_kept p x (y ∷ ys) (inl q) e = subst (λ l. In x l) (sym (cond-true (p y) (y ∷ filter p ys) (filter p ys) (ap p (sym q) ∙ e))) (inl q)
in_kept p x (y ∷ ys) (inr h) e =
    let more = in_kept p x ys h e in
    elim (cases_Bool (p y)) [
      | inl t ↦ subst (λ l. In x l) (sym (cond-true (p y) (y ∷ filter p ys) (filter p ys) t)) (inr more)
      | inr t ↦ subst (λ l. In x l) (sym (cond-false (p y) (y ∷ filter p ys) (filter p ys) t)) more
    ]

kept_holds : {X : Type 0} (p : X → Bool) (xs : List X) → AllByRecursion (λ x. p x ≡ true) (filter p xs)
kept_holds p [] = tt
kept_holds p (x ∷ xs) =
    let more = kept_holds p xs in
    elim (cases_Bool (p x)) [
      | inl t ↦ subst (λ l. AllByRecursion (λ y. p y ≡ true) l) (sym (cond-true (p x) (x ∷ filter p xs) (filter p xs) t)) (t, more)
      | inr t ↦ subst (λ l. AllByRecursion (λ y. p y ≡ true) l) (sym (cond-false (p x) (x ∷ filter p xs) (filter p xs) t)) more
    ]

-- counted numbers
in_counting : (a k x : ℕ) → a ≤ x → x < a + k → In x (range_with_len a k)
in_counting a zero x l h = absurd (omega arith)
in_counting a (suc k) x l h =
    let more : a + 1 ≤ x → In x (range_with_len (a + 1) k) = λ m. in_counting (a + 1) k x m (omega arith) in
    elim (eqb_tells x a) [ inl t ↦ inl t.1 | inr t ↦ inr (more (omega (arith, t.1))) ]

counting_from : (a k : ℕ) → AllByRecursion (λ x. (a ≤ x) × (x < a + k)) (range_with_len a k)
counting_from a zero = tt
counting_from a (suc k) =
    ((omega arith, omega arith), All-weaker (λ x. (a + 1 ≤ x) × (x < a + 1 + k)) (λ x. (a ≤ x) × (x < a + suc k)) (λ x h. (omega (arith, h.0), omega (arith, h.1))) (range_with_len (a + 1) k) (counting_from (a + 1) k))

all_mapped : {X Y : Type 0} (P : X → Type 0) (Q : Y → Type 0) (f : X → Y) → ((x : X) → P x → Q (f x)) → (xs : List X) → AllByRecursion P xs → AllByRecursion Q (map f xs)
all_mapped P Q f h [] a = tt
all_mapped P Q f h (x ∷ xs) a = (h x a.0, all_mapped P Q f h xs a.1)

all_joined : {X Y : Type 0} (P : X → Type 0) (Q : Y → Type 0) (f : X → List Y) → ((x : X) → P x → AllByRecursion Q (f x)) → (xs : List X) → AllByRecursion P xs → AllByRecursion Q (flat_map f xs)
all_joined P Q f h [] a = tt
all_joined P Q f h (x ∷ xs) a = All-append Q (f x) (flat_map f xs) (h x a.0) (all_joined P Q f h xs a.1)

-- which blocks there are
pub level_in : (j : ℕ) → AllByRecursion (λ b. (b.0 ≡ j) × (b.1 < 2 ^ j)) (level j)
unfolding level
level_in j = all_mapped (λ p. (0 ≤ p) × (p < 0 + 2 ^ j)) (λ b. (b.0 ≡ j) × (b.1 < 2 ^ j)) (λ p. (j, p)) (λ p h. (refl, omega (arith, h.1))) (range_with_len 0 (2 ^ j)) (counting_from 0 (2 ^ j))

abbrev pub There : ℕ → Block → Type 0
There n b = (b.0 < n) × (b.1 < 2 ^ b.0)

blocks_in : (n : ℕ) → AllByRecursion (There n) (blocks n)
unfolding blocks
blocks_in n =
    all_joined (λ j. (0 ≤ j) × (j < 0 + n)) (There n) level
    (λ j h. All-weaker (λ b. (b.0 ≡ j) × (b.1 < 2 ^ j)) (There n) (λ b q. (omega (arith, q.0, h.1), subst (λ (x : ℕ). b.1 < 2 ^ x) (sym q.0) q.1)) (level j) (level_in j)) (range_with_len 0 n) (counting_from 0 n)

blocks_all : (n j p : ℕ) → j < n → p < 2 ^ j → In (j, p) (blocks n)
unfolding blocks level
blocks_all n j p h l =
    in_joined level (j, p) j (range_with_len 0 n) (in_counting 0 n j (omega arith) (omega arith)) (in_map (λ x. (j, x)) p (range_with_len 0 (2 ^ j)) (in_counting 0 (2 ^ j) p (omega arith) (omega arith)))

-- the order
ordered_append : (xs ys : List Block) → Ordered xs → Ordered ys → AllByRecursion (λ x. AllByRecursion (Before x) ys) xs → Ordered (xs ++ ys)
ordered_append [] ys ox oy a = oy
ordered_append (x ∷ xs) ys ox oy a = (All-append (Before x) xs ys ox.0 a.0, ordered_append xs ys ox.1 oy a.1)

ordered_kept : (p : Block → Bool) (xs : List Block) → Ordered xs → Ordered (filter p xs)
ordered_kept p [] o = tt
ordered_kept p (x ∷ xs) o =
    let more = ordered_kept p xs o.1 in
    elim (cases_Bool (p x)) [
      | inl t ↦ subst Ordered (sym (cond-true (p x) (x ∷ filter p xs) (filter p xs) t)) (all_kept_by p (Before x) xs o.0, more)
      | inr t ↦ subst Ordered (sym (cond-false (p x) (x ∷ filter p xs) (filter p xs) t)) more
    ]

ordered_level : (j a k : ℕ) → Ordered (map (λ p. (j, p)) (range_with_len a k))
ordered_level j a zero = tt
ordered_level j a (suc k) =
    (all_mapped (λ x. (a + 1 ≤ x) × (x < a + 1 + k)) (Before (j, a)) (λ p. (j, p)) (λ p h. inr (refl, omega (arith, h.0))) (range_with_len (a + 1) k) (counting_from (a + 1) k), ordered_level j (a + 1) k)

ordered_whole : (j : ℕ) → Ordered (level j)
unfolding level
ordered_whole j = ordered_level j 0 (2 ^ j)

ordered_levels : (a k : ℕ) → Ordered (flat_map level (range_with_len a k))
ordered_levels a zero = tt
ordered_levels a (suc k) = ordered_append (level a) (flat_map level (range_with_len (a + 1) k)) (ordered_whole a) (ordered_levels (a + 1) k) (All-weaker (λ b. (b.0 ≡ a) × (b.1 < 2 ^ a)) (λ x. AllByRecursion (Before x) (flat_map level (range_with_len (a + 1) k))) later (level a) (level_in a))
  where
    later : (b : Block) → (b.0 ≡ a) × (b.1 < 2 ^ a) → AllByRecursion (Before b) (flat_map level (range_with_len (a + 1) k))
    later b q =
        all_joined (λ j. (a + 1 ≤ j) × (j < a + 1 + k)) (Before b) level
        (λ j h. All-weaker (λ d. (d.0 ≡ j) × (d.1 < 2 ^ j)) (Before b) (λ d r. inl (omega (arith, r.0, q.0, h.0))) (level j) (level_in j)) (range_with_len (a + 1) k) (counting_from (a + 1) k)

module _ (n : ℕ) (c : ℕ → ℕ) where
  pub ordered : Ordered (mixed_blocks n c)
  unfolding mixed_blocks blocks
  ordered = ordered_kept (mixed_block n c) (blocks n) (ordered_levels 0 n)

  pub listed_there : AllByRecursion (There n) (mixed_blocks n c)
  unfolding mixed_blocks
  listed_there = all_kept_by (mixed_block n c) (There n) (blocks n) (blocks_in n)

  pub listed_mixed : AllByRecursion (λ b. mixed_block n c b ≡ true) (mixed_blocks n c)
  unfolding mixed_blocks
  listed_mixed = kept_holds (mixed_block n c) (blocks n)

  pub mixed_listed : (j p : ℕ) → j < n → p < 2 ^ j → mixed n c j p ≡ true → In (j, p) (mixed_blocks n c)
  unfolding mixed_blocks
  mixed_listed j p h l e = in_kept (mixed_block n c) (j, p) (blocks n) (blocks_all n j p h l) e

-- places
same_so : (a b : Block) → a ≡ b → same_block a b ≡ true
same_so a b e = and_from (eqb a.0 b.0) (eqb a.1 b.1) (eq-eqb a.0 b.0 (ap (λ (x : Block). x.0) e)) (eq-eqb a.1 b.1 (ap (λ (x : Block). x.1) e))

before_not : (a b : Block) → Before a b → same_block b a ≡ false
before_not a b (inl l) = and_left (eqb b.0 a.0) (eqb b.1 a.1) (ne_eqb b.0 a.0 (λ e. omega arith))
before_not a b (inr l) = and_right (eqb b.0 a.0) (eqb b.1 a.1) (ne_eqb b.1 a.1 (λ e. omega arith))

-- a block's place is where it stands
pub place_at : (bs : List Block) (i : ℕ) (d : Block) → Ordered bs → i < length bs → place (get_or bs i d) bs ≡ i
unfolding place
place_at [] i d o h = absurd (omega arith)
place_at (b ∷ bs) zero d o h = cond-true (same_block b b) 0 (place b bs + 1) (same_so b b refl)
place_at (b ∷ bs) (suc i) d o h =
    let l : i < length bs = omega arith in
    let e = place_at bs i d o.1 l in
    cond-false (same_block (get_or bs i d) b) 0 (place (get_or bs i d) bs + 1) (before_not b (get_or bs i d) (All-get_or (Before b) bs i d l o.0)) ∙ omega (arith, e)

pub in_at : (b : Block) (bs : List Block) (d : Block) → In b bs → (i : ℕ) × (i < length bs) × (get_or bs i d ≡ b)
in_at b [] d h = absurd h
in_at b (x ∷ xs) d (inl e) = (0, omega arith, sym e)
in_at b (x ∷ xs) d (inr h) = let r = in_at b xs d h in (suc r.0, omega (arith, r.1), r.2)

-- a listed block stands at its place
pub at_place : (b : Block) (bs : List Block) (d : Block) → Ordered bs → In b bs → (place b bs < length bs) × (get_or bs (place b bs) d ≡ b)
at_place b bs d o h =
    let r = in_at b bs d h in
    let e : place b bs ≡ r.0 = ap (λ (x : Block). place x bs) (sym r.2) ∙ place_at bs r.0 d o r.1 in
    (omega (arith, e, r.1), ap (λ x. get_or bs x d) e ∙ r.2)
