-- Marked numbers as a list.
use Rattle.std.proofs.Common.{◌≡◌, ℕ, zero, suc, ◌<◌, Bool, true, false, cond, ◌⊎◌, List, [], ◌∷◌, length, sym, refl, ap, ◌∙◌, inl, inr, arith}
use Rattle.std.proofs.lemmas.Bool.{both_ways, cases_eq}
use Rattle.model.specs.Lists.{In, Apart}

-- the numbers below n that are marked
abbrev pub marked : (ℕ → Bool) → ℕ → List ℕ
marked m zero = []
marked m (suc n) = cond (m n) (n ∷ marked m n) (marked m n)

pub from_marked : (m : ℕ → Bool) (n i : ℕ) → In i (marked m n) → (i < n) × (m i ≡ true)
from_marked m zero i k = absurd k
from_marked m (suc n) i k = go (m n) refl k (from_marked m n i)
  where
    go : (q : Bool) → m n ≡ q → In i (cond q (n ∷ marked m n) (marked m n)) → (In i (marked m n) → (i < n) × (m i ≡ true)) → (i < suc n) × (m i ≡ true)
    go true e (inl p) ih = (omega arith, ap m p ∙ e)
    go true e (inr j) ih = let r = ih j in let l = r.0 in (omega arith, r.1)
    go false e j ih = let r = ih j in let l = r.0 in (omega arith, r.1)

pub in_marked : (m : ℕ → Bool) (n i : ℕ) → i < n → m i ≡ true → In i (marked m n)
in_marked m zero i l e = absurd (omega arith)
in_marked m (suc n) i l e = go (m n) refl (cases_eq i n) (in_marked m n i)
  where
    go : (q : Bool) → m n ≡ q → (i ≡ n) ⊎ (i ≡ n → ⊥) → (i < n → m i ≡ true → In i (marked m n)) → In i (cond q (n ∷ marked m n) (marked m n))
    go true w (inl p) ih = inl p
    go false w (inl p) ih = absurd (both_ways (m n) w (ap m (sym p) ∙ e))
    go true w (inr ne) ih = inr (ih (omega arith) e)
    go false w (inr ne) ih = ih (omega arith) e

pub apart_marked : (m : ℕ → Bool) (n : ℕ) → Apart (marked m n)
apart_marked m zero = tt
apart_marked m (suc n) = go (m n) (apart_marked m n)
  where
    go : (q : Bool) → Apart (marked m n) → Apart (cond q (n ∷ marked m n) (marked m n))
    go true a = (λ k. let r = from_marked m n n k in let l = r.0 in omega arith, a)
    go false a = a

pub length_marked : (m : ℕ → Bool) (n : ℕ) → ((i : ℕ) → i < n → m i ≡ true) → length (marked m n) ≡ n
length_marked m zero h = refl
length_marked m (suc n) h = ap (λ q. length (cond q (n ∷ marked m n) (marked m n))) (h n (omega arith)) ∙ ap suc (length_marked m n (λ i l. h i (omega arith)))
