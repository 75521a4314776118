-- The number of each node, written at its own entry.
use Rattle.std.proofs.Common.{◌≡◌, ℕ, zero, suc, ◌+◌, ◌<◌, ◌≤◌, Bool, true, false, cond, eqb, List, [], ◌∷◌, length, get_or, take, set, sym, refl, ap, ◌∙◌, subst, inl, inr, arith}
use Rattle.std.proofs.lemmas.List.{get_or-set_same, get_or-set_other, take_more}
use Rattle.std.proofs.lemmas.Bool.{eq-eqb}
use Rattle.model.specs.Lists.{In, Apart, spot}
use Rattle.model.proofs.Lists.{in-++, in_cast, in_get_or}
use Rattle.model.proofs.Onces.{tells_eqb, tells_ne}

spot_at : (xs : List ℕ) (k : ℕ) → Apart xs → k < length xs → spot eqb xs (get_or xs k 0) ≡ k
spot_at [] k a l = absurd (omega arith)
spot_at (x ∷ xs) zero a l = ap (λ q. cond q 0 (suc (spot eqb xs x))) (eq-eqb x x refl)
spot_at (x ∷ xs) (suc k) a l =
    let less : k < length xs = omega arith in
    let m = in_get_or xs k less in
    ap (λ q. cond q 0 (suc (spot eqb xs (get_or xs k 0)))) (tells_ne eqb tells_eqb (get_or xs k 0) x (λ e. a.0 (in_cast (get_or xs k 0) x xs e m)))
    ∙ ap suc (spot_at xs k a.1 less)

pub spot_small : (xs : List ℕ) (i : ℕ) → In i xs → spot eqb xs i < length xs
spot_small [] i m = absurd m
spot_small (x ∷ xs) i m = go (eqb i x) refl m (spot_small xs i)
  where
    go : (q : Bool) → eqb i x ≡ q → In i (x ∷ xs) → (In i xs → spot eqb xs i < length xs) → cond q 0 (suc (spot eqb xs i)) < suc (length xs)
    go true e m ih = omega arith
    go false e (inl p) ih = let z : ◌≡◌ {A = Bool} true false = sym (eq-eqb i x p) ∙ e in let w : ◌≡◌ {A = ℕ} 0 1 = cc in absurd (omega arith)
    go false e (inr p) ih = let l = ih p in omega arith

-- the entries of the first nodes
abbrev pub InvertedSoFar : List ℕ → ℕ → ℕ → List ℕ → Type 0
InvertedSoFar order long k numbers =
    Apart order → ((i : ℕ) → In i order → i < long) → (i : ℕ) → In i (take k order) → get_or numbers i 0 ≡ spot eqb order i

-- a node of a list that has none twice does not stand before itself
before : (xs : List ℕ) (k : ℕ) → Apart xs → k < length xs → In (get_or xs k 0) (take k xs) → ⊥
before [] k a l m = absurd (omega arith)
before (x ∷ xs) zero a l m = m
before (x ∷ xs) (suc k) a l (inl e) = a.0 (in_cast (get_or xs k 0) x xs e (in_get_or xs k (omega arith)))
before (x ∷ xs) (suc k) a l (inr m) = before xs k a.1 (omega arith) m

module _ (order : List ℕ) (long k : ℕ) (less : k < length order) (numbers : List ℕ) (same : length numbers ≡ long) (far : InvertedSoFar order long k numbers) where
  pub entry_written : InvertedSoFar order long (k + 1) (set numbers (get_or order k 0) k)
  entry_written apart small i m =
      let at = get_or order k 0 in
      elim (in-++ i (take k order) (at ∷ []) (subst (λ (xs : List ℕ). In i xs) (take_more order k 0 less) m)) [
        | inl b ↦ get_or-set_other numbers at i k 0 (λ e. before order k apart less (in_cast i at (take k order) e b)) ∙ far apart small i b
        | inr b ↦ elim b [
          | inl e ↦
              subst (λ (x : ℕ). get_or (set numbers at k) x 0 ≡ spot eqb order x) (sym e)
              (get_or-set_same numbers at k 0 (let l = small at (in_get_or order k less) in omega arith) ∙ sym (spot_at order k apart less))
          | inr z ↦ absurd z
        ]
      ]

  pub entry_outside : length numbers ≤ get_or order k 0 → InvertedSoFar order long (k + 1) numbers
  entry_outside l apart small = let s = small (get_or order k 0) (in_get_or order k less) in absurd (omega arith)
