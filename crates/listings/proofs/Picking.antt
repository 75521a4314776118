-- Putting the nodes of a front that ask a pin behind those that have numbers.
use Rattle.std.proofs.Common.{◌≡◌, ℕ, ◌+◌, ◌<◌, ◌≤◌, Bool, true, false, cond, List, [], ◌∷◌, ◌++◌, length, get_or, take, drop, sym, refl, ap, ◌∙◌, subst, inl, inr, arith, length-append}
use Rattle.std.proofs.lemmas.List.{append-nil, append_assoc, take_more, take-append-drop}
use Rattle.model.specs.Lists.{keep}
use Rattle.model.specs.Diagrams.{Table}
use Rattle.model.proofs.Onces.{keep-++}
use Rattle.listings.specs.Fronts.{asks, AllShort, Picks}
use Rattle.listings.specs.Labels.{short}
use Rattle.listings.proofs.Shortening.{short_is}
use Rattle.model.proofs.Lists.{in_get_or}

-- one node
module _ (T : Table) (d i room : ℕ) (order : List ℕ) (test : Bool) (told : test ≡ asks T d (short i)) where
  test_is : AllShort (i ∷ []) → test ≡ asks T d i
  test_is small = told ∙ ap (asks T d) (short_is i (short i) refl (small i (inl refl)))

  pub not_picked : test ≡ false → Picks T d i room order order
  not_picked e small enough = sym (ap (λ q. order ++ cond q (i ∷ []) []) (sym (test_is small) ∙ e) ∙ append-nil order)

  pub picked : test ≡ true → (order' : List ℕ) → (length order < room → order' ≡ order ++ (i ∷ [])) → Picks T d i room order order'
  picked here order' pushed small enough =
      let kept : keep (asks T d) (i ∷ []) ≡ i ∷ [] = ap (λ q. cond q (i ∷ []) []) (sym (test_is small) ∙ here) in
      let l = ap length kept in
      pushed (omega arith) ∙ ap (λ xs. order ++ xs) (sym kept)

-- the nodes of a front, as far as it was gone through
abbrev pub PickedSoFar : Table → ℕ → List ℕ → ℕ → ℕ → List ℕ → List ℕ → Type 0
PickedSoFar T d front k room order order' = AllShort front → length order + length (keep (asks T d) front) ≤ room → order' ≡ order ++ keep (asks T d) (take k front)

keep_shorter : (p : ℕ → Bool) (xs : List ℕ) (k : ℕ) → length (keep p (take k xs)) ≤ length (keep p xs)
keep_shorter p xs k =
    let l = ap length (ap (keep p) (sym (take-append-drop k xs)) ∙ keep-++ p (take k xs) (drop k xs)) in
    let m = length-append (keep p (take k xs)) (keep p (drop k xs)) in
    omega arith

pub one_picked : (T : Table) (d : ℕ) (front : List ℕ) (k room room₁ : ℕ) (order order₁ order₂ : List ℕ)
    → k < length front → room₁ ≡ room → Picks T d (get_or front k 0) room₁ order₁ order₂ → PickedSoFar T d front k room order order₁ → PickedSoFar T d front (k + 1) room order order₂
one_picked T d front k room room₁ order order₁ order₂ less same picks far short enough =
    let i = get_or front k 0 in
    let p = asks T d in
    let w = far short enough in
    let step : keep p (take (k + 1) front) ≡ keep p (take k front) ++ keep p (i ∷ []) = ap (keep p) (take_more front k 0 less) ∙ keep-++ p (take k front) (i ∷ []) in
    let a = ap length w in
    let b = length-append order (keep p (take k front)) in
    let g = keep_shorter p front (k + 1) in
    let s = ap length step in
    let t = length-append (keep p (take k front)) (keep p (i ∷ [])) in
    let q = picks (λ x n. elim n [ inl z ↦ subst (λ (y : ℕ). y < 65536) (sym z) (short i (in_get_or front k less)) | inr z ↦ absurd z ]) (omega arith) in
    q ∙ (ap (λ l. l ++ keep p (i ∷ [])) w ∙ (append_assoc order (keep p (take k front)) (keep p (i ∷ [])) ∙ ap (λ l. order ++ l) (sym step)))
