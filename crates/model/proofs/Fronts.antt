-- A front of branches may be thinned to its first occurrences at each level.
use Rattle.std.proofs.Common.{◌≡◌, ℕ, zero, suc, Bool, true, false, cond, not, eqb, List, [], ◌∷◌, ◌++◌, sym, refl, ap, ◌∙◌, subst, ap₂, inl, inr}
use Rattle.std.proofs.lemmas.Bool.{eqb-true, eq-eqb}
use Rattle.model.specs.Lists.{In, without, once, flat}
use Rattle.model.specs.Diagrams.{Table, next, Branch, end, node}
use Rattle.model.specs.Numberings.{same_branch, asking, ahead, numbering}
use Rattle.model.specs.Theorems.{FrontThinned}
use Rattle.model.proofs.Onces.{Tells, tells_eqb, keep-++, keep_swap, keep_twice, from_without, from_once, apart_once, once_apart}

-- ys without what stands in zs
abbrev minus : {A : Type 0} → (A → A → Bool) → List A → List A → List A
minus eq [] ys = ys
minus eq (z ∷ zs) ys = without eq z (minus eq zs ys)

module _ {A : Type 0} (eq : A → A → Bool) where
  minus-++ : (zs xs ys : List A) → minus eq zs (xs ++ ys) ≡ minus eq zs xs ++ minus eq zs ys
  minus-++ [] xs ys = refl
  minus-++ (z ∷ zs) xs ys = ap (without eq z) (minus-++ zs xs ys) ∙ keep-++ (λ y. not (eq z y)) (minus eq zs xs) (minus eq zs ys)

  minus_without : (zs : List A) (x : A) (ys : List A) → minus eq zs (without eq x ys) ≡ without eq x (minus eq zs ys)
  minus_without [] x ys = refl
  minus_without (z ∷ zs) x ys = ap (without eq z) (minus_without zs x ys) ∙ keep_swap (λ y. not (eq z y)) (λ y. not (eq x y)) (minus eq zs ys)

  minus_swap : (us vs ys : List A) → minus eq us (minus eq vs ys) ≡ minus eq vs (minus eq us ys)
  minus_swap us [] ys = refl
  minus_swap us (v ∷ vs) ys = minus_without us v (minus eq vs ys) ∙ ap (without eq v) (minus_swap us vs ys)

  minus_twice : (zs ys : List A) → minus eq zs (minus eq zs ys) ≡ minus eq zs ys
  minus_twice [] ys = refl
  minus_twice (z ∷ zs) ys =
      ap (without eq z) (minus_without zs z (minus eq zs ys)) ∙ (keep_twice (λ y. not (eq z y)) (minus eq zs (minus eq zs ys)) ∙ ap (without eq z) (minus_twice zs ys))

  once-++ : (xs ys : List A) → once eq (xs ++ ys) ≡ once eq xs ++ minus eq xs (once eq ys)
  once-++ [] ys = refl
  once-++ (x ∷ xs) ys = ap (λ w. x ∷ w) (ap (without eq x) (once-++ xs ys) ∙ keep-++ (λ y. not (eq x y)) (once eq xs) (minus eq xs (once eq ys)))

  from_minus : Tells eq → (x : A) (zs ys : List A) → In x (minus eq zs ys) → In x ys × (In x zs → ⊥)
  from_minus w x [] ys m = (m, λ k. k)
  from_minus w x (z ∷ zs) ys m =
      let a = from_without eq w x z (minus eq zs ys) m in
      let b = from_minus w x zs ys a.0 in
      (b.0, λ k. elim k [ inl e ↦ a.1 (sym e) | inr q ↦ b.1 q ])

  none : (xs : List A) → ((x : A) → In x xs → ⊥) → xs ≡ []
  none [] h = refl
  none (x ∷ xs) h = absurd (h x (inl refl))

  minus_all : Tells eq → (zs : List A) → minus eq zs (once eq zs) ≡ []
  minus_all w zs = none (minus eq zs (once eq zs)) (λ x m. let a = from_minus w x zs (once eq zs) m in a.1 (from_once eq w x zs a.0))

module _ {A B : Type 0} (eq : A → A → Bool) (w : Tells eq) (eq' : B → B → Bool) (w' : Tells eq') (g : A → List B) where
  without_flat : (x : A) (us : List A) → minus eq' (g x) (once eq' (flat g (without eq x us))) ≡ minus eq' (g x) (once eq' (flat g us))
  without_flat x [] = refl
  without_flat x (u ∷ us) = go (eq x u) refl (without_flat x us)
    where
      r : List B
      r = flat g us

      s : List B
      s = flat g (without eq x us)

      go : (q : Bool) → eq x u ≡ q → minus eq' (g x) (once eq' s) ≡ minus eq' (g x) (once eq' r)
          → minus eq' (g x) (once eq' (flat g (cond (not q) (u ∷ without eq x us) (without eq x us)))) ≡ minus eq' (g x) (once eq' (g u ++ r))
      go true e ih =
          let v : x ≡ u = w.is x u e in
          ih ∙ sym (subst (λ z. minus eq' (g x) (once eq' (g z ++ r)) ≡ minus eq' (g x) (once eq' r)) v
          (ap (minus eq' (g x)) (once-++ eq' (g x) r)
          ∙ (minus-++ eq' (g x) (once eq' (g x)) (minus eq' (g x) (once eq' r))
          ∙ ap₂ ◌++◌ (minus_all eq' w' (g x)) (minus_twice eq' (g x) (once eq' r)))))
      go false e ih = spread s ∙ (ap (λ z. minus eq' (g x) (once eq' (g u)) ++ z) (minus_swap eq' (g x) (g u) (once eq' s) ∙ (ap (minus eq' (g u)) ih ∙ sym (minus_swap eq' (g x) (g u) (once eq' r)))) ∙ sym (spread r))
        where
          spread : (t : List B) → minus eq' (g x) (once eq' (g u ++ t)) ≡ minus eq' (g x) (once eq' (g u)) ++ minus eq' (g x) (minus eq' (g u) (once eq' t))
          spread t = ap (minus eq' (g x)) (once-++ eq' (g u) t) ∙ minus-++ eq' (g x) (once eq' (g u)) (minus eq' (g u) (once eq' t))

  once_flat : (xs : List A) → once eq' (flat g xs) ≡ once eq' (flat g (once eq xs))
  once_flat [] = refl
  once_flat (x ∷ xs) =
      once-++ eq' (g x) (flat g xs)
      ∙ (ap (λ z. once eq' (g x) ++ minus eq' (g x) z) (once_flat xs)
      ∙ (ap (λ z. once eq' (g x) ++ z) (sym (without_flat x (once eq xs)))
      ∙ sym (once-++ eq' (g x) (flat g (without eq x (once eq xs))))))

  once_flat_two : (xs ys : List A) → once eq xs ≡ once eq ys → once eq' (flat g xs) ≡ once eq' (flat g ys)
  once_flat_two xs ys e = once_flat xs ∙ (ap (λ z. once eq' (flat g z)) e ∙ sym (once_flat ys))

pub tells_branch : Tells same_branch
tells_branch = record { is = told; self = itself }
  where
    told : (x y : Branch) → same_branch x y ≡ true → x ≡ y
    told (end a) (end b) e = ap end (eqb-true a b e)
    told (end a) (node k) e = let z : end a ≡ node k = cc in z
    told (node i) (end b) e = let z : node i ≡ end b = cc in z
    told (node i) (node k) e = ap node (eqb-true i k e)

    itself : (x : Branch) → same_branch x x ≡ true
    itself (end a) = eq-eqb a a refl
    itself (node i) = eq-eqb i i refl

abbrev ask : Table → ℕ → Branch → List ℕ
ask T d (end c) = []
ask T d (node i) = cond (eqb (T i).place d) (i ∷ []) []

asking_flat : (T : Table) (d : ℕ) (bs : List Branch) → asking T d bs ≡ flat (ask T d) bs
asking_flat T d [] = refl
asking_flat T d (end c ∷ bs) = asking_flat T d bs
asking_flat T d (node i ∷ bs) = go (eqb (T i).place d) (asking_flat T d bs)
  where
    go : (q : Bool) → asking T d bs ≡ flat (ask T d) bs → cond q (i ∷ asking T d bs) (asking T d bs) ≡ cond q (i ∷ []) [] ++ flat (ask T d) bs
    go true e = ap (λ w. i ∷ w) e
    go false e = e

ahead_flat : (T : Table) (d : ℕ) (bs : List Branch) → ahead T d bs ≡ flat (λ b. next T d false b ∷ (next T d true b ∷ [])) bs
ahead_flat T d [] = refl
ahead_flat T d (b ∷ bs) = ap (λ w. next T d false b ∷ (next T d true b ∷ w)) (ahead_flat T d bs)

-- fronts with the same first occurrences have the same numbering
pub same_front : (T : Table) (h d : ℕ) (xs ys : List Branch) → once same_branch xs ≡ once same_branch ys → numbering T h d xs ≡ numbering T h d ys
same_front T zero d xs ys e = refl
same_front T (suc h) d xs ys e =
    ap₂ ◌++◌
    (ap (once eqb) (asking_flat T d xs) ∙ (once_flat_two same_branch tells_branch eqb tells_eqb (ask T d) xs ys e ∙ ap (once eqb) (sym (asking_flat T d ys))))
    (same_front T h (suc d) (ahead T d xs) (ahead T d ys)
    (ap (once same_branch) (ahead_flat T d xs)
    ∙ (once_flat_two same_branch tells_branch same_branch tells_branch (λ b. next T d false b ∷ (next T d true b ∷ [])) xs ys e
    ∙ ap (once same_branch) (sym (ahead_flat T d ys)))))

pub front_thinned : FrontThinned
front_thinned T h d bs = same_front T h d (once same_branch bs) bs (once_apart same_branch tells_branch (once same_branch bs) (apart_once same_branch tells_branch bs))
