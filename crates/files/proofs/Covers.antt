-- An address is covered exactly when a range has it.
use Rattle.std.proofs.Common.{◌≡◌, ℕ, zero, suc, ◌≤◌, true, subst, inl, inr, arith, le-leb}
use Rattle.std.proofs.lemmas.Bool.Decides.{eqb_tells, leb_tells, nat_tests}
use Rattle.files.specs.declared.format.Format.TheVariants.{Ranges}
use Rattle.files.specs.Formats.{first_of, last_of}
use Rattle.files.specs.Meaning.{covered}
use Rattle.files.specs.Theorems.{CoveredIsInside}

pub covered_told : CoveredIsInside
covered_told bs a n = (there n, told n)
  where
    there : (n : ℕ) → covered bs a n ≡ true → (i : ℕ) × (1 ≤ i) × (i ≤ n) × (first_of Ranges bs i ≤ a) × (a ≤ last_of bs i)
    there zero e = let z : ◌≡◌ {A = ℕ} 0 1 = cc in absurd (omega arith)
    there (suc n) e =
        elim (leb_tells (first_of Ranges bs (suc n)) a) [
          | inl s ↦ elim (leb_tells a (last_of bs (suc n))) [
            | inl t ↦ (suc n, omega arith, omega arith, s.1, t.1)
            | inr t ↦ let r = there n (grind (arith, nat_tests, e, s.0, t.0)) in (r.0, r.1, omega (arith, r.2), r.3, r.4)
          ]
          | inr s ↦ let r = there n (grind (arith, nat_tests, e, s.0)) in (r.0, r.1, omega (arith, r.2), r.3, r.4)
        ]

    told : (n : ℕ) → ((i : ℕ) × (1 ≤ i) × (i ≤ n) × (first_of Ranges bs i ≤ a) × (a ≤ last_of bs i)) → covered bs a n ≡ true
    told zero r = absurd (omega (arith, r.1, r.2))
    told (suc n) r =
        elim (eqb_tells r.0 (suc n)) [
          | inl t ↦
              let f = le-leb (first_of Ranges bs (suc n)) a (subst (λ (x : ℕ). first_of Ranges bs x ≤ a) t.1 r.3) in
              let l = le-leb a (last_of bs (suc n)) (subst (λ (x : ℕ). a ≤ last_of bs x) t.1 r.4) in
              simp (f, l)
          | inr t ↦ let q = told n (r.0, r.1, omega (arith, r.2, t.1), r.3, r.4) in
              elim (leb_tells (first_of Ranges bs (suc n)) a) [ inl s ↦ elim (leb_tells a (last_of bs (suc n))) [ inl u ↦ simp (s.0, u.0) | inr u ↦ simp (s.0, u.0, q) ] | inr s ↦ simp (s.0, q) ]
        ]
