-- The last of some addresses at or below one.
use Rattle.std.proofs.Common.{◌≡◌, ℕ, zero, suc, ◌<◌, ◌≤◌, Bool, cond, sym, ap, subst, inl, inr, arith}
use Rattle.std.proofs.lemmas.Bool.Decides.{eqb_tells, leb_tells}
use Rattle.files.specs.Meaning.{last_at}
use Rattle.files.specs.Theorems.{Last}

module _ (address : ℕ → ℕ) (start : address 0 ≡ 0) (a : ℕ) where
  last_le : (n : ℕ) → last_at address a n ≤ n
  last_le zero = omega arith
  last_le (suc n) =
      elim (leb_tells (address (suc n)) a) [ inl t ↦ simp t.0 (omega arith) | inr t ↦ let r = last_le n in simp t.0 (omega arith) ]

  last_low : (n : ℕ) → address (last_at address a n) ≤ a
  last_low zero = omega (arith, start)
  last_low (suc n) = elim (leb_tells (address (suc n)) a) [ inl t ↦ simp t.0 t.1 | inr t ↦ simp t.0 (last_low n) ]

  last_above : (n j : ℕ) → last_at address a n < j → j ≤ n → a < address j
  last_above zero j h l = absurd (omega arith)
  last_above (suc n) j h l =
      elim (leb_tells (address (suc n)) a) [
        | inl t ↦ let e : last_at address a (suc n) ≡ suc n = ap (λ (b : Bool). cond b (suc n) (last_at address a n)) t.0 in absurd (omega (arith, e, h, l))
        | inr t ↦
            let e : last_at address a (suc n) ≡ last_at address a n = ap (λ (b : Bool). cond b (suc n) (last_at address a n)) t.0 in
            elim (eqb_tells j (suc n)) [ inl s ↦ subst (λ (x : ℕ). a < address x) (sym s.1) t.1 | inr s ↦ last_above n j (omega (arith, e, h)) (omega (arith, s.1, l)) ]
      ]

  pub last_told : (n : ℕ) → Last address a n (last_at address a n)
  last_told n = record { there = last_le n; low = last_low n; next = last_above n }

  -- there is just one last
  pub told_last : (n i : ℕ) → Last address a n i → last_at address a n ≡ i
  told_last n i h =
      let l = last_told n in
      elim (leb_tells i (last_at address a n)) [
        | inl t ↦ elim (eqb_tells (last_at address a n) i) [ inl s ↦ s.1 | inr s ↦ absurd (omega (arith, h.next (last_at address a n) (omega (arith, s.1, t.1)) l.there, l.low)) ]
        | inr t ↦ absurd (omega (arith, l.next i t.1 h.there, h.low))
      ]
