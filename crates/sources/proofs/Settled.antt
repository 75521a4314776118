-- The settled example: a source of one pin, mounted in two.
use Rattle.std.proofs.Common.{◌≡◌, ℕ, ◌-◌, ◌*◌, ◌^◌, ◌<◌, Bool, true, false, [], ◌∷◌, Some, None, ap, ◌∙◌, subst, arith, lit<}
use Rattle.faults.specs.declared.fault.Fault.{Fault}
use Rattle.sources.specs.declared.source.Answer.{Answer}
use Rattle.sources.specs.declared.source.Answer.TheVariants.{All}
use Rattle.sources.specs.Blocks.{at, Says}
use Rattle.sources.specs.Layers.{mounted}
use Rattle.sources.specs.Grounds.{mount_fault}
use Rattle.sources.proofs.Answering.{determined}

pub never_refused : (w : ℕ) (fault : Fault) → w ≡ 1 → mount_fault 2 w 1 ≡ Some fault → ⊥
never_refused w fault e h =
    let k : None ≡ Some fault = subst (λ (x : ℕ). mount_fault 2 x 1 ≡ Some fault) e h in
    let z : ◌≡◌ {A = ℕ} 0 1 = cc in
    omega arith

-- the answer of one address is its end
pub end_told : {E : Type 0} (n : ℕ) (f : ℕ → E) (a : ℕ) (r : Answer E) → a < 2 ^ n → Says n f n a r → r ≡ All (f a)
end_told n f a r h s = determined n f n a r (All (f a)) s (record { inside = record { level = omega arith; block = h }; same = λ i k. ap f (only i k) })
  where
    only : (i : ℕ) → i < 2 ^ (n - n) → at n n a i ≡ a
    only i k =
        let z : 2 ^ (n - n) ≡ 1 = let y : n - n ≡ 0 = omega arith in ap (λ x. 2 ^ x) y in
        let e : a * 2 ^ (n - n) ≡ a * 1 = ap (λ x. a * x) z in
        omega arith

module _ (n w base : ℕ) (fill : Bool) (g : ℕ → Bool) (pins : n ≡ 2) (width : w ≡ 1) (at_1 : base ≡ 1) (zero_fill : fill ≡ false) where
  abbrev two : ℕ → Bool
  two = mounted n w base fill g

  moved : (a : ℕ) → two a ≡ mounted 2 1 1 false g a
  moved a = simp (pins, width, at_1, zero_fill)

  told : (a : ℕ) (r : Answer Bool) → a < 4 → Says n two 2 a r → r ≡ All (mounted 2 1 1 false g a)
  told a r h s = end_told 2 two a r h (subst (λ (x : ℕ). Says x two 2 a r) pins s) ∙ ap All (moved a)

  pub settled : g 0 ≡ false → g 1 ≡ true → (p q r s : Answer Bool) → Says n two 2 0 p → Says n two 2 1 q → Says n two 2 2 r → Says n two 2 3 s → p ∷ q ∷ r ∷ s ∷ [] ≡ All false ∷ All false ∷ All false ∷ All true ∷ []
  settled low high p q r s hp hq hr hs =
      let a = told 0 p (lit< tt) hp in
      let b = told 1 q (lit< tt) hq in
      let c = told 2 r (lit< tt) hr in
      let d = told 3 s (lit< tt) hs in
      cc
