-- Answers of blocks: just one is true of a block, and one block's answer carries over to another of the same ends.
use Rattle.std.proofs.Common.{◌≡◌, ℕ, zero, suc, ◌-◌, ◌^◌, ◌<◌, ◌⊎◌, sym, refl, ap, ◌∙◌, inl, inr, arith, pow_pos}
use Rattle.std.proofs.lemmas.Bool.Decides.{eqb_tells, leb_tells}
use Rattle.sources.specs.declared.source.Answer.{Answer}
use Rattle.sources.specs.declared.source.Answer.TheVariants.{All, Mixed, Outside}
use Rattle.sources.specs.Blocks.{at, Inside, Uniform, Differing, Says}
use Rattle.sources.specs.Laws.{JustOne}

module _ {E : Type 0} (n : ℕ) (f : ℕ → E) (j p : ℕ) where
  not_mixed : (e : E) → Uniform n f j p e → Differing n f j p → ⊥
  not_mixed e u d = d.differ (u.same d.left d.left_in ∙ sym (u.same d.right d.right_in))

  one_end : (d e : E) → Uniform n f j p d → Uniform n f j p e → d ≡ e
  one_end d e u v = sym (u.same 0 (pow_pos (n - j))) ∙ v.same 0 (pow_pos (n - j))

  -- of two answers that are true of a block, each is the other
  pub determined : (a b : Answer E) → Says n f j p a → Says n f j p b → a ≡ b
  determined (All d) (All e) u v = ap All (one_end d e u v)
  determined (All d) Mixed u v = absurd (not_mixed d u v)
  determined (All d) Outside u v = absurd (v u.inside)
  determined Mixed (All e) u v = absurd (not_mixed e v u)
  determined Mixed Mixed u v = refl
  determined Mixed Outside u v = absurd (v u.inside)
  determined Outside (All e) u v = absurd (u v.inside)
  determined Outside Mixed u v = absurd (u v.inside)
  determined Outside Outside u v = refl

inside_or_not : (n j p : ℕ) → Inside n j p ⊎ (Inside n j p → ⊥)
inside_or_not n j p =
    elim (leb_tells j n) [
      | inr t ↦ inr (λ h. omega (arith, t.1, h.level))
      | inl t ↦
          elim (leb_tells (2 ^ j) p) [ inl q ↦ inr (λ h. omega (arith, q.1, h.block)) | inr q ↦ inl (record { level = t.1; block = q.1 }) ]
    ]

-- ends that codes tell apart
module _ {E : Type 0} (code : E → ℕ) (same_end : (x y : E) → code x ≡ code y → x ≡ y) where
  all_or_not : (g : ℕ → E) (k : ℕ) → ((i : ℕ) → i < k → g i ≡ g 0) ⊎ ((i : ℕ) × (i < k) × (g i ≡ g 0 → ⊥))
  all_or_not g zero = inl (λ i h. absurd (omega arith))
  all_or_not g (suc k) =
      elim (all_or_not g k) [
        | inr d ↦ inr (d.0, omega (arith, d.1), d.2)
        | inl all ↦
            elim (eqb_tells (code (g k)) (code (g 0))) [
              | inr t ↦ inr (k, omega arith, λ e. t.1 (ap code e))
              | inl t ↦
                  inl (λ i h. elim (eqb_tells i k) [ inl z ↦ ap g z.1 ∙ same_end (g k) (g 0) t.1 | inr z ↦ all i (omega (arith, z.1)) ])
            ]
      ]

  pub just_one : (n : ℕ) (f : ℕ → E) (j p : ℕ) → JustOne n f j p
  just_one n f j p = elim (inside_or_not n j p) [ inl h ↦ of_inside h | inr h ↦ is Outside h ]
    where
      is : (a : Answer E) → Says n f j p a → JustOne n f j p
      is a s = record { answer = a; says = s; only = λ other o. determined n f j p other a o s }

      of_inside : Inside n j p → JustOne n f j p
      of_inside h =
          elim (all_or_not (λ i. f (at n j p i)) (2 ^ (n - j))) [
            | inl all ↦ is (All (f (at n j p 0))) (record { inside = h; same = all })
            | inr d ↦ is Mixed (record { inside = h; left = d.0; right = 0; left_in = d.1; right_in = pow_pos (n - j); differ = d.2 })
          ]

-- each end of block (j, p) of f is one of block (k, q) of g
abbrev pub Among : {E : Type 0} → (n : ℕ) → (ℕ → E) → (j p m : ℕ) → (ℕ → E) → (k q : ℕ) → Type 0
Among n f j p m g k q = (i : ℕ) → i < 2 ^ (n - j) → (x : ℕ) × (x < 2 ^ (m - k)) × (f (at n j p i) ≡ g (at m k q x))

module _ {E : Type 0} (n : ℕ) (f : ℕ → E) (j p : ℕ) (here : Inside n j p) (m : ℕ) (g : ℕ → E) (k q : ℕ) where
  carry_uniform : Among n f j p m g k q → (e : E) → Uniform m g k q e → Uniform n f j p e
  carry_uniform to e u = record { inside = here; same = λ i l. let t = to i l in t.2 ∙ u.same t.0 t.1 }

  pub carry_differing : Among m g k q n f j p → Differing m g k q → Differing n f j p
  carry_differing back d =
      let l = back d.left d.left_in in
      let r = back d.right d.right_in in
      record { inside = here; left = l.0; right = r.0; left_in = l.1; right_in = r.1; differ = λ e. d.differ (l.2 ∙ e ∙ sym r.2) }

  -- blocks of the same ends have one answer
  pub carry : Inside m k q → Among n f j p m g k q → Among m g k q n f j p → (r : Answer E) → Says m g k q r → Says n f j p r
  carry there to back (All e) u = carry_uniform to e u
  carry there to back Mixed d = carry_differing back d
  carry there to back Outside o = absurd (o there)
