-- The test for mixed blocks.
use Rattle.std.proofs.Common.{◌≡◌, ℕ, zero, suc, ◌+◌, ◌-◌, ◌*◌, ◌^◌, ◌<◌, ◌≤◌, true, false, not, eqb, Some, None, Option, sym, refl, ap, ◌∙◌, subst, inl, inr, add-zero, mul_assoc, mul_comm, add-mul, arith, pow_pos, pow-add}
use Rattle.std.proofs.lemmas.Bool.{eq-eqb, ne_eqb, or_left, or_right, or_cases, not-true, eqb-false, both_ways, cases_Bool, cond-true, cond-false}
use Rattle.std.proofs.lemmas.Bool.Decides.{eqb_tells, leb_tells}
use Rattle.ends.specs.Same.{same_end}
use Rattle.sources.specs.Blocks.{at, Inside, Uniform, Differing}
use Rattle.trees.specs.Mixed.{codes, differs, mixed, block_code}

module _ (c : ℕ → ℕ) (a : ℕ) where
  pub differs_not : (k : ℕ) → ((i : ℕ) → i < k → c (a + i) ≡ c a) → differs c a k ≡ false
  unfolding differs
  differs_not zero h = refl
  differs_not (suc k) h = simp (differs_not k (λ i l. h i (omega arith)), eq-eqb (c (a + k)) (c a) (h k (omega arith)))

  pub differs_so : (k i : ℕ) → i < k → (c (a + i) ≡ c a → ⊥) → differs c a k ≡ true
  unfolding differs
  differs_so zero i l ne = absurd (omega arith)
  differs_so (suc k) i l ne =
      elim (eqb_tells i k) [
        | inl t ↦ or_left (not (eqb (c (a + k)) (c a))) (differs c a k) (ap not (ne_eqb (c (a + k)) (c a) (subst (λ (x : ℕ). c (a + x) ≡ c a → ⊥) t.1 ne)))
        | inr t ↦ or_right (not (eqb (c (a + k)) (c a))) (differs c a k) (differs_so k i (omega (arith, t.1)) ne)
      ]

  -- two of the codes differ, so one is not the first
  pub differs_two : (k i l : ℕ) → i < k → l < k → (c (a + i) ≡ c (a + l) → ⊥) → differs c a k ≡ true
  differs_two k i l hi hl ne =
      elim (eqb_tells (c (a + i)) (c a)) [
        | inl t ↦ differs_so k l hl (λ e. ne (t.1 ∙ sym e))
        | inr t ↦ differs_so k i hi t.1
      ]

  pub differs_tells : (k : ℕ) → differs c a k ≡ true → (i : ℕ) × (i < k) × (c (a + i) ≡ c a → ⊥)
  unfolding differs
  differs_tells zero e = absurd (both_ways false refl e)
  differs_tells (suc k) e =
      let more = differs_tells k in
      elim (or_cases (not (eqb (c (a + k)) (c a))) (differs c a k) e) [
        | inl t ↦ (k, omega arith, eqb-false (c (a + k)) (c a) (not-true (eqb (c (a + k)) (c a)) t))
        | inr t ↦ let r = more t in (r.0, omega (arith, r.1), r.2)
      ]

  pub same_tells : (k : ℕ) → differs c a k ≡ false → (i : ℕ) → i < k → c (a + i) ≡ c a
  same_tells k e i l =
      elim (eqb_tells (c (a + i)) (c a)) [
        | inl t ↦ t.1
        | inr t ↦ absurd (both_ways (differs c a k) e (differs_so k i l t.1))
      ]

module _ (n : ℕ) (c : ℕ → ℕ) (j p : ℕ) where
  first : c (at n j p 0) ≡ c (p * 2 ^ (n - j))
  first = ap c (add-zero (p * 2 ^ (n - j)))

  pub mixed_not : (e : ℕ) → Uniform n c j p e → mixed n c j p ≡ false
  unfolding mixed
  mixed_not e u =
      let z : c (p * 2 ^ (n - j)) ≡ e = sym first ∙ u.same 0 (pow_pos (n - j)) in
      differs_not c (p * 2 ^ (n - j)) (2 ^ (n - j)) (λ i l. u.same i l ∙ sym z)

  pub mixed_so : Differing n c j p → mixed n c j p ≡ true
  unfolding mixed
  mixed_so d = differs_two c (p * 2 ^ (n - j)) (2 ^ (n - j)) d.left d.right d.left_in d.right_in d.differ

  first_code : (e : ℕ) → Uniform n c j p e → e ≡ c (p * 2 ^ (n - j))
  first_code e u = sym (u.same 0 (pow_pos (n - j))) ∙ first

  pub uniform_of : Inside n j p → mixed n c j p ≡ false → Uniform n c j p (c (p * 2 ^ (n - j)))
  unfolding mixed
  uniform_of w e = record { inside = w; same = same_tells c (p * 2 ^ (n - j)) (2 ^ (n - j)) e }

  pub differing_of : Inside n j p → mixed n c j p ≡ true → Differing n c j p
  unfolding mixed
  differing_of w e =
      let r = differs_tells c (p * 2 ^ (n - j)) (2 ^ (n - j)) e in
      record { inside = w; left = r.0; right = 0; left_in = r.1; right_in = pow_pos (n - j); differ = λ q. r.2 (q ∙ first) }

  pub code_mixed : mixed n c j p ≡ true → block_code n c j p ≡ None
  unfolding block_code
  code_mixed m = cond-true (mixed n c j p) None (Some (c (p * 2 ^ (n - j)))) m

  pub code_whole : mixed n c j p ≡ false → block_code n c j p ≡ Some (c (p * 2 ^ (n - j)))
  unfolding block_code
  code_whole m = cond-false (mixed n c j p) None (Some (c (p * 2 ^ (n - j)))) m

  pub none_mixed : block_code n c j p ≡ None → mixed n c j p ≡ true
  none_mixed e =
      elim (cases_Bool (mixed n c j p)) [
        | inl m ↦ m
        | inr m ↦ let q = code_whole m in let z : ◌≡◌ {A = ℕ} 0 1 = cc in absurd (omega arith)
      ]

  pub some_whole : (e : ℕ) → block_code n c j p ≡ Some e → (mixed n c j p ≡ false) × (e ≡ c (p * 2 ^ (n - j)))
  some_whole e h =
      elim (cases_Bool (mixed n c j p)) [
        | inl m ↦ let q = code_mixed m in let z : ◌≡◌ {A = ℕ} 0 1 = cc in absurd (omega arith)
        | inr m ↦ let q = code_whole m in (m, cc)
      ]

  -- a block of one address is not mixed
  pub single : n ≤ j → mixed n c j p ≡ false
  unfolding mixed
  single h =
      let z : n - j ≡ 0 = omega arith in
      let P : ℕ → Type 0 = λ x. differs c (p * 2 ^ x) (2 ^ x) ≡ false in
      subst P (sym z) (differs_not c (p * 2 ^ 0) 1 (λ i l. ap c (omega arith)))

  pub mixed_level : mixed n c j p ≡ true → j < n
  mixed_level e =
      elim (leb_tells n j) [
        | inl t ↦ absurd (both_ways (mixed n c j p) (single t.1) e)
        | inr t ↦ t.1
      ]

-- the size of a block, and of its halves
pub halved : (n j : ℕ) → j < n → 2 ^ (n - j) ≡ 2 * 2 ^ (n - (j + 1))
halved n j h = let e : n - j ≡ 1 + (n - (j + 1)) = omega arith in ap (λ x. 2 ^ x) e ∙ pow-add 2 1 (n - (j + 1))

pub low_first : (n j p : ℕ) → j < n → 2 * p * 2 ^ (n - (j + 1)) ≡ p * 2 ^ (n - j)
low_first n j p h = let e = halved n j h in ap (λ x. x * 2 ^ (n - (j + 1))) (mul_comm 2 p) ∙ mul_assoc p 2 (2 ^ (n - (j + 1))) ∙ ap (λ x. p * x) (sym e)

pub high_first : (n j p : ℕ) → j < n → (2 * p + 1) * 2 ^ (n - (j + 1)) ≡ p * 2 ^ (n - j) + 2 ^ (n - (j + 1))
high_first n j p h = let e = low_first n j p h in let f = add-mul (2 * p) 1 (2 ^ (n - (j + 1))) in omega (arith, e, f)

-- a block with a mixed half is mixed
module _ (n : ℕ) (c : ℕ → ℕ) (j p : ℕ) (h : j < n) where
  pub low_mixed : mixed n c (j + 1) (2 * p) ≡ true → mixed n c j p ≡ true
  unfolding mixed
  low_mixed e =
      let r = differs_tells c (2 * p * 2 ^ (n - (j + 1))) (2 ^ (n - (j + 1))) e in
      let s = low_first n j p h in
      let z = halved n j h in
      differs_so c (p * 2 ^ (n - j)) (2 ^ (n - j)) r.0 (omega (arith, r.1)) (λ q. r.2 (ap (λ x. c (x + r.0)) s ∙ q ∙ ap c (sym s)))

  pub high_mixed : mixed n c (j + 1) (2 * p + 1) ≡ true → mixed n c j p ≡ true
  unfolding mixed
  high_mixed e =
      let r = differs_tells c ((2 * p + 1) * 2 ^ (n - (j + 1))) (2 ^ (n - (j + 1))) e in
      let s = high_first n j p h in
      let z = halved n j h in
      let w = pow_pos (n - (j + 1)) in
      let u : p * 2 ^ (n - j) + (2 ^ (n - (j + 1)) + r.0) ≡ (2 * p + 1) * 2 ^ (n - (j + 1)) + r.0 = omega (arith, s) in
      differs_two c (p * 2 ^ (n - j)) (2 ^ (n - j)) (2 ^ (n - (j + 1)) + r.0) (2 ^ (n - (j + 1))) (omega (arith, r.1)) (omega arith) (λ q. r.2 (ap c (sym u) ∙ q ∙ ap c (sym s)))

-- halves of a block inside are inside
pub low_inside : (n j p : ℕ) → j < n → p < 2 ^ j → Inside n (j + 1) (2 * p)
low_inside n j p h l = let e = pow-add 2 j 1 in record { level = omega arith; block = omega (arith, e) }

pub high_inside : (n j p : ℕ) → j < n → p < 2 ^ j → Inside n (j + 1) (2 * p + 1)
high_inside n j p h l = let e = pow-add 2 j 1 in record { level = omega arith; block = omega (arith, e) }

-- ends differ where their codes do
module _ {E : Type 0} (code : E → ℕ) (decoded : ℕ → Option E) (back : (e : E) → decoded (code e) ≡ Some e) (n : ℕ) (f : ℕ → E) (j p : ℕ) where
  pub differing_code : Differing n f j p → None ≡ block_code n (codes code f) j p
  differing_code d =
      sym (code_mixed n (codes code f) j p (mixed_so n (codes code f) j p (record {
        inside = d.inside;
        left = d.left;
        right = d.right;
        left_in = d.left_in;
        right_in = d.right_in;
        differ = λ e. d.differ (same_end code decoded back (f (at n j p d.left)) (f (at n j p d.right)) e);
      })))

  pub uniform_code : (e : E) → Uniform n f j p e → Some (code e) ≡ block_code n (codes code f) j p
  uniform_code e u =
      let w : Uniform n (codes code f) j p (code e) = record { inside = u.inside; same = λ i l. ap code (u.same i l) } in
      ap Some (first_code n (codes code f) j p (code e) w) ∙ sym (code_whole n (codes code f) j p (mixed_not n (codes code f) j p (code e) w))
