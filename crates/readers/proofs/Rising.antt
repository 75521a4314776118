-- Blocks between two changes, where the addresses of the changes rise.
use Rattle.std.proofs.Common.{◌≡◌, ◌≢◌, ℕ, zero, suc, ◌+◌, ◌-◌, ◌*◌, ◌^◌, ◌<◌, ◌≤◌, sym, ap, ◌∙◌, subst, inl, inr, add-one, arith, pow_pos}
use Rattle.std.proofs.lemmas.Bool.Decides.{leb_tells}
use Rattle.sources.specs.Blocks.{at, Inside, Uniform, Differing}
use Rattle.files.specs.Meaning.{last_at}
use Rattle.files.specs.Theorems.{Last}
use Rattle.files.proofs.Lasts.{last_told, told_last}

-- changes rise from the first one on, and each changes the code
pub record Steps (address code : ℕ → ℕ) (count : ℕ) : Type 0 where
  pub start : address 0 ≡ 0
  pub climbs : (i : ℕ) → i < count → address i ≤ address (i + 1)
  pub strict : (i : ℕ) → 0 < i → i < count → address i < address (i + 1)
  pub changing : (i : ℕ) → i < count → code i ≢ code (i + 1)

module _ (address code : ℕ → ℕ) (count : ℕ) (steps : Steps address code count) where
  pub climbing : (i j : ℕ) → i ≤ j → j ≤ count → address i ≤ address j
  climbing i zero h q = let e : i ≡ 0 = omega arith in subst (λ (x : ℕ). address i ≤ address x) e (omega arith)
  climbing i (suc j) h q =
      elim (leb_tells i j) [
        | inl t ↦ let up = subst (λ (x : ℕ). address j ≤ address x) (add-one j) (steps.climbs j (omega arith)) in let low = climbing i j t.1 (omega arith) in omega (arith, up, low)
        | inr t ↦ let e : i ≡ suc j = omega (arith, t.1) in subst (λ (x : ℕ). address i ≤ address x) e (omega arith)
      ]

  -- what rises is above an address from the next one on
  pub next_alone : (a i : ℕ) → i ≤ count → address i ≤ a → (i < count → a < address (i + 1)) → Last address a count i
  next_alone a i there low next = record {
    there = there;
    low = low;
    next = λ z u v. let w = next (omega arith) in let c = climbing (i + 1) z (omega arith) v in omega (arith, w, c);
  }

  abbrev pub step_code : ℕ → ℕ
  step_code a = code (last_at address a count)

  module _ (n j p : ℕ) (h : Inside n j p) where
    abbrev first : ℕ
    first = p * 2 ^ (n - j)

    abbrev size : ℕ
    size = 2 ^ (n - j)

    -- the change found for the block's first address
    module _ (i : ℕ) (e : i ≡ last_at address first count) where
      found : Last address first count i
      found = subst (λ (x : ℕ). Last address first count x) (sym e) (last_told address steps.start first count)

      pub uniform : (c : ℕ) → c ≡ code i → (i < count → first + (size - 1) < address (i + 1)) → Uniform n step_code j p c
      uniform c q past = record {
        inside = h;
        same = λ x k. ap code (told_last address steps.start (first + x) count i (next_alone (first + x) i found.there (omega (arith, found.low)) (λ m. omega (arith, past m, k)))) ∙ sym q;
      }

      pub differing : i < count → address (i + 1) ≤ first + (size - 1) → Differing n step_code j p
      differing more within =
          let next : ℕ = address (i + 1) in
          let up : first < next = found.next (i + 1) (omega arith) (omega (arith, more)) in
          let there : Last address next count (i + 1) = next_alone next (i + 1) (omega (arith, more)) (omega arith) (λ m. steps.strict (i + 1) (omega arith) m) in
          let right : at n j p (next - first) ≡ next = omega (arith, up) in
          let left : at n j p 0 ≡ first = omega arith in
          record {
            inside = h;
            left = 0;
            right = next - first;
            left_in = pow_pos (n - j);
            right_in = omega (arith, up, within, pow_pos (n - j));
            differ = λ q. steps.changing i more (ap code e ∙ sym (ap step_code left) ∙ q ∙ ap step_code right ∙ ap code (told_last address steps.start next count (i + 1) there));
          }
