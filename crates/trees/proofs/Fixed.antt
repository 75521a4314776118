-- One more pin fixed, and all pins fixed.
use Rattle.std.proofs.Common.{◌≡◌, ℕ, zero, suc, ◌+◌, ◌-◌, ◌*◌, ◌/◌, ◌%◌, ◌^◌, ◌<◌, Bool, true, false, ◌||◌, eqb, Some, sym, refl, ap, ◌∙◌, subst, inl, inr, arith}
use native.Mathlib.Nat.{div-eq_of_lt}
use lib.Bits.{bit_or}
use Rattle.std.proofs.lemmas.Nat.{pow_pos, pow-add, pow_below, shl-shr, or_shr, or_mod, mod_below}
use Rattle.std.proofs.lemmas.Bool.{both_ways}
use Rattle.std.proofs.lemmas.Bool.Decides.{eqb_tells, leb_tells}
use Rattle.model.specs.Selections.{pin}
use Rattle.trees.specs.Left.{Agrees, OneLeft, Left}
use Rattle.trees.proofs.Agree.{pin_mod, pin_tail, pin_top, put, put_split, value_agrees}

-- an address is told by its pins
pub pins_tell : (n a b : ℕ) → a < 2 ^ n → b < 2 ^ n → ((p : ℕ) → p < n → pin n a p ≡ pin n b p) → a ≡ b
pins_tell zero a b ha hb same = omega arith
pins_tell (suc k) a b ha hb same = step (subst (λ (x : ℕ). a < 2 ^ x) e ha) (subst (λ (x : ℕ). b < 2 ^ x) e hb) (λ p h. subst (λ (x : ℕ). pin x a p ≡ pin x b p) e (same p (omega arith))) (pins_tell k (a % 2 ^ k) (b % 2 ^ k) (mod_below a (2 ^ k) (pow_pos k)) (mod_below b (2 ^ k) (pow_pos k)) low)
  where
    e : suc k ≡ k + 1
    e = omega arith

    low : (p : ℕ) → p < k → pin k (a % 2 ^ k) p ≡ pin k (b % 2 ^ k) p
    low p h = pin_mod k a p h ∙ sym (pin_tail k a p h) ∙ subst (λ (x : ℕ). pin x a (suc p) ≡ pin x b (suc p)) e (same (suc p) (omega arith)) ∙ pin_tail k b p h ∙ sym (pin_mod k b p h)

    step : a < 2 ^ (k + 1) → b < 2 ^ (k + 1) → ((p : ℕ) → p < k + 1 → pin (k + 1) a p ≡ pin (k + 1) b p) → a % 2 ^ k ≡ b % 2 ^ k → a ≡ b
    step la lb g m = put_split k a la ∙ ap (λ (x : Bool). put k x (a % 2 ^ k)) (sym (pin_top k a) ∙ g 0 (omega arith) ∙ pin_top k b) ∙ ap (put k (eqb (b / 2 ^ k % 2) 1)) m ∙ sym (put_split k b lb)

-- where all pins are fixed, one code is left
pub all_fixed : (n : ℕ) (c : ℕ → ℕ) (mask value : ℕ) → ((p : ℕ) → p < n → pin n mask p ≡ true) → OneLeft n c mask value (c (value % 2 ^ n))
all_fixed n c mask value all a h g =
    ap c (pins_tell n a (value % 2 ^ n) h (mod_below value (2 ^ n) (pow_pos n)) (λ p l. g p l (all p l) ∙ sym (pin_mod n value p l)))

-- the code that is left is that of the fixed value
pub left_code : (n : ℕ) (c : ℕ → ℕ) (mask value e : ℕ) → Left n c mask value (Some e) → e ≡ c (value % 2 ^ n)
left_code n c mask value e o = sym (o (value % 2 ^ n) (mod_below value (2 ^ n) (pow_pos n)) (value_agrees n mask value))

-- mask and value with pin q fixed too
module _ (n mask value mask' value' q : ℕ) (q_in : q < n) (free : pin n mask q ≡ false) (fixed : pin n mask' q ≡ true) (masks : (p : ℕ) → p < n → (p ≡ q → ⊥) → pin n mask' p ≡ pin n mask p) (values : (p : ℕ) → p < n → (p ≡ q → ⊥) → pin n value' p ≡ pin n value p) (a : ℕ) where
  pub agrees_less : Agrees n mask' value' a → Agrees n mask value a
  agrees_less g p h t =
      elim (eqb_tells p q) [
        | inl w ↦ absurd (both_ways (pin n mask p) (ap (pin n mask) w.1 ∙ free) t)
        | inr w ↦ g p h (masks p h w.1 ∙ t) ∙ values p h w.1
      ]

  pub agrees_pin : Agrees n mask' value' a → pin n a q ≡ pin n value' q
  agrees_pin g = g q q_in fixed

  pub agrees_more : Agrees n mask value a → pin n a q ≡ pin n value' q → Agrees n mask' value' a
  agrees_more g b p h t =
      elim (eqb_tells p q) [
        | inl w ↦ ap (pin n a) w.1 ∙ b ∙ ap (pin n value') (sym w.1)
        | inr w ↦ g p h (sym (masks p h w.1) ∙ t) ∙ sym (values p h w.1)
      ]

-- the bits of a power of two
power_here : (k : ℕ) → 2 ^ k / 2 ^ k % 2 ≡ 1
power_here k = let e : 2 ^ k ≡ 1 * 2 ^ k = omega arith in ap (λ x. x / 2 ^ k % 2) e ∙ ap (λ x. x % 2) (shl-shr 1 k)

power_other : (k l : ℕ) → (k ≡ l → ⊥) → 2 ^ k / 2 ^ l % 2 ≡ 0
power_other k l ne =
    elim (leb_tells k l) [
      | inl t ↦ let h : k < l = omega (arith, t.1, ne) in ap (λ x. x % 2) (div-eq_of_lt (pow_below k l h))
      | inr t ↦
          let e : k ≡ k - l - 1 + 1 + l = omega (arith, t.1) in
          let q = ap (λ x. 2 ^ x / 2 ^ l) e ∙ ap (λ x. x / 2 ^ l) (pow-add 2 (k - l - 1 + 1) l) ∙ shl-shr (2 ^ (k - l - 1 + 1)) l in
          ap (λ x. x % 2) q ∙ omega (arith, pow-add 2 (k - l - 1) 1)
    ]

or_bit : (x y : ℕ) → x < 2 → y < 2 → eqb (bit_or x y) 1 ≡ (eqb y 1 || eqb x 1)
or_bit x y hx hy = two x (λ z. eqb (bit_or z y) 1 ≡ (eqb y 1 || eqb z 1)) hx (two y (λ z. eqb (bit_or 0 z) 1 ≡ (eqb z 1 || eqb 0 1)) hy refl refl) (two y (λ z. eqb (bit_or 1 z) 1 ≡ (eqb z 1 || eqb 1 1)) hy refl refl)
  where
    two : (z : ℕ) (P : ℕ → Type 0) → z < 2 → P 0 → P 1 → P z
    two z P h p0 p1 = elim (eqb_tells z 0) [ inl w ↦ subst P (sym w.1) p0 | inr w ↦ let e : 1 ≡ z = omega (arith, w.1) in subst P e p1 ]

-- an address with pin q set
pub pin_set : (n a q p : ℕ) → q < n → p < n → pin n (bit_or a (2 ^ (n - suc q))) p ≡ (eqb p q || pin n a p)
pin_set n a q p hq hp =
    let k : ℕ = n - suc q in
    let l : ℕ = n - suc p in
    let or : bit_or a (2 ^ k) / 2 ^ l % 2 ≡ bit_or (a / 2 ^ l % 2) (2 ^ k / 2 ^ l % 2) = ap (λ x. x % 2) (or_shr a (2 ^ k) l) ∙ or_mod (a / 2 ^ l) (2 ^ k / 2 ^ l) 1 in
    let test : eqb (2 ^ k / 2 ^ l % 2) 1 ≡ eqb p q = elim (eqb_tells p q) [
      | inl w ↦ (let z : k ≡ l = omega (arith, w.1) in ap (λ x. eqb (2 ^ k / 2 ^ x % 2) 1) (sym z)) ∙ ap (λ x. eqb x 1) (power_here k) ∙ sym w.0
      | inr w ↦ ap (λ x. eqb x 1) (power_other k l (λ z. w.1 (omega arith))) ∙ sym w.0
    ] in
    ap (λ x. eqb x 1) or ∙ or_bit (a / 2 ^ l % 2) (2 ^ k / 2 ^ l % 2) (mod_below (a / 2 ^ l) 2 (omega arith)) (mod_below (2 ^ k / 2 ^ l) 2 (omega arith)) ∙ ap (λ (x : Bool). x || pin n a p) test
