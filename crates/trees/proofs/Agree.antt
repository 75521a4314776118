-- What is left of a selection, from what is left of its two halves.
use Rattle.std.proofs.Common.{◌≡◌, ℕ, zero, suc, ◌+◌, ◌-◌, ◌*◌, ◌/◌, ◌%◌, ◌^◌, ◌<◌, Bool, true, false, cond, eqb, Some, None, Option, sym, refl, ap, ◌∙◌, subst, inl, inr, mod-eq_of_lt, arith}
use native.Mathlib.Nat.{zero-div}
use lib.Pow.{mod-mod-pow}
use Rattle.std.proofs.lemmas.Nat.{pow_pos, pow-add, field_of, mod_below, mod-pow-add, div-mul-add, mod-mul-add}
use Rattle.std.proofs.lemmas.Bool.{both_ways, cases_Bool}
use Rattle.std.proofs.lemmas.Bool.Decides.{eqb_tells}
use Rattle.model.specs.Selections.{pin}
use Rattle.trees.specs.Left.{Agrees, OneLeft, TwoLeft, Left}

-- a low bit is that of the remainder
bit_mod : (x k q : ℕ) → q < k → x % 2 ^ k / 2 ^ q % 2 ≡ x / 2 ^ q % 2
bit_mod x k q h =
    let e : k - q - 1 + 1 + q ≡ k = omega arith in
    ap (λ y. x % 2 ^ y / 2 ^ q % 2) (sym e) ∙ ap (λ y. y % 2) (field_of x (k - q - 1 + 1) q) ∙ mod-mod-pow (x / 2 ^ q) (k - q - 1) 1

pub pin_mod : (k x p : ℕ) → p < k → pin k (x % 2 ^ k) p ≡ pin k x p
pin_mod k x p h = ap (λ y. eqb y 1) (bit_mod x k (k - suc p) (omega arith))

pub pin_tail : (k x p : ℕ) → p < k → pin (k + 1) x (suc p) ≡ pin k x p
pin_tail k x p h = let e : k + 1 - suc (suc p) ≡ k - suc p = omega arith in ap (λ y. eqb (x / 2 ^ y % 2) 1) e

pub pin_top : (k x : ℕ) → pin (k + 1) x 0 ≡ eqb (x / 2 ^ k % 2) 1
pin_top k x = let e : k + 1 - suc 0 ≡ k = omega arith in ap (λ y. eqb (x / 2 ^ y % 2) 1) e

-- the fixed value is itself an agreeing address
pub value_agrees : (k mask value : ℕ) → Agrees k mask value (value % 2 ^ k)
value_agrees k mask value p h t = pin_mod k value p h

-- where no pin is fixed, each address agrees
pub free_agrees : (k mask value a : ℕ) → mask % 2 ^ k ≡ 0 → Agrees k mask value a
free_agrees k mask value a e p h t =
    let z : pin k mask p ≡ false = sym (pin_mod k mask p h) ∙ ap (λ x. pin k x p) e ∙ ap (λ x. eqb (x % 2) 1) (zero-div (2 ^ (k - suc p))) in
    absurd (both_ways (pin k mask p) z t)

module _ (mask value k : ℕ) where
  agree_tail : (a : ℕ) → Agrees (k + 1) mask value a → Agrees k mask value (a % 2 ^ k)
  agree_tail a g p h t = pin_mod k a p h ∙ sym (pin_tail k a p h) ∙ g (suc p) (omega arith) (pin_tail k mask p h ∙ t) ∙ pin_tail k value p h

  agree_cons : (a : ℕ) → (pin (k + 1) mask 0 ≡ true → pin (k + 1) a 0 ≡ pin (k + 1) value 0) → Agrees k mask value (a % 2 ^ k) → Agrees (k + 1) mask value a
  agree_cons a top g zero h t = top t
  agree_cons a top g (suc p) h t =
      let l : p < k = omega arith in
      pin_tail k a p l ∙ sym (pin_mod k a p l) ∙ g p l (sym (pin_tail k mask p l) ∙ t) ∙ sym (pin_tail k value p l)

-- the address with top pin b, and the others of i
abbrev pub put : (k : ℕ) → Bool → ℕ → ℕ
put k b i = cond b (2 ^ k) 0 + i

pub put_below : (k i : ℕ) (b : Bool) → i < 2 ^ k → put k b i < 2 ^ (k + 1)
put_below k i true h = omega (arith, pow-add 2 k 1)
put_below k i false h = omega (arith, pow-add 2 k 1)

put_mod : (k i : ℕ) (b : Bool) → i < 2 ^ k → put k b i % 2 ^ k ≡ i
put_mod k i true h = let e : 2 ^ k + i ≡ 1 * 2 ^ k + i = omega arith in ap (λ x. x % 2 ^ k) e ∙ mod-mul-add 1 (2 ^ k) i h
put_mod k i false h = let e : 0 + i ≡ 0 * 2 ^ k + i = omega arith in ap (λ x. x % 2 ^ k) e ∙ mod-mul-add 0 (2 ^ k) i h

put_top : (k i : ℕ) (b : Bool) → i < 2 ^ k → pin (k + 1) (put k b i) 0 ≡ b
put_top k i true h = let e : 2 ^ k + i ≡ 1 * 2 ^ k + i = omega arith in pin_top k (2 ^ k + i) ∙ ap (λ x. eqb (x / 2 ^ k % 2) 1) e ∙ ap (λ x. eqb (x % 2) 1) (div-mul-add 1 (2 ^ k) i h)
put_top k i false h = let e : 0 + i ≡ 0 * 2 ^ k + i = omega arith in pin_top k (0 + i) ∙ ap (λ x. eqb (x / 2 ^ k % 2) 1) e ∙ ap (λ x. eqb (x % 2) 1) (div-mul-add 0 (2 ^ k) i h)

pub put_whole : (k a : ℕ) → a % 2 ^ (k + 1) ≡ put k (eqb (a / 2 ^ k % 2) 1) (a % 2 ^ k)
put_whole k a =
    let o : k + 1 ≡ 1 + k = omega arith in
    let e : a % 2 ^ (k + 1) ≡ a / 2 ^ k % 2 * 2 ^ k + a % 2 ^ k = ap (λ x. a % 2 ^ x) o ∙ mod-pow-add a 1 k in
    elim (eqb_tells (a / 2 ^ k % 2) 1) [
      | inl w ↦
          let r : a / 2 ^ k % 2 * 2 ^ k ≡ 1 * 2 ^ k = ap (λ x. x * 2 ^ k) w.1 in
          (let z : a % 2 ^ (k + 1) ≡ 2 ^ k + a % 2 ^ k = omega (arith, e, r) in z) ∙ ap (λ (b : Bool). put k b (a % 2 ^ k)) (sym w.0)
      | inr w ↦
          let q : a / 2 ^ k % 2 ≡ 0 = omega (arith, w.1) in
          let r : a / 2 ^ k % 2 * 2 ^ k ≡ 0 * 2 ^ k = ap (λ x. x * 2 ^ k) q in
          (let z : a % 2 ^ (k + 1) ≡ 0 + a % 2 ^ k = omega (arith, e, r) in z) ∙ ap (λ (b : Bool). put k b (a % 2 ^ k)) (sym w.0)
    ]

pub put_split : (k a : ℕ) → a < 2 ^ (k + 1) → a ≡ put k (eqb (a / 2 ^ k % 2) 1) (a % 2 ^ k)
put_split k a h = sym (mod-eq_of_lt h) ∙ put_whole k a

-- the codes of the half with top pin b
abbrev pub half_codes : (ℕ → ℕ) → ℕ → Bool → ℕ → ℕ
half_codes f k b i = f (put k b i)

module _ (f : ℕ → ℕ) (k mask value : ℕ) where
  -- two codes left in a half that can be reached
  pub two_up : (b : Bool) → (pin (k + 1) mask 0 ≡ true → b ≡ pin (k + 1) value 0) → TwoLeft k (half_codes f k b) mask value → TwoLeft (k + 1) f mask value
  two_up b top t = record {
    one = put k b t.one;
    other = put k b t.other;
    one_in = put_below k t.one b t.one_in;
    other_in = put_below k t.other b t.other_in;
    one_agrees = reach t.one t.one_in t.one_agrees;
    other_agrees = reach t.other t.other_in t.other_agrees;
    differ = t.differ;
  }
    where
      reach : (i : ℕ) → i < 2 ^ k → Agrees k mask value i → Agrees (k + 1) mask value (put k b i)
      reach i h g = agree_cons mask value k (put k b i) (λ e. put_top k i b h ∙ top e) (subst (Agrees k mask value) (sym (put_mod k i b h)) g)

  -- the one code of a half, at an address of it
  one_down : (b : Bool) (e a : ℕ) → OneLeft k (half_codes f k b) mask value e → a < 2 ^ (k + 1) → Agrees (k + 1) mask value a → pin (k + 1) a 0 ≡ b → f a ≡ e
  one_down b e a o h g q =
      let s : a ≡ put k b (a % 2 ^ k) = put_split k a h ∙ ap (λ (x : Bool). put k x (a % 2 ^ k)) (sym (pin_top k a) ∙ q) in
      ap f s ∙ o (a % 2 ^ k) (mod_below a (2 ^ k) (pow_pos k)) (agree_tail mask value k a g)

  -- the top pin is fixed
  pub fixed_up : (b : Bool) → pin (k + 1) mask 0 ≡ true → b ≡ pin (k + 1) value 0 → (r : Option ℕ) → Left k (half_codes f k b) mask value r → Left (k + 1) f mask value r
  fixed_up b m v (Some e) o = λ a h g. one_down b e a o h g (g 0 (omega arith) m ∙ sym v)
  fixed_up b m v None t = two_up b (λ q. v) t

  -- the top pin is free
  module _ (free : pin (k + 1) mask 0 ≡ false) where
    pub free_two : (b : Bool) → TwoLeft k (half_codes f k b) mask value → TwoLeft (k + 1) f mask value
    free_two b t = two_up b (λ q. absurd (both_ways (pin (k + 1) mask 0) free q)) t

    module _ (e e' : ℕ) (lo : OneLeft k (half_codes f k false) mask value e) (hi : OneLeft k (half_codes f k true) mask value e') where
      pub free_one : e ≡ e' → OneLeft (k + 1) f mask value e
      free_one q a h g =
          elim (cases_Bool (pin (k + 1) a 0)) [
            | inl t ↦ one_down true e' a hi h g t ∙ sym q
            | inr t ↦ one_down false e a lo h g t
          ]

      reach : (b : Bool) → Agrees (k + 1) mask value (put k b (value % 2 ^ k))
      reach b = agree_cons mask value k (put k b (value % 2 ^ k)) (λ q. absurd (both_ways (pin (k + 1) mask 0) free q)) (subst (Agrees k mask value) (sym (put_mod k (value % 2 ^ k) b (mod_below value (2 ^ k) (pow_pos k)))) (value_agrees k mask value))

      pub free_differ : (e ≡ e' → ⊥) → TwoLeft (k + 1) f mask value
      free_differ ne =
          let v = mod_below value (2 ^ k) (pow_pos k) in
          record {
            one = put k false (value % 2 ^ k);
            other = put k true (value % 2 ^ k);
            one_in = put_below k (value % 2 ^ k) false v;
            other_in = put_below k (value % 2 ^ k) true v;
            one_agrees = reach false;
            other_agrees = reach true;
            differ = λ q. ne (sym (lo (value % 2 ^ k) v (value_agrees k mask value)) ∙ q ∙ hi (value % 2 ^ k) v (value_agrees k mask value));
          }

-- just one answer is true
pub left_is_one : (n : ℕ) (c : ℕ → ℕ) (mask value : ℕ) (r s : Option ℕ) → Left n c mask value r → Left n c mask value s → r ≡ s
left_is_one n c mask value (Some e) (Some e') o o' =
    let v = mod_below value (2 ^ n) (pow_pos n) in
    ap Some (sym (o (value % 2 ^ n) v (value_agrees n mask value)) ∙ o' (value % 2 ^ n) v (value_agrees n mask value))
left_is_one n c mask value (Some e) None o t = absurd (t.differ (o t.one t.one_in t.one_agrees ∙ sym (o t.other t.other_in t.other_agrees)))
left_is_one n c mask value None (Some e) t o = absurd (t.differ (o t.one t.one_in t.one_agrees ∙ sym (o t.other t.other_in t.other_agrees)))
left_is_one n c mask value None None t t' = refl
