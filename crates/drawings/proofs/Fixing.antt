-- What is left of a selection where some pins are fixed.
use Rattle.std.proofs.Common.{◌≡◌, ℕ, suc, ◌+◌, ◌-◌, ◌*◌, ◌/◌, ◌%◌, ◌^◌, ◌<◌, Bool, true, false, cond, eqb, List, [], ◌∷◌, length, sym, refl, ap, ◌∙◌, subst, ap₂, inl, inr, arith, pow_pos, pow-add}
use lib.Bits.{bit_or, or_shr, or_mod, or_zero_r}
use native.Mathlib.Nat.{div_self, div-eq_of_lt, zero-div}
use lib.Pow.{pow-lt}
use Rattle.std.proofs.lemmas.Nat.{shl-shr}
use Rattle.std.proofs.lemmas.Bool.Decides.{eqb_tells, leb_tells}
use Rattle.model.specs.declared.Branch.TheVariants.{End as end}
use Rattle.model.specs.Lists.{In, Apart}
use Rattle.model.specs.Trees.{leaf, fork}
use Rattle.model.specs.Selections.{Selection, Setting, pin, put, view, address}
use Rattle.model.specs.Diagrams.{Table, tree}
use Rattle.model.proofs.Settings.{pin_address, address_small, put_same, put_other, order_has}
use Rattle.model.specs.Orders.{Order}
use Rattle.trees.specs.Left.{OneLeft, TwoLeft}
use Rattle.trees.proofs.Fixed.{pins_tell}
use Rattle.drawings.specs.Fixed.{Fixed, bit_of}

-- where one code is left, what remains is that code throughout
module _ (n mask value : ℕ) (c : Selection) (e : ℕ) (T : Table) (one : OneLeft n c mask value e) where
  pub one_code : (ps : List ℕ) (s : Setting) (d : ℕ) → ((p : ℕ) → p < n → pin n mask p ≡ true → In p ps → ⊥) → ((p : ℕ) → p < n → pin n mask p ≡ true → s p ≡ pin n value p)
      → view n c ps s ≡ tree T (length ps) d (end e)
  one_code [] s d gone stands = ap leaf (one (address n s) (address_small n s) (λ p l m. pin_address n s p l ∙ stands p l m))
  one_code (p ∷ ps) s d gone stands =
      ap₂ fork (one_code ps (put s p false) (suc d) (λ q l m i. gone q l m (inr i)) (λ q l m. put_other s p false q (λ z. gone q l m (inl z)) ∙ stands q l m))
      (one_code ps (put s p true) (suc d) (λ q l m i. gone q l m (inr i)) (λ q l m. put_other s p true q (λ z. gone q l m (inl z)) ∙ stands q l m))

-- bit m of a number in which bit k was set
module _ (a k m : ℕ) where
  split_bit : (bit_or a (2 ^ k) / 2 ^ m) % 2 ≡ bit_or (a / 2 ^ m % 2) (2 ^ k / 2 ^ m % 2)
  split_bit = ap (λ x. x % 2) (or_shr a (2 ^ k) m) ∙ or_mod (a / 2 ^ m) (2 ^ k / 2 ^ m) 1

  bit_set : k ≡ m → (bit_or a (2 ^ k) / 2 ^ m) % 2 ≡ 1
  bit_set e = split_bit ∙ ap (λ x. bit_or (a / 2 ^ m % 2) (2 ^ x / 2 ^ m % 2)) e ∙ ap (λ x. bit_or (a / 2 ^ m % 2) (x % 2)) (div_self (pow_pos m)) ∙ last (a / 2 ^ m)
    where
      last : (x : ℕ) → bit_or (x % 2) 1 ≡ 1
      last x = elim (eqb_tells (x % 2) 0) [ inl t ↦ ap (λ y. bit_or y 1) t.1 | inr t ↦ (let o : x % 2 ≡ 1 = omega (arith, t.1) in ap (λ y. bit_or y 1) o) ]

  other_bit : (k ≡ m → ⊥) → 2 ^ k / 2 ^ m % 2 ≡ 0
  other_bit ne =
      elim (leb_tells m k) [
        | inl t ↦
            let j = k - suc m in
            let e : k ≡ (j + 1) + m = omega (arith, t.1, ne) in
            let p : 2 ^ ((j + 1) + m) ≡ 2 ^ (j + 1) * 2 ^ m = pow-add 2 (j + 1) m in
            let q : 2 ^ (j + 1) ≡ 2 ^ j * 2 ^ 1 = pow-add 2 j 1 in
            let w : 2 ^ k / 2 ^ m ≡ 2 ^ (j + 1) = ap (λ x. 2 ^ x / 2 ^ m) e ∙ ap (λ x. x / 2 ^ m) p ∙ shl-shr (2 ^ (j + 1)) m in
            omega (arith, w, q)
        | inr t ↦ ap (λ x. x % 2) (div_eq_zero (2 ^ k) (2 ^ m) (pow-lt t.1))
      ]
    where
      div_eq_zero : (x y : ℕ) → x < y → x / y ≡ 0
      div_eq_zero x y l = div-eq_of_lt l

  bit_kept : (k ≡ m → ⊥) → (bit_or a (2 ^ k) / 2 ^ m) % 2 ≡ a / 2 ^ m % 2
  bit_kept ne = split_bit ∙ ap (bit_or (a / 2 ^ m % 2)) (other_bit ne) ∙ or_zero_r (a / 2 ^ m % 2)

module _ (n a p : ℕ) (l : p < n) where
  pub pin_set : pin n (bit_or a (bit_of n p)) p ≡ true
  pin_set = ap (λ x. eqb x 1) (bit_set a (n - suc p) (n - suc p) refl)

  pub pin_kept : (q : ℕ) → q < n → (q ≡ p → ⊥) → pin n (bit_or a (bit_of n p)) q ≡ pin n a q
  pin_kept q h ne = ap (λ x. eqb x 1) (bit_kept a (n - suc p) (n - suc q) (λ e. ne (omega (arith, e, h, l))))

-- one pin more is fixed
module _ (n mask value p : ℕ) (ps : List ℕ) (s : Setting) (l : p < n) (once : Apart (p ∷ ps)) (f : Fixed n mask value (p ∷ ps) s) where
  was : (q : ℕ) → q < n → (q ≡ p → ⊥) → pin n (bit_or mask (bit_of n p)) q ≡ true → pin n mask q ≡ true
  was q h ne m = sym (pin_kept n mask p l q h ne) ∙ m

  left_gone : (q : ℕ) → q < n → pin n (bit_or mask (bit_of n p)) q ≡ true → In q ps → ⊥
  left_gone q h m i =
      elim (eqb_tells q p) [ inl t ↦ once.0 (subst (λ (x : ℕ). In x ps) t.1 i) | inr t ↦ f.gone q h (was q h t.1 m) (inr i) ]

  left_still : (q : ℕ) → q < n → pin n (bit_or mask (bit_of n p)) q ≡ false → In q ps
  left_still q h m =
      elim (eqb_tells q p) [
        | inl t ↦ (let z : ◌≡◌ {A = ℕ} 1 0 = ap (λ (b : Bool). cond b 1 0) (sym (pin_set n mask p l) ∙ ap (pin n (bit_or mask (bit_of n p))) (sym t.1) ∙ m) in absurd (omega arith))
        | inr t ↦ other q t.1 (f.left q h (sym (pin_kept n mask p l q h t.1) ∙ m))
      ]
    where
      other : (q : ℕ) → (q ≡ p → ⊥) → In q (p ∷ ps) → In q ps
      other q ne (inl e) = absurd (ne e)
      other q ne (inr i) = i

  pub fixed_low : Fixed n (bit_or mask (bit_of n p)) value ps (put s p false)
  fixed_low = record {
    gone = left_gone;
    left = left_still;
    stands = λ q h m. elim (eqb_tells q p) [
      | inl t ↦ ap (put s p false) t.1 ∙ put_same s p false ∙ sym (f.clear p l (inl refl)) ∙ ap (pin n value) (sym t.1)
      | inr t ↦ put_other s p false q t.1 ∙ f.stands q h (was q h t.1 m)
    ];
    clear = λ q h i. f.clear q h (inr i);
  }

  pub fixed_high : Fixed n (bit_or mask (bit_of n p)) (bit_or value (bit_of n p)) ps (put s p true)
  fixed_high = record {
    gone = left_gone;
    left = left_still;
    stands = λ q h m. elim (eqb_tells q p) [
      | inl t ↦ ap (put s p true) t.1 ∙ put_same s p true ∙ sym (pin_set n value p l) ∙ ap (pin n (bit_or value (bit_of n p))) (sym t.1)
      | inr t ↦ put_other s p true q t.1 ∙ f.stands q h (was q h t.1 m) ∙ sym (pin_kept n value p l q h t.1)
    ];
    clear = λ q h i. pin_kept n value p l q h (λ e. once.0 (subst (λ (x : ℕ). In x ps) e i)) ∙ f.clear q h (inr i);
  }

-- no pin is fixed
pub none_fixed : (n : ℕ) (order : List ℕ) (s : Setting) → Order n order → Fixed n 0 0 order s
none_fixed n order s o = record {
  gone = λ p l m i. never p m;
  left = λ p l m. order_has n order o p l;
  stands = λ p l m. absurd (never p m);
  clear = λ p l i. zero_pin p;
}
  where
    zero_pin : (p : ℕ) → pin n 0 p ≡ false
    zero_pin p = ap (λ x. eqb (x % 2) 1) (zero-div (2 ^ (n - suc p)))

    never : (p : ℕ) → pin n 0 p ≡ true → ⊥
    never p m = let y : ◌≡◌ {A = ℕ} 0 1 = ap (λ (b : Bool). cond b 1 0) (sym (zero_pin p) ∙ m) in omega arith

-- with every pin fixed, two codes cannot be left
pub all_fixed : (n mask value : ℕ) (s : Setting) (c : Selection) → Fixed n mask value [] s → TwoLeft n c mask value → ⊥
all_fixed n mask value s c f t =
    t.differ (ap c (pins_tell n t.one t.other t.one_in t.other_in (λ p l. t.one_agrees p l (set p l) ∙ sym (t.other_agrees p l (set p l)))))
  where
    told : (b : Bool) → (b ≡ false → ⊥) → b ≡ true
    told true n = refl
    told false n = absurd (n refl)

    set : (p : ℕ) → p < n → pin n mask p ≡ true
    set p l = told (pin n mask p) (λ e. f.left p l e)
