-- Settings and addresses.
use Rattle.std.proofs.Common.{◌≡◌, ℕ, zero, suc, ◌+◌, ◌-◌, ◌*◌, ◌/◌, ◌%◌, ◌^◌, ◌<◌, ◌≤◌, Bool, true, false, cond, eqb, ◌⊎◌, List, [], ◌∷◌, length, sym, refl, ap, ◌∙◌, subst, ap₂, inl, inr, arith}
use native.Mathlib.Nat.{div-div-eq-div-mul, pow-succ'}
use Rattle.std.proofs.lemmas.Bool.{eq-eqb, ne_eqb, cases_eq}
use Rattle.model.specs.Lists.{In}
use Rattle.model.specs.Selections.{Setting, put, bit, address, pin}
use Rattle.model.specs.Orders.{Order}
use Rattle.model.proofs.Lists.{pigeonhole}

bit_back : (v : Bool) → eqb (bit v) 1 ≡ v
bit_back false = refl
bit_back true = refl

pub bit_small : (v : Bool) → bit v ≤ 1
bit_small false = omega arith
bit_small true = omega arith

pub address_small : (n : ℕ) (s : Setting) → address n s < 2 ^ n
address_small zero s = omega arith
address_small (suc n) s = let ih = address_small n s in let b = bit_small (s n) in let p = pow-succ' 2 n in omega arith

pub pin_address : (n : ℕ) (s : Setting) (p : ℕ) → p < n → pin n (address n s) p ≡ s p
pin_address zero s p l = absurd (let w : p < 0 = l in omega arith)
pin_address (suc n) s p l = elim (cases_eq p n) [ inl e ↦ last e | inr ne ↦ earlier ne (pin_address n s p) ]
  where
    a : ℕ
    a = address n s

    last : p ≡ n → pin (suc n) (address (suc n) s) p ≡ s p
    last e =
        let b = bit_small (s n) in
        let z : suc n - suc p ≡ 0 = omega arith in
        let q : ((2 * a + bit (s n)) / 1) % 2 ≡ bit (s n) = omega arith in
        ap (λ k. eqb (((2 * a + bit (s n)) / 2 ^ k) % 2) 1) z ∙ (ap (λ k. eqb k 1) q ∙ (bit_back (s n) ∙ ap s (sym e)))

    earlier : (p ≡ n → ⊥) → (p < n → pin n a p ≡ s p) → pin (suc n) (address (suc n) s) p ≡ s p
    earlier ne ih =
        let b = bit_small (s n) in
        let k = n - suc p in
        let z : suc n - suc p ≡ suc k = omega arith in
        let h : (2 * a + bit (s n)) / 2 ≡ a = omega arith in
        let d : (2 * a + bit (s n)) / 2 ^ (suc n - suc p) ≡ a / 2 ^ k =
        ap (λ j. (2 * a + bit (s n)) / 2 ^ j) z ∙ (ap (λ j. (2 * a + bit (s n)) / j) (pow-succ' 2 k)
        ∙ (sym (div-div-eq-div-mul (2 * a + bit (s n)) 2 (2 ^ k)) ∙ ap (λ j. j / 2 ^ k) h)) in
        ap (λ j. eqb (j % 2) 1) d ∙ ih (omega arith)

pub put_same : (s : Setting) (p : ℕ) (v : Bool) → put s p v p ≡ v
put_same s p v = ap (λ q. cond q v (s p)) (eq-eqb p p refl)

pub put_other : (s : Setting) (p : ℕ) (v : Bool) (q : ℕ) → (q ≡ p → ⊥) → put s p v q ≡ s q
put_other s p v q ne = ap (λ w. cond w v (s q)) (ne_eqb q p ne)

pub put_agree : (s t : Setting) (p : ℕ) (v : Bool) (q : ℕ) → s q ≡ t q → put s p v q ≡ put t p v q
put_agree s t p v q e = ap (λ w. cond (eqb q p) v w) e

pub put_put : (s : Setting) (p : ℕ) (u v : Bool) (q : ℕ) → put (put s p u) p v q ≡ put s p v q
put_put s p u v q =
    elim (cases_eq q p) [
      | inl e ↦ (ap (put (put s p u) p v) e ∙ put_same (put s p u) p v) ∙ sym (ap (put s p v) e ∙ put_same s p v)
      | inr e ↦ (put_other (put s p u) p v q e ∙ put_other s p u q e) ∙ sym (put_other s p v q e)
    ]

pub put_swap : (s : Setting) (p : ℕ) (u : Bool) (r : ℕ) (v : Bool) → (p ≡ r → ⊥) → (q : ℕ) → put (put s p u) r v q ≡ put (put s r v) p u q
put_swap s p u r v ne q =
    elim (cases_eq q p) [
      | inl e ↦ (put_other (put s p u) r v q (λ x. ne (sym e ∙ x)) ∙ (ap (put s p u) e ∙ put_same s p u)) ∙ sym (ap (put (put s r v) p u) e ∙ put_same (put s r v) p u)
      | inr e ↦ put_agree (put s p u) s r v q (put_other s p u q e) ∙ sym (put_other (put s r v) p u q e)
    ]

pub address_agree : (n : ℕ) (s t : Setting) → ((p : ℕ) → p < n → s p ≡ t p) → address n s ≡ address n t
address_agree zero s t h = refl
address_agree (suc n) s t h =
    ap₂ (λ a v. 2 * a + bit v) (address_agree n s t (λ p l. h p (omega arith))) (h n (omega arith))

-- the pins of an address lead back to it
pub address_pin : (n a : ℕ) → a < 2 ^ n → address n (pin n a) ≡ a
address_pin zero a l = omega arith
address_pin (suc n) a l =
    let l' : a < 2 * 2 ^ n = subst (λ k. a < k) (pow-succ' 2 n) l in
    let ih = address_pin n (a / 2) (omega arith) in
    let low : bit (pin (suc n) a n) ≡ a % 2 = ap (λ k. bit (eqb ((a / 2 ^ k) % 2) 1)) zeroth ∙ (ap (λ k. bit (eqb (k % 2) 1)) one ∙ bit_mod (a % 2) (omega arith)) in
    ap₂ (λ x y. 2 * x + y) (address_agree n (pin (suc n) a) (pin n (a / 2)) shift ∙ ih) low ∙ omega arith
  where
    zeroth : suc n - suc n ≡ 0
    zeroth = omega arith

    one : a / 1 ≡ a
    one = omega arith

    bit_mod : (r : ℕ) → r < 2 → bit (eqb r 1) ≡ r
    bit_mod zero k = refl
    bit_mod (suc zero) k = refl
    bit_mod (suc (suc r)) k = absurd (omega arith)

    shift : (p : ℕ) → p < n → pin (suc n) a p ≡ pin n (a / 2) p
    shift p k =
        let z : suc n - suc p ≡ suc (n - suc p) = omega arith in
        ap (λ j. eqb (j % 2) 1)
        (ap (λ j. a / 2 ^ j) z ∙ (ap (λ j. a / j) (pow-succ' 2 (n - suc p)) ∙ sym (div-div-eq-div-mul a 2 (2 ^ (n - suc p)))))

abbrev upto : ℕ → List ℕ
upto zero = []
upto (suc n) = n ∷ upto n

length_upto : (n : ℕ) → length (upto n) ≡ n
length_upto zero = refl
length_upto (suc n) = ap suc (length_upto n)

in_upto : (n p : ℕ) → p < n → In p (upto n)
in_upto zero p l = absurd (omega arith)
in_upto (suc n) p l = elim (cases_eq p n) [ inl e ↦ inl e | inr e ↦ inr (in_upto n p (omega arith)) ]

member : (p : ℕ) (ps : List ℕ) → In p ps ⊎ (In p ps → ⊥)
member p [] = inr (λ m. m)
member p (q ∷ ps) =
    elim (cases_eq p q) [
      | inl e ↦ inl (inl e)
      | inr ne ↦ elim (member p ps) [ inl m ↦ inl (inr m) | inr out ↦ inr (λ m. elim m [ inl e ↦ ne e | inr k ↦ out k ]) ]
    ]

-- an order of n pins has each of them
pub order_has : (n : ℕ) (order : List ℕ) → Order n order → (p : ℕ) → p < n → In p order
order_has n order o p l =
    elim (member p order) [
      | inl m ↦ m
      | inr out ↦
          absurd
          (let k = pigeonhole (p ∷ order) (upto n) (out, o.once) (λ x m. elim m [ inl e ↦ in_upto n x (omega arith) | inr j ↦ in_upto n x (o.small x j) ]) in
          let e = o.full in let w = length_upto n in omega arith)
    ]

-- s with the pins of ps put as in x
abbrev pub mix : List ℕ → Setting → Setting → Setting
mix [] s x = s
mix (p ∷ ps) s x = mix ps (put s p (x p)) x

pub mix_in : (ps : List ℕ) (s x : Setting) (q : ℕ) → (s q ≡ x q) ⊎ In q ps → mix ps s x q ≡ x q
mix_in [] s x q (inl e) = e
mix_in [] s x q (inr m) = absurd m
mix_in (p ∷ ps) s x q h = mix_in ps (put s p (x p)) x q (go h)
  where
    at : q ≡ p → put s p (x p) q ≡ x q
    at e = ap (λ j. put s p (x p) j) e ∙ (put_same s p (x p) ∙ ap x (sym e))

    go : (s q ≡ x q) ⊎ ((q ≡ p) ⊎ In q ps) → (put s p (x p) q ≡ x q) ⊎ In q ps
    go (inl e) = elim (cases_eq q p) [ inl i ↦ inl (at i) | inr i ↦ inl (put_other s p (x p) q i ∙ e) ]
    go (inr (inl e)) = inl (at e)
    go (inr (inr m)) = inr m

pub mix_out : (ps : List ℕ) (s x : Setting) (q : ℕ) → (In q ps → ⊥) → mix ps s x q ≡ s q
mix_out [] s x q out = refl
mix_out (p ∷ ps) s x q out = mix_out ps (put s p (x p)) x q (λ m. out (inr m)) ∙ put_other s p (x p) q (λ e. out (inl e))

-- a setting is a mix, if it is so on and off the pins
pub mix_is : (ps : List ℕ) (s x z : Setting) → ((q : ℕ) → In q ps → z q ≡ x q) → ((q : ℕ) → (In q ps → ⊥) → z q ≡ s q) → (q : ℕ) → mix ps s x q ≡ z q
mix_is ps s x z on off q =
    elim (member q ps) [ inl m ↦ mix_in ps s x q (inr m) ∙ sym (on q m) | inr out ↦ mix_out ps s x q out ∙ sym (off q out) ]
