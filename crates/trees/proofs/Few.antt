-- A level has no more mixed blocks than there are switches.
use Rattle.std.proofs.Common.{◌≡◌, ℕ, zero, suc, ◌+◌, ◌-◌, ◌*◌, ◌/◌, ◌^◌, ◌<◌, ◌≤◌, Bool, true, false, cond, eqb, List, [], ◌∷◌, map, length, sym, refl, ap, ◌∙◌, subst, inl, inr, mul_comm, add-mul, arith}
use Rattle.std.proofs.lemmas.Nat.{pow-add, div-mul-add, mul-add-lt}
use Rattle.std.proofs.lemmas.List.{length-append, length-map}
use Rattle.std.proofs.lemmas.Bool.{both_ways, cases_Bool, cond-true, cond-false}
use Rattle.std.proofs.lemmas.Bool.Decides.{eqb_tells}
use Rattle.model.specs.Lists.{In}
use Rattle.trees.specs.Mixed.{mixed, mixed_blocks}
use Rattle.trees.specs.Growth.{alone}
use Rattle.trees.specs.Records.{divided, records}
use Rattle.trees.specs.Theorems.{ChangesIn}
use Rattle.trees.proofs.Differ.{differs_tells, mixed_level}
use Rattle.trees.proofs.Rows.{alone_so, alone_not, upto, upto_none, upto_more, row, row_upto, rows, rows_none, rows_more, rows_all}
use Rattle.model.proofs.Lists.{in_map}

abbrev one_if : Bool → ℕ
one_if b = cond b 1 0

-- how many numbers below m pass the test
tally : (ℕ → Bool) → ℕ → ℕ
tally f zero = 0
tally f (suc m) = tally f m + one_if (f m)

one_if_le : (b : Bool) → one_if b ≤ 1
one_if_le true = omega arith
one_if_le false = omega arith

without : (ℕ → Bool) → ℕ → ℕ → Bool
without f u p = cond (eqb p u) false (f p)

without_here : (f : ℕ → Bool) (u p : ℕ) → eqb p u ≡ true → without f u p ≡ false
unfolding without
without_here f u p e = cond-true (eqb p u) false (f p) e

without_other : (f : ℕ → Bool) (u p : ℕ) → eqb p u ≡ false → without f u p ≡ f p
unfolding without
without_other f u p e = cond-false (eqb p u) false (f p) e

tally_same : (f : ℕ → Bool) (u m : ℕ) → m ≤ u → tally (without f u) m ≡ tally f m
unfolding tally
tally_same f u zero h = refl
tally_same f u (suc m) h =
    let e = tally_same f u m (omega arith) in
    elim (eqb_tells m u) [
      | inl w ↦ absurd (omega (arith, w.1))
      | inr w ↦ let q = ap one_if (without_other f u m w.0) in omega (arith, e, q)
    ]

tally_less : (f : ℕ → Bool) (u m : ℕ) → tally f m ≤ tally (without f u) m + 1
unfolding tally
tally_less f u zero = omega arith
tally_less f u (suc m) =
    let e = tally_less f u m in
    elim (eqb_tells m u) [
      | inl w ↦ let s = tally_same f u m (omega (arith, w.1)) in omega (arith, s, one_if_le (f m))
      | inr w ↦ let q = ap one_if (without_other f u m w.0) in omega (arith, e, q)
    ]

tally_none : (f : ℕ → Bool) (m : ℕ) → ((p : ℕ) → p < m → f p ≡ true → ⊥) → tally f m ≡ 0
unfolding tally
tally_none f zero h = refl
tally_none f (suc m) h =
    let e = tally_none f m (λ p l. h p (omega arith)) in
    elim (cases_Bool (f m)) [
      | inl t ↦ absurd (h m (omega arith) t)
      | inr t ↦ let q = ap one_if t in omega (arith, e, q)
    ]

-- what passes is listed, so no more pass than are listed
tally_le : (us : List ℕ) (f : ℕ → Bool) (m : ℕ) → ((p : ℕ) → p < m → f p ≡ true → In p us) → tally f m ≤ length us
tally_le [] f m h = omega (arith, tally_none f m h)
tally_le (u ∷ us) f m h = omega (arith, tally_less f u m, tally_le us (without f u) m rest)
  where
    rest : (p : ℕ) → p < m → without f u p ≡ true → In p us
    rest p l t =
        elim (eqb_tells p u) [
          | inl w ↦ absurd (both_ways (without f u p) (without_here f u p w.0) t)
          | inr w ↦ (elim (h p l (sym (without_other f u p w.0) ∙ t)) [ inl e ↦ absurd (w.1 e) | inr i ↦ i ])
        ]

-- codes that differ change somewhere between
change : (c : ℕ → ℕ) (a i : ℕ) → (c (a + i) ≡ c a → ⊥) → (k : ℕ) × (0 < k) × (k ≤ i) × (c (a + k - 1) ≡ c (a + k) → ⊥)
change c a zero ne = absurd (ne (ap c (let z : a + 0 ≡ a = omega arith in z)))
change c a (suc i) ne =
    let more = change c a i in
    elim (eqb_tells (c (a + i)) (c a)) [
      | inl w ↦ (suc i, omega arith, omega arith, λ e. ne (sym e ∙ ap c (let z : a + suc i - 1 ≡ a + i = omega arith in z) ∙ w.1))
      | inr w ↦ let r = more w.1 in (r.0, r.1, omega (arith, r.2), r.3)
    ]

module _ (n : ℕ) (c : ℕ → ℕ) (switches : List ℕ) (all : ChangesIn n c switches) where
  -- a mixed block has a switch past its first address
  switch_in : (j p : ℕ) → p < 2 ^ j → mixed n c j p ≡ true → In p (map (λ a. a / 2 ^ (n - j)) switches)
  unfolding mixed
  switch_in j p h m =
      let level = mixed_level n c j p m in
      let r = differs_tells c (p * 2 ^ (n - j)) (2 ^ (n - j)) m in
      let k = change c (p * 2 ^ (n - j)) r.0 r.2 in
      let l : k.0 < 2 ^ (n - j) = omega (arith, k.2, r.1) in
      let s : j + (n - j) ≡ n = omega (arith, level) in
      let w : 2 ^ (n - j) * 2 ^ j ≡ 2 ^ n = mul_comm (2 ^ (n - j)) (2 ^ j) ∙ sym (pow-add 2 j (n - j)) ∙ ap (λ x. 2 ^ x) s in
      let below : p * 2 ^ (n - j) + k.0 < 2 ^ n = omega (arith, mul-add-lt p (2 ^ (n - j)) k.0 (2 ^ j) h l, w) in
      subst (λ (x : ℕ). In x (map (λ a. a / 2 ^ (n - j)) switches)) (div-mul-add p (2 ^ (n - j)) k.0 l)
      (in_map (λ a. a / 2 ^ (n - j)) (p * 2 ^ (n - j) + k.0) switches (all (p * 2 ^ (n - j) + k.0) (omega (arith, k.1)) below k.3))

  alone_tally : (j p : ℕ) → length (alone n c j p) ≡ one_if (mixed n c j p)
  alone_tally j p =
      elim (cases_Bool (mixed n c j p)) [
        | inl t ↦ ap length (alone_so n c j p t) ∙ sym (ap one_if t)
        | inr t ↦ ap length (alone_not n c j p t) ∙ sym (ap one_if t)
      ]

  upto_tally : (j m : ℕ) → length (upto n c j m) ≡ tally (mixed n c j) m
  unfolding tally
  upto_tally j zero = ap length (upto_none n c j)
  upto_tally j (suc m) =
      let e : suc m ≡ m + 1 = omega arith in
      let more = ap length (upto_more n c j m) in
      let q = length-append (upto n c j m) (alone n c j m) in
      ap (λ x. length (upto n c j x)) e ∙ omega (arith, more, q, upto_tally j m, alone_tally j m)

  row_few : (j : ℕ) → length (row n c j) ≤ length switches
  row_few j = omega (arith, ap length (row_upto n c j), upto_tally j (2 ^ j), tally_le (map (λ a. a / 2 ^ (n - j)) switches) (mixed n c j) (2 ^ j) (switch_in j), length-map switches (λ a. a / 2 ^ (n - j)))

  rows_few : (j : ℕ) → length (rows n c j) ≤ j * length switches
  rows_few zero = omega (arith, ap length (rows_none n c))
  rows_few (suc j) =
      let e : suc j ≡ j + 1 = omega arith in
      let more = ap length (ap (rows n c) e ∙ rows_more n c j) in
      let m = ap (λ x. x * length switches) e ∙ add-mul j 1 (length switches) in
      omega (arith, more, length-append (rows n c j) (row n c j), row_few j, rows_few j, m)

  pub records_few : length (records n c) ≤ n * length switches
  unfolding records
  records_few = omega (arith, length-map (mixed_blocks n c) (divided n c), ap length (rows_all n c), rows_few n)
