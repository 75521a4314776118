-- The changes of an accepted file rise, and give the codes that it means.
use Rattle.std.proofs.Common.{◌≡◌, ℕ, ◌+◌, ◌-◌, ◌*◌, ◌/◌, ◌%◌, ◌<◌, ◌≤◌, Bool, true, false, cond, eqb, ◌⊎◌, List, sym, refl, ap, ◌∙◌, subst, inl, inr, arith, eq-eqb, ne_eqb}
use Rattle.std.proofs.lemmas.Bool.Decides.{eqb_tells, leb_tells}
use Rattle.files.specs.declared.format.Format.{Format}
use Rattle.files.specs.declared.format.Format.TheVariants.{Bits, Settings, Ranges}
use Rattle.files.specs.Formats.{count_of, first_of, last_of, code_of}
use Rattle.files.specs.Rules.{SwitchesObey, RangesObey, EntriesObey}
use Rattle.files.specs.Meaning.{last_at, covered, meaning}
use Rattle.readers.specs.Changes.{change_at, change_count}
use Rattle.files.specs.Theorems.{Last}
use Rattle.files.proofs.Lasts.{last_told}
use Rattle.files.proofs.Covers.{covered_told}
use Rattle.readers.proofs.Rising.{Steps, climbing}

-- the code after the last change at or below the address
abbrev pub changed : Format → List ℕ → ℕ → ℕ
changed k bs a = code_of k bs (last_at (change_at k bs) a (change_count k bs))

switch_steps : (k : Format) (bs : List ℕ) → SwitchesObey k bs → Steps (first_of k bs) (code_of k bs) (count_of k bs)
switch_steps k bs o = record { start = refl; climbs = λ i h. omega (arith, o.rising i h); strict = λ i l h. o.rising i h; changing = o.changing }

module _ (bs : List ℕ) where
  -- the changes at odd and at even numbers
  odd_change : (r : ℕ) → change_at Ranges bs (2 * r + 1) ≡ first_of Ranges bs (r + 1)
  odd_change r =
      let n : eqb (2 * r + 1) 0 ≡ false = ne_eqb (2 * r + 1) 0 (λ e. omega arith) in
      let o : eqb ((2 * r + 1) % 2) 1 ≡ true = eq-eqb ((2 * r + 1) % 2) 1 (omega arith) in
      let h : (2 * r + 1 + 1) / 2 ≡ r + 1 = omega arith in
      simp (n, o) (ap (first_of Ranges bs) h)

  even_change : (r : ℕ) → 1 ≤ r → change_at Ranges bs (2 * r) ≡ last_of bs r + 1
  even_change r l =
      let n : eqb (2 * r) 0 ≡ false = ne_eqb (2 * r) 0 (λ e. omega arith) in
      let o : eqb (2 * r % 2) 1 ≡ false = ne_eqb (2 * r % 2) 1 (λ e. omega arith) in
      let h : 2 * r / 2 ≡ r = omega arith in
      simp (n, o) (ap (λ x. last_of bs x + 1) h)

  -- a number is twice another, or one more
  Halved : ℕ → Type 0
  Halved i = (r : ℕ) × ((i ≡ 2 * r) ⊎ (i ≡ 2 * r + 1))

  halved : (i : ℕ) → Halved i
  unfolding Halved
  halved i = elim (eqb_tells (i % 2) 0) [ inl t ↦ (i / 2, inl (omega (arith, t.1))) | inr t ↦ (i / 2, inr (omega (arith, t.1))) ]

  module _ (o : RangesObey bs) where
    strict : (i : ℕ) → 0 < i → i < 2 * count_of Ranges bs → change_at Ranges bs i < change_at Ranges bs (i + 1)
    unfolding Halved
    strict i l h =
        let w = halved i in
        let r = w.0 in
        elim w.1 [
          | inl e ↦
              let up = o.apart r (omega (arith, e)) (omega (arith, e)) in
              let low : change_at Ranges bs i ≡ last_of bs r + 1 = ap (change_at Ranges bs) e ∙ even_change r (omega (arith, e)) in
              let high : change_at Ranges bs (i + 1) ≡ first_of Ranges bs (r + 1) = ap (λ x. change_at Ranges bs (x + 1)) e ∙ odd_change r in
              omega (arith, up, low, high)
          | inr e ↦
              let up = o.forward (r + 1) (omega arith) (omega (arith, e)) in
              let q : i + 1 ≡ 2 * (r + 1) = omega (arith, e) in
              let low : change_at Ranges bs i ≡ first_of Ranges bs (r + 1) = ap (change_at Ranges bs) e ∙ odd_change r in
              let high : change_at Ranges bs (i + 1) ≡ last_of bs (r + 1) + 1 = ap (change_at Ranges bs) q ∙ even_change (r + 1) (omega arith) in
              omega (arith, up, low, high)
        ]

    range_steps : Steps (change_at Ranges bs) (code_of Ranges bs) (2 * count_of Ranges bs)
    range_steps = record {
      start = refl;
      climbs = λ i h. elim (eqb_tells i 0) [
        | inl t ↦ subst (λ (x : ℕ). change_at Ranges bs x ≤ change_at Ranges bs (i + 1)) (sym t.1) (omega arith)
        | inr t ↦ omega (arith, strict i (omega (arith, t.1)) h)
      ];
      strict = strict;
      changing = λ i h e. omega (arith, e);
    }

    pub ranges_mean : (a : ℕ) → changed Ranges bs a ≡ meaning Ranges bs a
    unfolding Halved
    ranges_mean a =
        let c = count_of Ranges bs in
        let i = last_at (change_at Ranges bs) a (2 * c) in
        let l : Last (change_at Ranges bs) a (2 * c) i = last_told (change_at Ranges bs) refl a (2 * c) in
        let w = halved i in
        let r = w.0 in
        elim w.1 [
          | inl e ↦
              let out : covered bs a c ≡ false = outside l r e in
              let z : i % 2 ≡ 0 = omega (arith, e) in
              z ∙ sym (ap (λ (b : Bool). cond b 1 0) out)
          | inr e ↦
              let low : change_at Ranges bs i ≡ first_of Ranges bs (r + 1) = ap (change_at Ranges bs) e ∙ odd_change r in
              let q : i + 1 ≡ 2 * (r + 1) = omega (arith, e) in
              let high : change_at Ranges bs (i + 1) ≡ last_of bs (r + 1) + 1 = ap (change_at Ranges bs) q ∙ even_change (r + 1) (omega arith) in
              let next = l.next (i + 1) (omega arith) (omega (arith, e, l.there)) in
              let in' : covered bs a c ≡ true = (covered_told bs a c).1 (r + 1, omega arith, omega (arith, e, l.there), omega (arith, low, l.low), omega (arith, high, next)) in
              let z : i % 2 ≡ 1 = omega (arith, e) in
              z ∙ sym (ap (λ (b : Bool). cond b 1 0) in')
        ]
      where
        not_covered : (b : Bool) → (b ≡ true → ⊥) → b ≡ false
        not_covered true n = absurd (n refl)
        not_covered false n = refl

        outside : {i : ℕ} → Last (change_at Ranges bs) a (2 * count_of Ranges bs) i → (r : ℕ) → i ≡ 2 * r → covered bs a (count_of Ranges bs) ≡ false
        outside {i} l r e = not_covered (covered bs a (count_of Ranges bs)) (λ t.
            let s = (covered_told bs a (count_of Ranges bs)).0 t in
            let q = s.0 in
            let odd : 2 * q - 1 ≡ 2 * (q - 1) + 1 = omega (arith, s.1) in
            let one : q - 1 + 1 ≡ q = omega (arith, s.1) in
            let begins : change_at Ranges bs (2 * q - 1) ≡ first_of Ranges bs q = ap (change_at Ranges bs) odd ∙ odd_change (q - 1) ∙ ap (first_of Ranges bs) one in
            let ends : change_at Ranges bs (2 * q) ≡ last_of bs q + 1 = even_change q s.1 in
            elim (leb_tells (2 * q) i) [
              | inl u ↦ omega (arith, climbing (change_at Ranges bs) (code_of Ranges bs) (2 * count_of Ranges bs) range_steps (2 * q) i u.1 l.there, l.low, ends, s.4)
              | inr u ↦ elim (leb_tells (2 * q - 1) i) [
                | inl v ↦ omega (arith, u.1, v.1, e, s.1)
                | inr v ↦ omega (arith, l.next (2 * q - 1) v.1 (omega (arith, s.2)), begins, s.3)
              ]
            ])

pub steps_of : (k : Format) (bs : List ℕ) → EntriesObey k bs → Steps (change_at k bs) (code_of k bs) (change_count k bs)
steps_of Bits bs o = switch_steps Bits bs o.1
steps_of Settings bs o = switch_steps Settings bs o
steps_of Ranges bs o = range_steps bs o

pub changes_mean : (k : Format) (bs : List ℕ) → EntriesObey k bs → (a : ℕ) → changed k bs a ≡ meaning k bs a
changes_mean Bits bs o a = refl
changes_mean Settings bs o a = refl
changes_mean Ranges bs o a = ranges_mean bs o a
