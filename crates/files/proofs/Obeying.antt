-- Bytes have no fault exactly when they obey the layout and the rules of the entries.
use Rattle.std.proofs.Common.{◌≡◌, ℕ, zero, suc, ◌+◌, ◌-◌, ◌^◌, ◌<◌, ◌≤◌, true, false, eqb, List, [], ◌∷◌, length, get_or, take, Some, None, sym, refl, ◌∙◌, subst, add-one, arith, pow_pos}
use Rattle.std.proofs.lemmas.Bool.Decides.{nat_tests}
use Rattle.faults.specs.declared.fault.Fault.{Fault}
use Rattle.faults.specs.Refusals.{is_none}
use Rattle.files.specs.declared.format.Format.{Format}
use Rattle.files.specs.declared.format.Format.TheVariants.{Bits, Settings, Ranges}
use Rattle.files.specs.Formats.{mark_of, header_size, pins_of, count_of, first_of, last_of, code_of, code_limit}
use Rattle.files.specs.Verdict.{marked, of_kind, header_fault, first_fault, switch_fault, range_fault, later_fault, entry_fault, entries_fault, fault, blank}
use Rattle.files.specs.Rules.{KindRead, LaidOut, SwitchesObey, RangesObey, EntriesObey, Obeys}
use Rattle.files.proofs.Scans.{or_none, entries_none, none_entries}
use Rattle.faults.proofs.Refusing.{or_left, or_right, none_of}

-- three bytes are known one by one
front : (bs : List ℕ) (a b c : ℕ) → 3 ≤ length bs → get_or bs 0 0 ≡ a → get_or bs 1 0 ≡ b → get_or bs 2 0 ≡ c → take 3 bs ≡ a ∷ b ∷ c ∷ []
front [] a b c h p q r = absurd (omega arith)
front (x ∷ []) a b c h p q r = absurd (omega arith)
front (x ∷ y ∷ []) a b c h p q r = absurd (omega arith)
front (x ∷ y ∷ z ∷ bs) a b c h p q r = cc

back : (bs : List ℕ) (a b c : ℕ) → take 3 bs ≡ a ∷ b ∷ c ∷ [] → (3 ≤ length bs) × (get_or bs 0 0 ≡ a) × (get_or bs 1 0 ≡ b) × (get_or bs 2 0 ≡ c)
back [] a b c e = let z : ◌≡◌ {A = ℕ} 0 1 = cc in absurd (omega arith)
back (x ∷ []) a b c e = let z : ◌≡◌ {A = ℕ} 0 1 = cc in absurd (omega arith)
back (x ∷ y ∷ []) a b c e = let z : ◌≡◌ {A = ℕ} 0 1 = cc in absurd (omega arith)
back (x ∷ y ∷ z ∷ bs) a b c e = (omega arith, cc, cc, cc)

-- the first three bytes, as a test and as an equation
mark_told : (k : Format) (bs : List ℕ) → 3 ≤ length bs → marked k bs ≡ true → take 3 bs ≡ mark_of k
mark_told Bits bs h e = front bs 83 87 76 h (grind (arith, nat_tests)) (grind (arith, nat_tests)) (grind (arith, nat_tests))
mark_told Settings bs h e = front bs 83 87 76 h (grind (arith, nat_tests)) (grind (arith, nat_tests)) (grind (arith, nat_tests))
mark_told Ranges bs h e = front bs 82 78 71 h (grind (arith, nat_tests)) (grind (arith, nat_tests)) (grind (arith, nat_tests))

told_mark : (k : Format) (bs : List ℕ) → take 3 bs ≡ mark_of k → marked k bs ≡ true
told_mark Bits bs e = let p = back bs 83 87 76 e in simp (p.1, p.2, p.3)
told_mark Settings bs e = let p = back bs 83 87 76 e in simp (p.1, p.2, p.3)
told_mark Ranges bs e = let p = back bs 82 78 71 e in simp (p.1, p.2, p.3)

kind_told : (k : Format) (bs : List ℕ) → of_kind k bs ≡ true → KindRead k bs
kind_told Bits bs e = grind (arith, nat_tests)
kind_told Settings bs e = grind (arith, nat_tests)
kind_told Ranges bs e = tt

told_kind : (k : Format) (bs : List ℕ) → KindRead k bs → of_kind k bs ≡ true
told_kind Bits bs e = grind (arith, nat_tests)
told_kind Settings bs e = grind (arith, nat_tests)
told_kind Ranges bs e = refl

three_in : (k : Format) → 3 ≤ header_size k
three_in Bits = omega arith
three_in Settings = omega arith
three_in Ranges = omega arith

module _ (k : Format) (bs : List ℕ) where
  laid_out : header_fault k bs ≡ None → LaidOut k bs
  laid_out e =
      let long : header_size k ≤ length bs = grind (arith, nat_tests) in
      record {
        mark = mark_told k bs (omega (arith, three_in k, long)) (grind (arith, nat_tests));
        version = grind (arith, nat_tests);
        kind = kind_told k bs (grind (arith, nat_tests));
        some_pins = grind (arith, nat_tests);
        few_pins = grind (arith, nat_tests);
        few_entries = grind (arith, nat_tests);
        whole = grind (arith, nat_tests);
      }

  unrefused : LaidOut k bs → header_fault k bs ≡ None
  unrefused h =
      let m = told_mark k bs h.mark in
      let q = told_kind k bs h.kind in
      let v = h.version in
      let a = h.some_pins in
      let b = h.few_pins in
      let c = h.few_entries in
      let w = h.whole in
      grind (arith, nat_tests)

  switch_below : (i : ℕ) → switch_fault k bs i ≡ None → first_of k bs i < 2 ^ pins_of k bs
  switch_below i e = grind (arith, nat_tests)

  switch_rising : (i : ℕ) → switch_fault k bs i ≡ None → first_of k bs (i - 1) < first_of k bs i
  switch_rising i e = grind (arith, nat_tests)

  switch_coded : (i : ℕ) → switch_fault k bs i ≡ None → code_of k bs i < code_limit k
  switch_coded i e = grind (arith, nat_tests)

  switch_changing : (i : ℕ) → switch_fault k bs i ≡ None → code_of k bs (i - 1) ≡ code_of k bs i → ⊥
  switch_changing i e q = grind (arith, nat_tests)

  switch_unrefused : (i : ℕ) → first_of k bs i < 2 ^ pins_of k bs → first_of k bs (i - 1) < first_of k bs i → code_of k bs i < code_limit k
      → (code_of k bs (i - 1) ≡ code_of k bs i → ⊥) → switch_fault k bs i ≡ None
  switch_unrefused i a b c d = let f : code_of k bs i ≡ code_of k bs (i - 1) → ⊥ = (λ e. d (sym e)) in grind (arith, nat_tests)

module _ (bs : List ℕ) where
  range_below : (i : ℕ) → range_fault bs i ≡ None → last_of bs i < 2 ^ pins_of Ranges bs
  range_below i e = grind (arith, nat_tests)

  range_forward : (i : ℕ) → range_fault bs i ≡ None → first_of Ranges bs i ≤ last_of bs i
  range_forward i e = grind (arith, nat_tests)

  range_apart : (i : ℕ) → 1 < i → range_fault bs i ≡ None → last_of bs (i - 1) + 2 ≤ first_of Ranges bs i
  range_apart i h e = grind (arith, nat_tests)

  range_unrefused : (i : ℕ) → last_of bs i < 2 ^ pins_of Ranges bs → first_of Ranges bs i ≤ last_of bs i → (1 < i → last_of bs (i - 1) + 2 ≤ first_of Ranges bs i) → range_fault bs i ≡ None
  range_unrefused i a b c = grind (arith, nat_tests)

-- entry 0 and the entries above it
later : (k : Format) (bs : List ℕ) (i : ℕ) → entry_fault k bs (i + 1) ≡ later_fault k bs (i + 1)
later k bs i = let e : eqb (i + 1) 0 ≡ false = grind (arith, nat_tests) in simp e

module _ (k : Format) (bs : List ℕ) (each : (i : ℕ) → i ≤ count_of k bs → entry_fault k bs i ≡ None) where
  module _ (same : (i : ℕ) → later_fault k bs i ≡ switch_fault k bs i) (first : code_of k bs 0 < code_limit k) where
    next : (i : ℕ) → i < count_of k bs → switch_fault k bs (i + 1) ≡ None
    next i h = sym (same (i + 1)) ∙ sym (later k bs i) ∙ each (i + 1) (omega arith)

    back_one : (i : ℕ) → i + 1 - 1 ≡ i
    back_one i = omega arith

    switches : SwitchesObey k bs
    switches = record {
      below = below;
      rising = λ i h. subst (λ (x : ℕ). first_of k bs x < first_of k bs (i + 1)) (back_one i) (switch_rising k bs (i + 1) (next i h));
      coded = coded;
      changing = λ i h. subst (λ (x : ℕ). code_of k bs x ≡ code_of k bs (i + 1) → ⊥) (back_one i) (switch_changing k bs (i + 1) (next i h));
    }
      where
        below : (i : ℕ) → i ≤ count_of k bs → first_of k bs i < 2 ^ pins_of k bs
        below zero h = pow_pos (pins_of k bs)
        below (suc i) h = subst (λ (x : ℕ). first_of k bs x < 2 ^ pins_of k bs) (add-one i) (switch_below k bs (i + 1) (next i (omega arith)))

        coded : (i : ℕ) → i ≤ count_of k bs → code_of k bs i < code_limit k
        coded zero h = first
        coded (suc i) h = subst (λ (x : ℕ). code_of k bs x < code_limit k) (add-one i) (switch_coded k bs (i + 1) (next i (omega arith)))

unswitched : (k : Format) (bs : List ℕ) → ((i : ℕ) → later_fault k bs i ≡ switch_fault k bs i) → first_fault k bs ≡ None → SwitchesObey k bs → (i : ℕ) → i ≤ count_of k bs → entry_fault k bs i ≡ None
unswitched k bs same first o zero h = first
unswitched k bs same first o (suc i) h =
    subst (λ (x : ℕ). entry_fault k bs x ≡ None) (add-one i)
    (later k bs i ∙ same (i + 1) ∙ switch_unrefused k bs (i + 1) (o.below (i + 1) (omega arith))
    (subst (λ (x : ℕ). first_of k bs x < first_of k bs (i + 1)) (sym (one i)) (o.rising i (omega arith)))
    (o.coded (i + 1) (omega arith))
    (subst (λ (x : ℕ). code_of k bs x ≡ code_of k bs (i + 1) → ⊥) (sym (one i)) (o.changing i (omega arith))))
  where
    one : (j : ℕ) → j + 1 - 1 ≡ j
    one j = omega arith

ranges : (bs : List ℕ) → ((i : ℕ) → i ≤ count_of Ranges bs → entry_fault Ranges bs i ≡ None) → RangesObey bs
ranges bs each = record {
  below = λ i l h. range_below bs i (here i l h);
  forward = λ i l h. range_forward bs i (here i l h);
  apart = λ i l h. subst (λ (x : ℕ). last_of bs x + 2 ≤ first_of Ranges bs (i + 1)) (one i) (range_apart bs (i + 1) (omega arith) (here (i + 1) (omega arith) (omega arith)));
}
  where
    one : (j : ℕ) → j + 1 - 1 ≡ j
    one j = omega arith

    here : (i : ℕ) → 1 ≤ i → i ≤ count_of Ranges bs → range_fault bs i ≡ None
    here zero l h = absurd (omega arith)
    here (suc i) l h = subst (λ (x : ℕ). range_fault bs x ≡ None) (add-one i) (sym (later Ranges bs i) ∙ each (i + 1) (omega arith))

unranged : (bs : List ℕ) → RangesObey bs → (i : ℕ) → i ≤ count_of Ranges bs → entry_fault Ranges bs i ≡ None
unranged bs o zero h = refl
unranged bs o (suc i) h =
    subst (λ (x : ℕ). entry_fault Ranges bs x ≡ None) (add-one i)
    (later Ranges bs i ∙ range_unrefused bs (i + 1) (o.below (i + 1) (omega arith) (omega arith)) (o.forward (i + 1) (omega arith) (omega arith)) gap)
  where
    one : (j : ℕ) → j + 1 - 1 ≡ j
    one j = omega arith

    gap : 1 < i + 1 → last_of bs (i + 1 - 1) + 2 ≤ first_of Ranges bs (i + 1)
    gap l = subst (λ (x : ℕ). last_of bs x + 2 ≤ first_of Ranges bs (i + 1)) (sym (one i)) (o.apart i (omega arith) (omega arith))

first_bit : (bs : List ℕ) → first_fault Bits bs ≡ None → get_or bs 7 0 < 2
first_bit bs e = grind (arith, nat_tests)

first_setting : (bs : List ℕ) → first_fault Settings bs ≡ None → get_or bs 7 0 < 128
first_setting bs e = grind (arith, nat_tests)

entries_obey : (k : Format) (bs : List ℕ) → ((i : ℕ) → i ≤ count_of k bs → entry_fault k bs i ≡ None) → EntriesObey k bs
entries_obey Bits bs each = (first_bit bs (each 0 (omega arith)), switches Bits bs each (λ i. refl) (omega arith))
entries_obey Settings bs each = switches Settings bs each (λ i. refl) (first_setting bs (each 0 (omega arith)))
entries_obey Ranges bs each = ranges bs each

unfaulted : (k : Format) (bs : List ℕ) → EntriesObey k bs → (i : ℕ) → i ≤ count_of k bs → entry_fault k bs i ≡ None
unfaulted Bits bs o = unswitched Bits bs (λ i. refl) (let h = o.0 in grind (arith, nat_tests)) o.1
unfaulted Settings bs o = unswitched Settings bs (λ i. refl) (let h : get_or bs 7 0 < 128 = o.coded 0 (omega arith) in grind (arith, nat_tests)) o
unfaulted Ranges bs o = unranged bs o

pub obeys : (k : Format) (bs : List ℕ) → fault k bs ≡ None → Obeys k bs
obeys k bs e =
    let n = count_of k bs + 1 in
    record {
      layout = laid_out k bs (or_left (header_fault k bs) (entries_fault k bs n) e);
      entries = entries_obey k bs (λ i h. entries_none k bs n (or_right (header_fault k bs) (entries_fault k bs n) e) i (omega arith));
    }

pub obeyed : (k : Format) (bs : List ℕ) → Obeys k bs → fault k bs ≡ None
obeyed k bs o =
    or_none (header_fault k bs) (entries_fault k bs (count_of k bs + 1)) (unrefused k bs o.layout) (none_entries k bs (count_of k bs + 1) (λ i h. unfaulted k bs o.entries i (omega arith)))

pub refused_breaks : (k : Format) (bs : List ℕ) (f : Fault) → fault k bs ≡ Some f → Obeys k bs → ⊥
refused_breaks k bs f e o = let n = obeyed k bs o in let z : ◌≡◌ {A = ℕ} 0 1 = cc in omega arith

-- the smallest map file is one
pub blank_good : (k : Format) → fault k (blank k) ≡ None
blank_good Bits = refl
blank_good Settings = refl
blank_good Ranges = refl

-- what a reader's bytes obey
pub reader_obeys : (k : Format) (bs : List ℕ) → is_none (fault k bs) ≡ true → Obeys k bs
reader_obeys k bs e = obeys k bs (none_of (fault k bs) e)
