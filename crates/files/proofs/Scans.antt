-- The first fault among the entries.
use Rattle.std.proofs.Common.{◌≡◌, ℕ, zero, suc, ◌+◌, ◌<◌, true, List, Some, None, Option, sym, refl, ap, ◌∙◌, subst, inl, inr, add-one, arith}
use Rattle.std.proofs.lemmas.Bool.Decides.{eqb_tells}
use Rattle.faults.specs.declared.fault.Fault.{Fault}
use Rattle.faults.specs.Refusals.{or_else, is_none}
use Rattle.files.specs.declared.format.Format.{Format}
use Rattle.files.specs.Formats.{count_of}
use Rattle.files.specs.Verdict.{entries_fault, entry_fault, header_fault, fault}
use Rattle.faults.proofs.Refusing.{or_left, or_right}

pub or_none : (a b : Option Fault) → a ≡ None → b ≡ None → or_else a b ≡ None
or_none a b p q = ap (λ o. or_else o b) p ∙ q

module _ (k : Format) (bs : List ℕ) where
  pub entries_more : (i : ℕ) → entries_fault k bs i ≡ None → entry_fault k bs i ≡ None → entries_fault k bs (i + 1) ≡ None
  entries_more i p q = ap (entries_fault k bs) (add-one i) ∙ or_none (entries_fault k bs i) (entry_fault k bs i) p q

  entries_stop : (i : ℕ) (f : Fault) → entries_fault k bs i ≡ None → entry_fault k bs i ≡ Some f → (j : ℕ) → i < j → entries_fault k bs j ≡ Some f
  entries_stop i f p q zero h = absurd (omega arith)
  entries_stop i f p q (suc j) h =
      elim (eqb_tells i j) [
        | inl t ↦ ap (λ x. or_else (entries_fault k bs x) (entry_fault k bs x)) (sym t.1) ∙ ap (λ o. or_else o (entry_fault k bs i)) p ∙ q
        | inr t ↦ ap (λ o. or_else o (entry_fault k bs j)) (entries_stop i f p q j (omega (arith, t.1)))
      ]

  -- the entry at which the scan stops has the fault of the file
  pub fault_at : (i : ℕ) (f : Fault) → header_fault k bs ≡ None → entries_fault k bs i ≡ None → entry_fault k bs i ≡ Some f → i < count_of k bs + 1 → fault k bs ≡ Some f
  fault_at i f e p q h = ap (λ o. or_else o (entries_fault k bs (count_of k bs + 1))) e ∙ entries_stop i f p q (count_of k bs + 1) h

  -- no fault among the entries, exactly when each has none
  pub entries_none : (n : ℕ) → entries_fault k bs n ≡ None → (i : ℕ) → i < n → entry_fault k bs i ≡ None
  entries_none zero e i h = absurd (omega arith)
  entries_none (suc n) e i h =
      elim (eqb_tells i n) [
        | inl t ↦ subst (λ (x : ℕ). entry_fault k bs x ≡ None) (sym t.1) (or_right (entries_fault k bs n) (entry_fault k bs n) e)
        | inr t ↦ entries_none n (or_left (entries_fault k bs n) (entry_fault k bs n) e) i (omega (arith, t.1))
      ]

  pub none_entries : (n : ℕ) → ((i : ℕ) → i < n → entry_fault k bs i ≡ None) → entries_fault k bs n ≡ None
  none_entries zero h = refl
  none_entries (suc n) h = or_none (entries_fault k bs n) (entry_fault k bs n) (none_entries n (λ i q. h i (omega arith))) (h n (omega arith))
