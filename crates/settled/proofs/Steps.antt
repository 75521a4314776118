-- What a call told, where the plain plan and the lengths of the tables are known.
use Rattle.std.proofs.Common.{◌≡◌, ℕ, List, [], ◌∷◌, length, Some, None, Ok, Err, Option, Result, sym, refl, ap, ◌∙◌, subst, arith}
use Rattle.faults.specs.declared.fault.Fault.{Fault}
use Rattle.model.specs.declared.Node.{Node}
use Rattle.model.specs.Selections.{Selection}
use Rattle.plans.specs.declared.header.Header.{Header}
use Rattle.plans.specs.Plain.{Plain, Call, draw, line, told, read_told, code_of, count_told, count_line}
use Rattle.plans.specs.Holding.{Holds, Did, Reads, Counts, ToldValue}
use Rattle.plans.specs.Results.{refusal}
use Rattle.settled.specs.Readings.{ReadsEach}

-- nothing is not something
pub never : (t : Option Fault) (f : Fault) → t ≡ None → t ≡ Some f → ⊥
never t f e q = let z : ◌≡◌ {A = ℕ} 0 1 = cc in omega arith

-- a call that the plain plan does not refuse is not refused
pub never_refused : (h : Header) (nodes : List Node) (p : Plain) (c : Call) (f : Fault) (h' : Header) (nodes' : List Node) → Holds h nodes p → told p c ≡ None → Did h nodes c (Err f) h' nodes' → ⊥
never_refused h nodes p c f h' nodes' o e d = never (told p c) f e (sym (d.tells p o))

-- a call on tables of known lengths
pub at_lengths : (c : ℕ → ℕ → Call) (a' w' : ℕ) (h : Header) (nodes : List Node) (r : Result (Unit {0}) Fault) (h' : Header) (nodes' : List Node) (a w : ℕ) → a ≡ a' → w ≡ w' → Did h nodes (c a w) r h' nodes' → Did h nodes (c a' w') r h' nodes'
at_lengths c a' w' h nodes r h' nodes' a w e q d =
    subst (λ (y : ℕ). Did h nodes (c a' y) r h' nodes') q (subst (λ (x : ℕ). Did h nodes (c x w) r h' nodes') e d)

-- a draw on tables of known lengths
pub draw_at_lengths : (n : ℕ) (f : Selection) (h : Header) (nodes : List Node) (r : Result (Unit {0}) Fault) (h' : Header) (nodes' : List Node) (a t w : ℕ) → a ≡ 3 → t ≡ 3 → w ≡ 60 → Did h nodes (draw 0 n f a t w) r h' nodes' → Did h nodes (draw 0 n f 3 3 60) r h' nodes'
draw_at_lengths n f h nodes r h' nodes' a t w e p q d =
    subst (λ (x : ℕ). Did h nodes (draw 0 n f 3 x 60) r h' nodes') p (at_lengths (λ x y. draw 0 n f x t y) 3 60 h nodes r h' nodes' a w e q d)

pub went : (r : Result (Unit {0}) Fault) → refusal r ≡ None → r ≡ Ok tt
went (Ok tt) e = refl
went (Err f) e = absurd (never (Some f) f e refl)

pub was_refused : (r : Result (Unit {0}) Fault) (f : Fault) → refusal r ≡ Some f → r ≡ Err f
was_refused (Ok u) f e = absurd (never None f refl e)
was_refused (Err g) f e = cc

value_is : (r : Result ℕ Fault) (t : Option Fault) (v : ℕ) → t ≡ None → ToldValue r t (λ x. x ≡ v) → r ≡ Ok v
value_is (Ok x) t v e k = ap Ok k.1
value_is (Err f) t v e k = absurd (never t f e k)

-- four addresses of a line can be read
pub record Readable (p : Plain) (d k : ℕ) : Type 0 where
  pub at_0 : read_told p d 0 k ≡ None
  pub at_1 : read_told p d 1 k ≡ None
  pub at_2 : read_told p d 2 k ≡ None
  pub at_3 : read_told p d 3 k ≡ None

abbrev pub codes_of : Plain → ℕ → List (Result ℕ Fault)
codes_of p d = Ok (code_of (line p d) 0) ∷ Ok (code_of (line p d) 1) ∷ Ok (code_of (line p d) 2) ∷ Ok (code_of (line p d) 3) ∷ []

module _ (h : Header) (nodes : List Node) (p : Plain) (d k : ℕ) (o : Holds h nodes p) (l : length nodes ≡ k) where
  read_is : (a : ℕ) (r : Result ℕ Fault) → read_told p d a k ≡ None → Reads h nodes d a r → r ≡ Ok (code_of (line p d) a)
  read_is a r e reads = value_is r _ _ (ap (read_told p d a) l ∙ e) (reads.tells p o)

  four_read : (r₀ r₁ r₂ r₃ : Result ℕ Fault) → Readable p d k → ReadsEach h nodes d (r₀ ∷ r₁ ∷ r₂ ∷ r₃ ∷ []) → r₀ ∷ r₁ ∷ r₂ ∷ r₃ ∷ [] ≡ codes_of p d
  four_read r₀ r₁ r₂ r₃ readable reads =
      let e₀ = read_is 0 r₀ readable.at_0 (reads.1 r₀ 0 (omega arith)) in
      let e₁ = read_is 1 r₁ readable.at_1 (reads.1 r₀ 1 (omega arith)) in
      let e₂ = read_is 2 r₂ readable.at_2 (reads.1 r₀ 2 (omega arith)) in
      let e₃ = read_is 3 r₃ readable.at_3 (reads.1 r₀ 3 (omega arith)) in
      rw (e₀, e₁, e₂, e₃) refl

  pub each_read : (r : List (Result ℕ Fault)) → Readable p d k → ReadsEach h nodes d r → r ≡ codes_of p d
  each_read [] readable reads = absurd (let l = reads.0 in omega arith)
  each_read (r₀ ∷ []) readable reads = absurd (let l = reads.0 in omega arith)
  each_read (r₀ ∷ r₁ ∷ []) readable reads = absurd (let l = reads.0 in omega arith)
  each_read (r₀ ∷ r₁ ∷ r₂ ∷ []) readable reads = absurd (let l = reads.0 in omega arith)
  each_read (r₀ ∷ r₁ ∷ r₂ ∷ r₃ ∷ []) readable reads = four_read r₀ r₁ r₂ r₃ readable reads
  each_read (r₀ ∷ r₁ ∷ r₂ ∷ r₃ ∷ r₄ ∷ r) readable reads = absurd (let l = reads.0 in omega arith)

module _ (h : Header) (nodes : List Node) (p : Plain) (d k m w : ℕ) where
  pub count_told_is : (r : Result ℕ Fault) → Holds h nodes p → length nodes ≡ k → w ≡ m → count_told p d k m ≡ None → Counts h nodes d w r → r ≡ Ok (count_line p d)
  count_told_is r o l q e counts = value_is r _ _ (ap (λ x. count_told p d x w) l ∙ ap (count_told p d k) q ∙ e) (counts.tells p o)

  pub count_goes : (f : Fault) → Holds h nodes p → length nodes ≡ k → w ≡ m → count_told p d k m ≡ None → Counts h nodes d w (Err f) → ⊥
  count_goes f o l q e counts = never _ f (ap (λ x. count_told p d x w) l ∙ ap (count_told p d k) q ∙ e) (counts.tells p o)

  pub count_is : (v : ℕ) → Holds h nodes p → length nodes ≡ k → w ≡ m → count_told p d k m ≡ None → Counts h nodes d w (Ok v) → v ≡ count_line p d
  count_is v o l q e counts = (counts.tells p o).1
