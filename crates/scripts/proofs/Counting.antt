-- One digit more.
use Rattle.std.proofs.Common.{◌≡◌, ℕ, ◌+◌, ◌*◌, ◌<◌, ◌≤◌, Bool, true, false, List, ◌∷◌, length, drop, get_or, nat_lt, Ok, Err, Result, Option, Some, None, if◌then◌else◌, sym, refl, ap, ◌∙◌, leb, le-leb, leb-true, arith, drop-cons, add-one}
use Rattle.std.proofs.lemmas.List.{drop_all}
use Rattle.std.specs.Char.{digit_value}
use Rattle.std.specs.Option.{SomeIff, ok_or}
use Rattle.scripts.specs.declared.mistake.Mistake.{Mistake}
use Rattle.scripts.specs.declared.mistake.Mistake.TheVariants.{NotANumber, TooLarge}
use Rattle.scripts.specs.Numbers.{value}

-- what a letter is, by whether it gave a digit
pub as_none : {P : Type 0} (o : Option ℕ) (v : ℕ) (m : Mistake) → SomeIff o P v → ok_or o NotANumber ≡ Err m → (NotANumber ≡ m) × (P → ⊥)
as_none None v m h e = (cc, h)
as_none (Some d) v m h e = let z : ◌≡◌ {A = ℕ} 0 1 = cc in absurd (omega arith)

pub as_some : {P : Type 0} (o : Option ℕ) (v d : ℕ) → SomeIff o P v → ok_or o NotANumber ≡ Ok d → P × (d ≡ v)
as_some None v d h e = let z : ◌≡◌ {A = ℕ} 0 1 = cc in absurd (omega arith)
as_some (Some n) v d h e = let q : n ≡ d = cc in (h.0, sym q ∙ h.1)

-- what a digit of this value makes of a number
abbrev pub grown : (most n : ℕ) → Result ℕ Mistake
grown most n = if nat_lt most n then Err TooLarge else Ok n

module _ (base most n : ℕ) (ds : List ℕ) (i c : ℕ) (is : c ≡ get_or ds i 0) (within : i < length ds) where
  front : drop i ds ≡ c ∷ drop (i + 1) ds
  front = rw (add-one, is, drop-cons ds i 0) refl

  pub no_digit : (digit_value c < base → ⊥) → Err NotANumber ≡ value base most n (drop i ds)
  unfolding value
  no_digit h = let e : leb base (digit_value c) ≡ true = le-leb _ _ (omega (arith, h)) in rw front (simp e refl)

  module _ (d : ℕ) (digit : d ≡ digit_value c) (below : digit_value c < base) where
    not_above : leb base (digit_value c) ≡ false
    not_above = none_above (leb base (digit_value c)) refl
      where
        none_above : (b : Bool) → leb base (digit_value c) ≡ b → leb base (digit_value c) ≡ false
        none_above true e = let h = leb-true base (digit_value c) e in absurd (omega arith)
        none_above false e = e

    refused_by : (b : Bool) (m : Mistake) → nat_lt most (n * base + digit_value c) ≡ b → (if b then Err TooLarge else Ok (n * base + digit_value c)) ≡ Err m → value base most n (drop i ds) ≡ Err m
    unfolding value
    refused_by true m t e = rw front (simp (not_above, t) e)
    refused_by false m t e = let z : ◌≡◌ {A = ℕ} 0 1 = cc in absurd (omega arith)

    pub refused : (m : Mistake) → grown most (n * base + d) ≡ Err m → value base most n (drop i ds) ≡ Err m
    refused m e = refused_by (nat_lt most (n * base + digit_value c)) m refl (ap (λ x. grown most (n * base + x)) (sym digit) ∙ e)

    more_by : (b : Bool) (k : ℕ) → nat_lt most (n * base + digit_value c) ≡ b → (if b then Err TooLarge else Ok (n * base + digit_value c)) ≡ Ok k → value base most n (drop i ds) ≡ value base most k (drop (i + 1) ds)
    unfolding value
    more_by true k t e = let z : ◌≡◌ {A = ℕ} 0 1 = cc in absurd (omega arith)
    more_by false k t e = let q : n * base + digit_value c ≡ k = cc in rw front (simp (not_above, t) (ap (λ x. value base most x (drop (i + 1) ds)) q))

    pub more : (k : ℕ) → grown most (n * base + d) ≡ Ok k → value base most n (drop i ds) ≡ value base most k (drop (i + 1) ds)
    more k e = more_by (nat_lt most (n * base + digit_value c)) k refl (ap (λ x. grown most (n * base + x)) (sym digit) ∙ e)

pub none_left : (base most n : ℕ) (ds : List ℕ) (i : ℕ) → length ds ≤ i → Ok n ≡ value base most n (drop i ds)
unfolding value
none_left base most n ds i h = rw (drop_all i ds h) refl
