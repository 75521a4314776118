-- The first word of a text, and the words behind it.
use Rattle.std.proofs.Common.{◌≡◌, ℕ, suc, ◌≤◌, Bool, true, false, cond, not, ◌||◌, ◌==◌, List, [], ◌∷◌, length, take, drop, Some, None, ◌⊎◌, sym, refl, ap, one-add, ltb, ltb-false, ◌∙◌, subst, inl, inr, arith}
use Rattle.std.specs.List.{position, position_or_len}
use Rattle.std.specs.Option.{unwrap_or}
use Rattle.std.proofs.lemmas.List.{drop_all}
use Rattle.std.proofs.lemmas.List.Sums.{prefix_len-le-length}
use Rattle.scripts.specs.Words.{is_blank, is_end, is_apart, lengthen, words}

or_left : (a b : Bool) → (a || b) ≡ false → a ≡ false
or_left true b e = e
or_left false b e = refl

or_right : (a b : Bool) → (a || b) ≡ false → b ≡ false
or_right true b e = let z : ◌≡◌ {A = ℕ} 0 1 = cc in absurd (omega arith)
or_right false b e = e

or_none : (a b : Bool) → a ≡ false → b ≡ false → (a || b) ≡ false
or_none true b e f = e
or_none false b e f = f

pub or_some : (a b : Bool) → b ≡ true → (a || b) ≡ true
or_some true b e = refl
or_some false b e = e

no_blank : (c : ℕ) → is_end c ≡ false → is_blank c ≡ false
unfolding is_end
no_blank c e = or_left (is_blank c) (c == 35) e

no_mark : (c : ℕ) → is_end c ≡ false → (c == 35) ≡ false
unfolding is_end
no_mark c e = or_right (is_blank c) (c == 35) e

goes_on : (c : ℕ) → is_blank c ≡ false → (c == 35) ≡ false → is_end c ≡ false
unfolding is_end
goes_on c b e = or_none (is_blank c) (c == 35) b e

stops : (c : ℕ) → (c == 35) ≡ true → is_end c ≡ true
unfolding is_end
stops c e = or_some (is_blank c) (c == 35) e

-- how many blanks stand at the front, and how many letters of a word
abbrev pub blanks : List ℕ → ℕ
blanks text = position_or_len (λ c. not (is_blank c)) text

abbrev pub letters : List ℕ → ℕ
letters text = position_or_len is_end text

-- what a letter does to the words behind it
blank_first : (c : ℕ) (text : List ℕ) → is_blank c ≡ true → words (c ∷ text) ≡ words text
unfolding words
blank_first c text e = simp e refl

mark_first : (c : ℕ) (text : List ℕ) → is_blank c ≡ false → (c == 35) ≡ true → words (c ∷ text) ≡ []
unfolding words
mark_first c text b e = simp (b, e) refl

last_letter : (c : ℕ) (text : List ℕ) → is_end c ≡ false → is_apart text ≡ true → words (c ∷ text) ≡ (c ∷ []) ∷ words text
unfolding words
last_letter c text e a = let b = no_blank c e in let m = no_mark c e in simp (b, m, a) refl

letter_first : (c : ℕ) (text : List ℕ) → is_end c ≡ false → is_apart text ≡ false → words (c ∷ text) ≡ lengthen c (words text)
unfolding words
letter_first c text e a = let b = no_blank c e in let m = no_mark c e in simp (b, m, a) refl

-- a letter, and what stands behind it
one_word_by : (c d : ℕ) (text : List ℕ) → is_end c ≡ false → (is_end d ≡ false → words (d ∷ text) ≡ (d ∷ take (letters text) text) ∷ words (drop (letters text) text))
    → (b : Bool) → is_end d ≡ b → words (c ∷ d ∷ text) ≡ (c ∷ take (letters (d ∷ text)) (d ∷ text)) ∷ words (drop (letters (d ∷ text)) (d ∷ text))
one_word_by c d text e more true f = simp f (last_letter c (d ∷ text) e f)
one_word_by c d text e more false f = simp (f, one-add) (letter_first c (d ∷ text) e f ∙ ap (lengthen c) (more f))

one_word : (c : ℕ) (text : List ℕ) → is_end c ≡ false → words (c ∷ text) ≡ (c ∷ take (letters text) text) ∷ words (drop (letters text) text)
one_word c [] e = last_letter c [] e refl
one_word c (d ∷ text) e = one_word_by c d text e (one_word d text) (is_end d) refl

-- the text from its first letter that is no blank
abbrev pub trimmed : List ℕ → List ℕ
trimmed text = drop (blanks text) text

trimmed_by : (c : ℕ) (text : List ℕ) → words text ≡ words (trimmed text) → (b : Bool) → is_blank c ≡ b → words (c ∷ text) ≡ words (trimmed (c ∷ text))
trimmed_by c text more true f = simp (f, one-add) (blank_first c text f ∙ more)
trimmed_by c text more false f = simp f refl

trimmed_words : (text : List ℕ) → words text ≡ words (trimmed text)
trimmed_words [] = refl
trimmed_words (c ∷ text) = trimmed_by c text (trimmed_words text) (is_blank c) refl

-- nothing, or a letter that is no blank, and what stands behind it
abbrev Begins : List ℕ → Type 0
Begins rest = (rest ≡ []) ⊎ ((c : ℕ) × (text : List ℕ) × (rest ≡ c ∷ text) × (is_blank c ≡ false))

begins_by : (c : ℕ) (text : List ℕ) → Begins (trimmed text) → (b : Bool) → is_blank c ≡ b → Begins (trimmed (c ∷ text))
begins_by c text more true f = simp (f, one-add) more
begins_by c text more false f = simp f (inr (c, text, refl, f))

begins : (text : List ℕ) → Begins (trimmed text)
begins [] = inl refl
begins (c ∷ text) = begins_by c text (begins text) (is_blank c) refl

-- what a place says of the first letters
some_at : (b : Bool) (n i : ℕ) → cond b (Some n) None ≡ Some i → (b ≡ true) × (n ≡ i)
some_at true n i e = (refl, cc)
some_at false n i e = let z : ◌≡◌ {A = ℕ} 0 1 = cc in absurd (omega arith)

none_at : (b : Bool) (n : ℕ) → cond b (Some n) None ≡ None → b ≡ false
none_at true n e = let z : ◌≡◌ {A = ℕ} 0 1 = cc in absurd (omega arith)
none_at false n e = refl

is_mark : (c : ℕ) → is_blank c ≡ false → is_end c ≡ true → (c == 35) ≡ true
unfolding is_end
is_mark c b e = or_other (is_blank c) (c == 35) b e
  where
    or_other : (a b : Bool) → a ≡ false → (a || b) ≡ true → b ≡ true
    or_other true b e f = let z : ◌≡◌ {A = ℕ} 0 1 = cc in absurd (omega arith)
    or_other false b e f = f

-- a text that begins with no blank: nothing counts of it where a word ends at once, and else its letters are the first word
record Split (rest : List ℕ) : Type 0 where
  nothing : letters rest ≡ 0 → words rest ≡ []
  something : (letters rest ≡ 0 → ⊥) → words rest ≡ take (letters rest) rest ∷ words (drop (letters rest) rest)

split_by : (c : ℕ) (text : List ℕ) → is_blank c ≡ false → (b : Bool) → is_end c ≡ b → Split (c ∷ text)
split_by c text k true f = record { nothing = λ _. mark_first c text k (is_mark c k f); something = λ ne. absurd (ne (simp f refl)) }
split_by c text k false f = record { nothing = λ e. (let z : suc (letters text) ≡ 0 = sym (simp (f, one-add) refl) ∙ e in absurd (omega arith)); something = λ _. simp (f, one-add) (one_word c text f) }

split_rest : (rest : List ℕ) → Begins rest → Split rest
unfolding words
split_rest rest (inl e) = subst Split (sym e) (record { nothing = λ _. refl; something = λ ne. absurd (ne refl) })
split_rest rest (inr o) = subst Split (sym o.2) (split_by o.0 o.1 o.3 (is_end o.0) refl)

pub no_word : (text : List ℕ) → position (λ c. not (is_blank c)) text ≡ None → words text ≡ []
unfolding words
no_word text e =
    let n = none_at (ltb (blanks text) (length text)) (blanks text) e in
    trimmed_words text ∙ ap words (drop_all (blanks text) text (omega (arith, ltb-false (blanks text) (length text) n)))

or_length : (b : Bool) (n m : ℕ) → ltb n m ≡ b → n ≤ m → unwrap_or (cond b (Some n) None) m ≡ n
or_length true n m e h = refl
or_length false n m e h = let g = ltb-false n m e in omega arith

first_end : (rest : List ℕ) → unwrap_or (position is_end rest) (length rest) ≡ letters rest
first_end rest = or_length (ltb (letters rest) (length rest)) (letters rest) (length rest) refl (prefix_len-le-length (λ c. not (is_end c)) rest)

module _ (text rest : List ℕ) (i : ℕ) (p : position (λ c. not (is_blank c)) text ≡ Some i) (r : rest ≡ drop i text) where
  same : rest ≡ trimmed text
  same = r ∙ ap (λ k. drop k text) (sym (some_at (ltb (blanks text) (length text)) (blanks text) i p).1)

  split : Split rest
  split = subst Split (sym same) (split_rest (trimmed text) (begins text))

  same_words : words text ≡ words rest
  same_words = trimmed_words text ∙ ap words (sym same)

  pub word_ends : unwrap_or (position is_end rest) (length rest) ≡ 0 → words text ≡ []
  word_ends e = same_words ∙ split.nothing (sym (first_end rest) ∙ e)

  pub word_stands : (k : ℕ) → k ≡ unwrap_or (position is_end rest) (length rest) → (k ≡ 0 → ⊥) → (front back : List ℕ) → front ≡ take k rest → back ≡ drop k rest → words text ≡ front ∷ words back
  word_stands k e ne front back f b =
      let n = e ∙ first_end rest in
      same_words ∙ split.something (λ z. ne (n ∙ z)) ∙ ap (λ j. take j rest ∷ words (drop j rest)) (sym n) ∙ (rw (f, b) refl)
