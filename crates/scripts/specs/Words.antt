-- The words of a line: blanks part them, and from a # on nothing counts.
use Rattle.std.specs.Prelude.{ℕ, Bool, true, List, [], ◌∷◌, ◌||◌, ◌==◌, if◌then◌else◌}

abbrev pub Word : Type 0
Word = List ℕ

-- a space, a tab or a carriage return
unfoldable pub is_blank : ℕ → Bool
is_blank c = c == 32 || c == 9 || c == 13

-- a word ends before it
unfoldable pub is_end : ℕ → Bool
is_end c = is_blank c || c == 35

-- no letter of a word stands at the front
abbrev pub is_apart : List ℕ → Bool
is_apart [] = true
is_apart (c ∷ text) = is_end c

-- a letter put on the first word
abbrev pub lengthen : ℕ → List Word → List Word
lengthen c [] = (c ∷ []) ∷ []
lengthen c (w ∷ ws) = (c ∷ w) ∷ ws

unfoldable pub words : List ℕ → List Word
words [] = []
words (c ∷ text) =
    if is_blank c then words text
    else (if c == 35 then []
    else (if is_apart text then (c ∷ []) ∷ words text
    else lengthen c (words text)))
