-- Parts, the used number and the count, and the order in which parts are numbered.
use Rattle.std.specs.Prelude.{◌≡◌, ℕ, zero, suc, ◌+◌, ◌*◌, ◌<◌, Bool, ◌⊎◌, List, [], ◌∷◌, ◌++◌, map, length, Some, Option}
use Rattle.model.specs.Lists.{At, keep, once}
use Rattle.model.specs.Trees.{Tree, leaf, fork, same, matters, remains}
use Rattle.model.specs.Selections.{bit}

-- A part: the number of pins that are fixed, and what remains, where the next pin still matters.
-- What remains of two lines, or in two ways, is one part where the same number of pins is fixed and the trees are equal.
abbrev pub Part : Type 0
Part = ℕ × Tree

-- what is left when one more pin is fixed: low, then high, of each tree
abbrev pub halves : List Tree → List Tree
halves [] = []
halves (leaf c ∷ ts) = halves ts
halves (fork l r ∷ ts) = l ∷ (r ∷ halves ts)

-- what is left when j more pins are fixed in every way
abbrev pub level : ℕ → List Tree → List Tree
level zero ts = ts
level (suc j) ts = level j (halves ts)

-- the different parts of trees that ask h pins, d pins being fixed: by place, then tree by tree, then from low to high
abbrev pub parts : ℕ → ℕ → List Tree → List Part
parts zero d ts = []
parts (suc h) d ts = map (λ t. (d, t)) (once same (keep matters ts)) ++ parts h (suc d) (halves ts)

-- Used: the number of different parts of all trees of n pins.
abbrev pub used : ℕ → List Tree → ℕ
used n ts = length (parts n 0 ts)

-- Count: that of one tree. A constant has 0.
abbrev pub count : ℕ → Tree → ℕ
count n t = used n (t ∷ [])

-- the number that values of pins make behind a, the first pin highest
abbrev pub number : ℕ → List Bool → ℕ
number a [] = a
number a (v ∷ vs) = number (2 * a + bit v) vs

-- the part k is what remains of line i with the first pins fixed as vs
pub record Occurs (lines : List (Option Tree)) (k : Part) (i : ℕ) (vs : List Bool) : Type 0 where
  pub whole : Tree
  pub line : At i (Some whole) lines
  pub fixed : length vs ≡ k.0
  pub left : remains vs whole ≡ k.1

-- a smaller line, or the same line and smaller values of the fixed pins, the first pin highest
abbrev pub Sooner : ℕ → List Bool → ℕ → List Bool → Type 0
Sooner i vs j ws = (i < j) ⊎ ((i ≡ j) × (number 0 vs < number 0 ws))

-- the first of all occurrences of a part
pub record First (lines : List (Option Tree)) (k : Part) (i : ℕ) (vs : List Bool) : Type 0 where
  pub occurs : Occurs lines k i vs
  pub least : (j : ℕ) (ws : List Bool) → Occurs lines k j ws → Sooner j ws i vs → ⊥

-- two parts stand in the order of a listing: by place, then by their first occurrences
abbrev pub Before : Part → ℕ → List Bool → Part → ℕ → List Bool → Type 0
Before k i vs l j ws = (k.0 < l.0) ⊎ ((k.0 ≡ l.0) × Sooner i vs j ws)
