-- Selections, settings of the pins, and the view of a selection in an order.
use Rattle.std.specs.Prelude.{◌≡◌, ℕ, zero, suc, ◌+◌, ◌-◌, ◌*◌, ◌/◌, ◌%◌, ◌^◌, ◌<◌, Bool, true, false, cond, List, [], ◌∷◌, map, Some, None, Option, ◌==◌, ◌≢◌}
use Rattle.model.specs.Lists.{In, each}
use Rattle.model.specs.Trees.{Tree, leaf, fork}

-- a selection of n pins gives every address below 2 ^ n a code
abbrev pub Selection : Type 0
Selection = ℕ → ℕ

-- a setting says which pins are high
abbrev pub Setting : Type 0
Setting = ℕ → Bool

abbrev pub all_low : Setting
all_low p = false

-- the setting with pin p put low or high
abbrev pub put : Setting → ℕ → Bool → Setting
put s p v q = cond (q == p) v (s q)

-- the setting with the first pins of the list put as vs
abbrev pub fix : List ℕ → List Bool → Setting → Setting
fix [] vs s = s
fix (p ∷ ps) [] s = s
fix (p ∷ ps) (v ∷ vs) s = fix ps vs (put s p v)

abbrev pub bit : Bool → ℕ
bit false = 0
bit true = 1

-- the address of a setting of n pins: pin 0 is the top bit
abbrev pub address : ℕ → Setting → ℕ
address zero s = 0
address (suc n) s = 2 * address n s + bit (s n)

-- the setting of an address of n pins
abbrev pub pin : ℕ → ℕ → Setting
pin n a p = (a / 2 ^ (n - suc p)) % 2 == 1

-- the tree of what remains of a selection under a setting: each pin of the list low, then high
abbrev pub view : ℕ → Selection → List ℕ → Setting → Tree
view n f [] s = leaf (f (address n s))
view n f (p ∷ ps) s = fork (view n f ps (put s p false)) (view n f ps (put s p true))

-- the tree of a selection in an order
abbrev pub view_of : ℕ → List ℕ → Selection → Tree
view_of n order f = view n f order all_low

-- lines of selections as lines of trees
abbrev pub views : ℕ → List ℕ → List (Option Selection) → List (Option Tree)
views n order lines = map (each (view_of n order)) lines

-- the code to which a setting leads through a tree of these pins
abbrev pub code_at : Tree → List ℕ → Setting → ℕ
code_at (leaf c) ps x = c
code_at (fork l r) [] x = 0
code_at (fork l r) (p ∷ ps) x = cond (x p) (code_at r ps x) (code_at l ps x)

-- two selections of n pins agree at every address
abbrev pub Agrees : ℕ → Selection → Selection → Type 0
Agrees n f g = (a : ℕ) → a < 2 ^ n → f a ≡ g a

-- two lines are both nothing, or both selections that agree at every address
abbrev pub Alike : ℕ → Option Selection → Option Selection → Type 0
Alike n None None = Unit {0}
Alike n None (Some g) = ⊥
Alike n (Some f) None = ⊥
Alike n (Some f) (Some g) = Agrees n f g

-- an address of n pins in which the pins of the list stand as in the setting
pub record Under (n : ℕ) (fixed : List ℕ) (s : Setting) (a : ℕ) : Type 0 where
  pub small : a < 2 ^ n
  pub stands : (q : ℕ) → In q fixed → pin n a q ≡ s q

-- two addresses are unlike in pin p alone
pub record Unlike (n p a b : ℕ) : Type 0 where
  pub low : pin n a p ≡ false
  pub high : pin n b p ≡ true
  pub alone : (q : ℕ) → q < n → (q ≢ p) → pin n a q ≡ pin n b q
