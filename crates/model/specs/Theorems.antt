-- What is promised of selections, diagrams and listings.
use Rattle.std.specs.Prelude.{◌≡◌, ℕ, ◌+◌, ◌*◌, ◌^◌, ◌<◌, ◌≤◌, Bool, true, ◌↔◌, List, [], ◌∷◌, ◌++◌, map, length, drop, Some, Option, ◌≢◌}
use Rattle.model.specs.Lists.{In, Precedes, Apart, once, held, each, LineForLine}
use Rattle.model.specs.Trees.{Tree, Full, CodesBelow, matters, remains}
use Rattle.model.specs.Parts.{Part, parts, used, count, First, Before}
use Rattle.model.specs.Selections.{Selection, Setting, fix, all_low, address, pin, view, view_of, views, code_at, Agrees, Alike, Under, Unlike}
use Rattle.model.specs.Orders.{Order, place_in}
use Rattle.model.specs.Joins.{joined, strapped, join, strap}
use Rattle.model.specs.Diagrams.{Branch, Table, listed, tree, meant, Means, Ends, key, From, Ordered, Reduced, Reaches, Rival, LeastRival}
use Rattle.model.specs.Numberings.{same_branch, numbering}
use Rattle.model.specs.Layouts.{layout, listing}
use Rattle.model.specs.Listings.{bytes}

-- Selections and their trees.

-- Fix some pins. The next pin matters to what remains exactly when two of its addresses, unlike in that pin alone, have different codes.
abbrev pub PinMatters : Type 0
PinMatters =
    (n : ℕ) (fixed : List ℕ) (p : ℕ) (ps : List ℕ) → Order n (fixed ++ (p ∷ ps)) → (f : Selection) (s : Setting)
    → (matters (view n f (p ∷ ps) s) ≡ true) ↔ ((a : ℕ) × ((b : ℕ) × (Under n fixed s a × Under n fixed s b × Unlike n p a b × (f a ≢ f b))))

-- Two selections have one tree in an order exactly when they agree at every address.
abbrev pub OneTree : Type 0
OneTree = (n : ℕ) (order : List ℕ) → Order n order → (f g : Selection) → (view_of n order f ≡ view_of n order g) ↔ Agrees n f g

-- What remains of two selections is one tree exactly when they agree however the other pins are set.
abbrev pub OnePart : Type 0
OnePart =
    (n : ℕ) (f g : Selection) (ps : List ℕ) (s t : Setting)
    → (view n f ps s ≡ view n g ps t) ↔ ((vs : List Bool) → length vs ≡ length ps → f (address n (fix ps vs s)) ≡ g (address n (fix ps vs t)))

-- The tree of a selection has at each address the code of the selection.
abbrev pub TreeReads : Type 0
TreeReads = (n : ℕ) (order : List ℕ) → Order n order → (f : Selection) (a : ℕ) → a < 2 ^ n → code_at (view_of n order f) order (pin n a) ≡ f a

-- The tree of joined selections is the join of their trees.
abbrev pub Joins : Type 0
Joins = (n : ℕ) (order : List ℕ) (g : ℕ → ℕ → ℕ) (f h : Selection) → view_of n order (joined g f h) ≡ join g (view_of n order f) (view_of n order h)

-- The tree of a strapped selection is the strapped tree.
abbrev pub Straps : Type 0
Straps =
    (n : ℕ) (order : List ℕ) → Order n order → (p : ℕ) (v : Bool) (f : Selection) → p < n
    → view_of n order (strapped n p v f) ≡ strap (place_in order p) v (view_of n order f)

-- Parts.

-- The list of parts has no part twice, and exactly those that are what remains of one of the trees
-- with the first j pins fixed in some way, and in which the next pin matters.
abbrev pub PartsAre : Type 0
PartsAre =
    (n : ℕ) (ts : List Tree) → Apart (parts n 0 ts)
    × ((j : ℕ) (t : Tree)
    → In (j, t) (parts n 0 ts) ↔ ((j < n) × (matters t ≡ true) × ((u : Tree) × In u ts × ((vs : List Bool) × (length vs ≡ j) × (t ≡ remains vs u)))))

-- The same of lines of selections: what remains is the view of the rest of the order under some setting of the first j pins.
abbrev pub PartsOfSelections : Type 0
PartsOfSelections =
    (n : ℕ) (order : List ℕ) → Order n order → (lines : List (Option Selection)) (j : ℕ) (t : Tree)
    → In (j, t) (parts n 0 (held (views n order lines)))
    ↔ ((j < n) × (matters t ≡ true) × ((f : Selection) × In (Some f) lines × ((vs : List Bool) × (length vs ≡ j) × (t ≡ view n f (drop j order) (fix order vs all_low)))))

-- A selection has no parts exactly when it is constant.
abbrev pub ConstantsHaveNone : Type 0
ConstantsHaveNone =
    (n : ℕ) (order : List ℕ) → Order n order → (f : Selection)
    → (count n (view_of n order f) ≡ 0) ↔ ((a b : ℕ) → a < 2 ^ n → b < 2 ^ n → f a ≡ f b)

-- The parts are numbered by place, then by the smallest line, then by the smallest values of the fixed pins that lead there:
-- each part of the list has a first occurrence, and of two the one that stands before comes before.
abbrev pub PartsInOrder : Type 0
PartsInOrder =
    (n : ℕ) (lines : List (Option Tree)) → ((t : Tree) → In (Some t) lines → Full n t)
    → ((k : Part) → In k (parts n 0 (held lines)) → (i : ℕ) × ((vs : List Bool) × First lines k i vs))
    × ((k l : Part) → Precedes k l (parts n 0 (held lines)) → (i j : ℕ) (vs ws : List Bool) → First lines k i vs → First lines l j ws → Before k i vs l j ws)

-- Diagrams.

-- Reading a branch place by place follows its tree.
abbrev pub ReadingFollows : Type 0
ReadingFollows =
    (n : ℕ) (order : List ℕ) → length order ≡ n → (T : Table) (b : Branch) (a : ℕ) → meant n T order b a ≡ code_at (tree T n 0 b) order (pin n a)

-- In an ordered diagram an address ends, sent from node to node, at the code that is read place by place, and at no other.
abbrev pub ReadingEnds : Type 0
ReadingEnds =
    (n : ℕ) (order : List ℕ) → length order ≡ n → (T : Table) (us : List ℕ) → Ordered n T (λ i. In i us) → (b : Branch) → From (λ i. In i us) T 0 b
    → (a c : ℕ) → Ends n T order a b c ↔ (meant n T order b a ≡ c)

-- The tree of a branch is that of a selection exactly when the branch means the selection.
abbrev pub TreeMeans : Type 0
TreeMeans =
    (n : ℕ) (order : List ℕ) → Order n order → (T : Table) (b : Branch) (f : Selection) → (tree T n 0 b ≡ view_of n order f) ↔ Agrees n (meant n T order b) f

-- No rival has fewer nodes than the selection has parts.
abbrev pub NoRivalFewer : Type 0
NoRivalFewer =
    (n : ℕ) (order : List ℕ) → Order n order → (f : Selection) (T : Table) (us : List ℕ) (b : Branch) → Rival n order f T us b
    → count n (view_of n order f) ≤ length us

-- Where the nodes reached from some roots are ordered and reduced, they are exactly as many as the different parts of the roots' trees.
abbrev pub AsManyAsParts : Type 0
AsManyAsParts =
    (n : ℕ) (T : Table) (roots : List Branch) (us : List ℕ) → Reaches T roots us → Ordered n T (λ i. In i us) → Reduced T (λ i. In i us)
    → length us ≡ used n (map (tree T n 0) roots)

-- The same in selections: where the lines' roots mean the lines' selections, there are exactly as many nodes as the lines have different parts.
abbrev pub UsedIsExact : Type 0
UsedIsExact =
    (n : ℕ) (order : List ℕ) → Order n order → (T : Table) (roots : List (Option Branch)) (lines : List (Option Selection)) → LineForLine (Means n T order) roots lines
    → (us : List ℕ) → Reaches T (held roots) us → Ordered n T (λ i. In i us) → Reduced T (λ i. In i us) → length us ≡ used n (held (views n order lines))

-- There, the nodes reached from one root alone are a least diagram for the selection that it means.
abbrev pub OwnNodesLeast : Type 0
OwnNodesLeast =
    (n : ℕ) (order : List ℕ) → Order n order → (T : Table) (us : List ℕ) → Ordered n T (λ i. In i us) → Reduced T (λ i. In i us)
    → (b : Branch) → From (λ i. In i us) T 0 b → (f : Selection) → Agrees n (meant n T order b) f
    → (vs : List ℕ) → Reaches T (b ∷ []) vs → LeastRival n order f T vs b

-- There, two roots are equal exactly when their selections agree at every address.
abbrev pub OneRoot : Type 0
OneRoot =
    (n : ℕ) (order : List ℕ) → Order n order → (T : Table) (us : List ℕ) → Ordered n T (λ i. In i us) → Reduced T (λ i. In i us)
    → (b e : Branch) → From (λ i. In i us) T 0 b → From (λ i. In i us) T 0 e → (b ≡ e) ↔ Agrees n (meant n T order b) (meant n T order e)

-- Nodes, distinct, ordered and reduced, that are all parts of some trees, and one part more that is none of them: there are more parts than nodes.
abbrev pub OnePartMore : Type 0
OnePartMore =
    (n : ℕ) (T : Table) (us : List ℕ) (ts : List Tree) → Apart us → Ordered n T (λ i. In i us) → Reduced T (λ i. In i us)
    → ((i : ℕ) → In i us → In (key n T i) (parts n 0 ts)) → (k : Part) → In k (parts n 0 ts) → ((i : ℕ) → In i us → k ≢ key n T i)
    → length us < used n ts

-- The numbering lists the nodes reached from the roots of an ordered diagram, each once.
abbrev pub NumberingReaches : Type 0
NumberingReaches =
    (n : ℕ) (T : Table) (us : List ℕ) → Ordered n T (λ i. In i us) → (roots : List Branch) → ((b : Branch) → In b roots → From (λ i. In i us) T 0 b)
    → Reaches T roots (numbering T n 0 roots)

-- The numbering asks only for the first occurrences among the branches.
abbrev pub FrontThinned : Type 0
FrontThinned = (T : Table) (h d : ℕ) (bs : List Branch) → numbering T h d (once same_branch bs) ≡ numbering T h d bs

-- Listings.

-- A layout read back as a diagram gives the trees that it was laid out for, line for line.
abbrev pub LayoutReadsBack : Type 0
LayoutReadsBack =
    (n : ℕ) (lines : List (Option Tree)) → ((t : Tree) → In (Some t) lines → Full n t)
    → map (each (tree (listed (layout n lines).nodes) n 0)) (layout n lines).lines ≡ lines

-- A listing of ordered and reduced nodes under their numbering is the layout of the lines' trees.
abbrev pub ListingIsLayout : Type 0
ListingIsLayout =
    (n : ℕ) (T : Table) (us : List ℕ) → Ordered n T (λ i. In i us) → Reduced T (λ i. In i us)
    → (lines : List (Option Branch)) → ((b : Branch) → In (Some b) lines → From (λ i. In i us) T 0 b)
    → listing T n lines ≡ layout n (map (each (tree T n 0)) lines)

-- The same in selections: where the lines' roots mean the lines' selections, the listing is their layout.
abbrev pub ListingOfSelections : Type 0
ListingOfSelections =
    (n : ℕ) (order : List ℕ) → Order n order → (T : Table) (us : List ℕ) → Ordered n T (λ i. In i us) → Reduced T (λ i. In i us)
    → (roots : List (Option Branch)) → ((b : Branch) → In (Some b) roots → From (λ i. In i us) T 0 b)
    → (lines : List (Option Selection)) → LineForLine (Means n T order) roots lines → listing T n roots ≡ layout n (views n order lines)

-- Two listings in one order are equal to the byte exactly when their lines are equal, nothing only to nothing.
abbrev pub BytesTellTrees : Type 0
BytesTellTrees =
    (n : ℕ) (order : List ℕ) (lines others : List (Option Tree)) → ((t : Tree) → In (Some t) lines → Full n t) → ((t : Tree) → In (Some t) others → Full n t)
    → (bytes order (layout n lines) ≡ bytes order (layout n others)) ↔ (lines ≡ others)

-- The same of selections: line for line both are nothing, or both are selections that agree at every address.
abbrev pub BytesTellSelections : Type 0
BytesTellSelections =
    (n : ℕ) (order : List ℕ) → Order n order → (lines others : List (Option Selection))
    → (bytes order (layout n (views n order lines)) ≡ bytes order (layout n (views n order others))) ↔ LineForLine (Alike n) lines others

-- A listing of 32 lines has 104 bytes, one for each pin, and 7 for each part.
abbrev pub BytesLength : Type 0
BytesLength =
    (n : ℕ) (order : List ℕ) → length order ≡ n → (lines : List (Option Tree)) → length lines ≡ 32
    → length (bytes order (layout n lines)) ≡ 104 + n + 7 * used n (held lines)

-- Each number of a listing is a byte, where the codes and the used number are below 65,536 and there are fewer than 256 pins.
abbrev pub BytesSmall : Type 0
BytesSmall =
    (n : ℕ) (order : List ℕ) → Order n order → n < 256 → (lines : List (Option Tree)) → ((t : Tree) → In (Some t) lines → CodesBelow 65536 t)
    → used n (held lines) < 65536 → (x : ℕ) → In x (bytes order (layout n lines)) → x < 256
