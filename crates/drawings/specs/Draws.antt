-- What growing from a tree comes to.
use Rattle.std.specs.Prelude.{◌≡◌, ℕ, ◌≤◌, List, length, drop, Option}
use Rattle.model.specs.declared.Branch.{Branch}
use Rattle.model.specs.declared.Node.{Node}
use Rattle.model.specs.Orders.{Order}
use Rattle.model.specs.Selections.{Selection, Setting, view, view_of}
use Rattle.growths.specs.Growths.{Grows}
use Rattle.tables.specs.States.{State, Outcome}
use Rattle.trees.specs.declared.tree.Record.{Record}
use Rattle.trees.specs.declared.tree.Tree.{Tree}
use Rattle.trees.specs.Records.{Built}
use Rattle.tables.specs.declared.adding.Growing.{Growing}
use Rattle.drawings.specs.declared.drawing.FixedPins.{FixedPins}
use Rattle.drawings.specs.Fixed.{Fixed}

-- growing what remains of a selection, whose tree was built, with the first d pins of the order fixed
abbrev pub Draws : Tree → List Record → List ℕ → (d mask value : ℕ) → List Node → List ℕ → List ℕ → List Node → List ℕ → List ℕ → Option Branch → Type 0
Draws tree records order d mask value nodes marks index nodes' marks' index' r =
    (f : Selection) (s : Setting) → Built tree.pins f records tree → length order ≡ tree.pins → Order tree.pins order → State tree.pins nodes marks index → d ≤ tree.pins
    → Fixed tree.pins mask value (drop d order) s → Outcome tree.pins d (view tree.pins f (drop d order) s) nodes marks nodes' marks' index' r

-- the same in a growing table with the tree's pins
abbrev pub DrawsIn : Tree → List Record → List ℕ → FixedPins → Growing → Growing → Option Branch → Type 0
DrawsIn tree records order k t t' r =
    t.pins ≡ tree.pins → Draws tree records order k.place k.bits.mask k.bits.value t.nodes.now t.marks.now t.index.now t'.nodes.now t'.marks.now t'.index.now r

-- growing a root for a selection whose tree was built, beside lines
abbrev pub DrawsRoot : Tree → List Record → List ℕ → List Node → List ℕ → ℕ → List (Option Branch) → List Node → Option Branch → Type 0
DrawsRoot tree records order nodes work n lines nodes' r =
    (f : Selection) → Built n f records tree → length order ≡ n → Order n order → Grows n nodes work lines (view_of n order f) nodes' r
