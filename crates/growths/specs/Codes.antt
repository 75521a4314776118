-- Codes of a kind, on trees.
use Rattle.std.specs.Prelude.{◌≡◌, ℕ, ◌^◌, ◌<◌, Bool, true, ◌&&◌, ◌↔◌, List, length, is_some, Some, None, Option}
use Rattle.model.specs.declared.Branch.{Branch}
use Rattle.model.specs.declared.Branch.TheVariants.{End as end, Node as node}
use Rattle.model.specs.declared.Node.{Node}
use Rattle.model.specs.Lists.{In}
use Rattle.model.specs.Trees.{Tree, leaf, fork}
use Rattle.model.specs.Selections.{Selection, view_of}
use Rattle.model.specs.Orders.{Order}
use Rattle.model.specs.Diagrams.{listed, tree, From}
use Rattle.ends.specs.Codes.{joined_code}
use Rattle.tables.specs.Markings.{Diagram}

abbrev pub or_zero : Option ℕ → ℕ
or_zero None = 0
or_zero (Some c) = c

-- the code that a joining gives two codes: that of the joined ends where both decode, and else 0
abbrev pub code_join : {E : Type 0} → (ℕ → Option E) → (E → ℕ) → (E → E → E) → ℕ → ℕ → ℕ
code_join decoded code joined x y = or_zero (joined_code decoded code joined x y)

-- whether a code decodes
abbrev pub decodes : {E : Type 0} → (ℕ → Option E) → ℕ → Bool
decodes decoded x = is_some (decoded x)

-- whether every code of the tree passes
abbrev pub all_codes : (ℕ → Bool) → Tree → Bool
all_codes p (leaf c) = p c
all_codes p (fork l r) = all_codes p l && all_codes p r

-- whether the code of an end passes; a node has none
abbrev pub end_passes : (ℕ → Bool) → Branch → Bool
end_passes p (end c) = p c
end_passes p (node i) = true

-- whether the codes of a node's ends pass
abbrev pub node_passes : (ℕ → Bool) → Node → Bool
node_passes p k = end_passes p k.low && end_passes p k.high

-- whether every code of a root's tree passes, where the root stands in some reduced diagram of the table
abbrev pub Passes : (ℕ → Bool) → ℕ → List Node → List ℕ → Branch → Bool → Type 0
Passes p n nodes marks root r =
    (us : List ℕ) → Diagram n nodes us → length marks ≡ length nodes → From (λ i. In i us) (listed nodes) 0 root → r ≡ all_codes p (tree (listed nodes) n 0 root)

-- Every code of a selection's tree passes exactly when the code at every address passes.
abbrev pub EveryAddressPasses : Type 0
EveryAddressPasses =
    (n : ℕ) (order : List ℕ) → Order n order → (p : ℕ → Bool) (f : Selection)
    → (all_codes p (view_of n order f) ≡ true) ↔ ((a : ℕ) → a < 2 ^ n → p (f a) ≡ true)
