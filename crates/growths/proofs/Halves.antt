-- A growth by two halves and a node.
use Rattle.std.proofs.Common.{◌≡◌, ℕ, suc, ◌+◌, ◌-◌, ◌<◌, Bool, true, false, List, Some, None, Option, sym, ap, ◌∙◌, subst, ap₂, add-one, arith}
use Rattle.model.specs.declared.Branch.{Branch}
use Rattle.model.specs.declared.Node.{Node}
use Rattle.model.specs.Lists.{In}
use Rattle.model.specs.Trees.{Tree, fork}
use Rattle.model.specs.Parts.{level}
use Rattle.model.specs.Diagrams.{Table, listed, next, From, tree}
use Rattle.model.proofs.Parts.{level_halves}
use Rattle.model.proofs.Least.{from_next}
use Rattle.model.proofs.Grow.{tree_kept, passed}
use Rattle.tables.specs.declared.adding.Growing.{Growing}
use Rattle.tables.specs.States.{Live, State, Grown, Outcome}
use Rattle.tables.specs.Additions.{Adds, AddsNode}
use Rattle.growths.specs.Growths.{JoinsTo, JoinsIn, StrapsTo, StrapsIn}
use Rattle.tables.proofs.Growing.{grown_same, grown_twice, from_weaker, from_grown}

-- what was said of a growing table, said of the pins and the nodes that it is known to have
module _ (t t' : Growing) (n : ℕ) (nodes : List Node) (pins_are : t.pins ≡ n) (nodes_are : t.nodes.now ≡ nodes) where
  told_of : (P : ℕ → List Node → Type 0) → P t.pins t.nodes.now → P n nodes
  told_of P h = subst (P n) nodes_are (subst (λ k. P k t.nodes.now) pins_are h)

  pub joins_of : (g : ℕ → ℕ → ℕ) (d : ℕ) (a b : Branch) (r : Option Branch) → JoinsIn g d a b t t' r → JoinsTo g n d a b nodes t.marks.now t.index.now t'.nodes.now t'.marks.now t'.index.now r
  joins_of g d a b r = told_of (λ k xs. JoinsTo g k d a b xs t.marks.now t.index.now t'.nodes.now t'.marks.now t'.index.now r)

  pub straps_of : (q : ℕ) (v : Bool) (d : ℕ) (b : Branch) (r : Option Branch) → StrapsIn q v d b t t' r → StrapsTo q v n d b nodes t.marks.now t.index.now t'.nodes.now t'.marks.now t'.index.now r
  straps_of q v d b r = told_of (λ k xs. StrapsTo q v k d b xs t.marks.now t.index.now t'.nodes.now t'.marks.now t'.index.now r)

  pub adds_of : (d : ℕ) (low high : Branch) (r : Option Branch) → AddsNode d low high t t' r → Adds n d low high nodes t.marks.now t.index.now t'.nodes.now t'.marks.now t'.index.now r
  adds_of d low high r = told_of (λ k xs. Adds k d low high xs t.marks.now t.index.now t'.nodes.now t'.marks.now t'.index.now r)

-- the tables stay, and a branch is there
pub stayed : (n d : ℕ) (t : Tree) (nodes : List Node) (marks index : List ℕ) (b : Branch) → State n nodes marks index → From (Live marks) (listed nodes) d b
    → tree (listed nodes) (n - d) d b ≡ t → Outcome n d t nodes marks nodes marks index (Some b)
stayed n d t nodes marks index b st f e = record { state = st; grown = grown_same nodes marks; holds = (f, e); fair = λ ts pa m. pa }

-- a tree at the next place, as the code and as the trees count places
tree_down : (T : Table) (n d : ℕ) (b : Branch) → tree T (n - (d + 1)) (d + 1) b ≡ tree T (n - suc d) (suc d) b
tree_down T n d b = ap (λ k. tree T (n - k) k b) (add-one d)

-- the halves of the tree of a branch
pub tree_halves : (T : Table) (n d : ℕ) (b : Branch) → d < n
    → tree T (n - d) d b ≡ fork (tree T (n - (d + 1)) (d + 1) (next T d false b)) (tree T (n - (d + 1)) (d + 1) (next T d true b))
tree_halves T n d b l =
    let q : n - d ≡ suc (n - suc d) = omega arith in
    ap (λ k. tree T k d b) q ∙ ap₂ fork (sym (tree_down T n d (next T d false b))) (sym (tree_down T n d (next T d true b)))

pub halves_of : (n : ℕ) (nodes : List Node) (d : ℕ) (b low high : Branch) → d < n → low ≡ next (listed nodes) d false b → high ≡ next (listed nodes) d true b
    → fork (tree (listed nodes) (n - (d + 1)) (d + 1) low) (tree (listed nodes) (n - (d + 1)) (d + 1) high) ≡ tree (listed nodes) (n - d) d b
halves_of n nodes d b low high small el eh =
    ap₂ (λ y z. fork (tree (listed nodes) (n - (d + 1)) (d + 1) y) (tree (listed nodes) (n - (d + 1)) (d + 1) z)) el eh ∙ sym (tree_halves (listed nodes) n d b small)

-- where the pin leads stands at the next place
pub from_step : (n : ℕ) (nodes : List Node) (marks index : List ℕ) (d : ℕ) (v : Bool) (b x : Branch) → State n nodes marks index → From (Live marks) (listed nodes) d b
    → x ≡ next (listed nodes) d v b → From (Live marks) (listed nodes) (d + 1) x
from_step n nodes marks index d v b x st f e =
    subst (λ k. From (Live marks) (listed nodes) k x) (sym (add-one d)) (subst (From (Live marks) (listed nodes) (suc d)) (sym e) (from_next n (listed nodes) (Live marks) st.ordered d v b f))

-- a branch means in a table that grows what it meant
pub tree_grown : (n : ℕ) (nodes : List Node) (marks index : List ℕ) (nodes' : List Node) (marks' : List ℕ) → State n nodes marks index → Grown nodes marks nodes' marks'
    → (h d : ℕ) (b : Branch) → From (Live marks) (listed nodes) d b → tree (listed nodes') h d b ≡ tree (listed nodes) h d b
tree_grown n nodes marks index nodes' marks' st g h d b f = sym (tree_kept n (listed nodes) (listed nodes') (Live marks) st.ordered (λ i l. sym (g.kept i l)) h d b f)

-- The tree t is the fork of two trees of the next place, which are grown one after the other, and then the node above them.

low_in : {t low_tree high_tree : Tree} (d : ℕ) → fork low_tree high_tree ≡ t → (ts : List Tree) → In t (level d ts) → In low_tree (level (d + 1) ts)
low_in {t} {low_tree} {high_tree} d whole ts m =
    subst (λ k. In low_tree (level k ts)) (sym (add-one d)) (level_halves d ts low_tree high_tree (subst (λ z. In z (level d ts)) (sym whole) m)).0

high_in : {t low_tree high_tree : Tree} (d : ℕ) → fork low_tree high_tree ≡ t → (ts : List Tree) → In t (level d ts) → In high_tree (level (d + 1) ts)
high_in {t} {low_tree} {high_tree} d whole ts m =
    subst (λ k. In high_tree (level k ts)) (sym (add-one d)) (level_halves d ts low_tree high_tree (subst (λ z. In z (level d ts)) (sym whole) m)).1

-- the low half was refused
pub low_refused : {n d : ℕ} {t low_tree high_tree : Tree} {nodes nodes₁ : List Node} {marks marks₁ index₁ : List ℕ} → fork low_tree high_tree ≡ t
    → Outcome n (d + 1) low_tree nodes marks nodes₁ marks₁ index₁ None → Outcome n d t nodes marks nodes₁ marks₁ index₁ None
low_refused {n} {d} whole o = record { state = o.state; grown = o.grown; holds = tt; fair = λ ts pa m. o.fair ts pa (low_in d whole ts m) }

-- both halves are one tree, so one growth is enough
pub halves_one : {n d : ℕ} {t low_tree high_tree : Tree} {nodes nodes₁ : List Node} {marks marks₁ index₁ : List ℕ} {low : Branch} → d < n → fork low_tree high_tree ≡ t → low_tree ≡ high_tree
    → Outcome n (d + 1) low_tree nodes marks nodes₁ marks₁ index₁ (Some low) → Outcome n d t nodes marks nodes₁ marks₁ index₁ (Some low)
halves_one {n} {d} {t} {low_tree} {high_tree} {nodes} {nodes₁} {marks} {marks₁} {index₁} {low} small whole e o =
    let T = listed nodes₁ in
    let f : From (Live marks₁) T (suc d) low = subst (λ k. From (Live marks₁) T k low) (add-one d) o.holds.0 in
    let q : n - d ≡ suc (n - suc d) = omega arith in
    let w : tree T (n - suc d) (suc d) low ≡ low_tree = sym (tree_down T n d low) ∙ o.holds.1 in
    record {
      state = o.state;
      grown = o.grown;
      holds = (from_weaker (Live marks₁) T d low f, ap (λ k. tree T k d low) q ∙ (passed T (Live marks₁) (n - suc d) d low f ∙ (ap₂ fork w (w ∙ e) ∙ whole)));
      fair = λ ts pa m. o.fair ts pa (low_in d whole ts m);
    }

-- the low half was grown, and the high half refused
pub high_refused : {n d : ℕ} {t low_tree high_tree : Tree} {nodes nodes₁ nodes₂ : List Node} {marks marks₁ index₁ marks₂ index₂ : List ℕ} {low : Branch} → fork low_tree high_tree ≡ t
    → Outcome n (d + 1) low_tree nodes marks nodes₁ marks₁ index₁ (Some low) → Outcome n (d + 1) high_tree nodes₁ marks₁ nodes₂ marks₂ index₂ None
    → Outcome n d t nodes marks nodes₂ marks₂ index₂ None
high_refused {n} {d} whole o₁ o₂ =
    record {
      state = o₂.state;
      grown = grown_twice o₁.grown o₂.grown;
      holds = tt;
      fair = λ ts pa m. o₂.fair ts (o₁.fair ts pa (low_in d whole ts m)) (high_in d whole ts m);
    }

-- both halves were grown, and then the node above them was asked for
pub halves_node : {n d : ℕ} {t low_tree high_tree : Tree} {nodes nodes₁ nodes₂ nodes₃ : List Node} {marks marks₁ index₁ marks₂ index₂ marks₃ index₃ : List ℕ} {low high : Branch} {r : Option Branch}
    → d < n → fork low_tree high_tree ≡ t
    → Outcome n (d + 1) low_tree nodes marks nodes₁ marks₁ index₁ (Some low) → Outcome n (d + 1) high_tree nodes₁ marks₁ nodes₂ marks₂ index₂ (Some high)
    → Adds n d low high nodes₂ marks₂ index₂ nodes₃ marks₃ index₃ r → Outcome n d t nodes marks nodes₃ marks₃ index₃ r
halves_node {n} {d} {t} {low_tree} {high_tree} {nodes} {nodes₁} {nodes₂} {nodes₃} {marks} {marks₁} {index₁} {marks₂} {index₂} {marks₃} {index₃} {low} {high} {r} small whole o₁ o₂ adds =
    let T₁ = listed nodes₁ in
    let T₂ = listed nodes₂ in
    let fl₁ : From (Live marks₁) T₁ (suc d) low = subst (λ k. From (Live marks₁) T₁ k low) (add-one d) o₁.holds.0 in
    let fl : From (Live marks₂) T₂ (suc d) low = from_grown nodes₁ marks₁ nodes₂ marks₂ o₂.grown (suc d) low fl₁ in
    let fh : From (Live marks₂) T₂ (suc d) high = subst (λ k. From (Live marks₂) T₂ k high) (add-one d) o₂.holds.0 in
    let tl : tree T₂ (n - suc d) (suc d) low ≡ low_tree =
    tree_grown n nodes₁ marks₁ index₁ nodes₂ marks₂ o₁.state o₂.grown (n - suc d) (suc d) low fl₁ ∙ (sym (tree_down T₁ n d low) ∙ o₁.holds.1) in
    let th : tree T₂ (n - suc d) (suc d) high ≡ high_tree = sym (tree_down T₂ n d high) ∙ o₂.holds.1 in
    let o : Outcome n d t nodes₂ marks₂ nodes₃ marks₃ index₃ r =
    subst (λ z. Outcome n d z nodes₂ marks₂ nodes₃ marks₃ index₃ r) (ap₂ fork tl th ∙ whole) (adds o₂.state small fl fh) in
    record {
      state = o.state;
      grown = grown_twice o₁.grown (grown_twice o₂.grown o.grown);
      holds = o.holds;
      fair = λ ts pa m. o.fair ts (o₂.fair ts (o₁.fair ts pa (low_in d whole ts m)) (high_in d whole ts m)) m;
    }
