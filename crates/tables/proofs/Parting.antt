-- The live nodes as a diagram, and as parts.
use Rattle.std.proofs.Common.{◌≡◌, ℕ, List, map, sym, refl, subst, arith}
use Rattle.model.specs.declared.Branch.{Branch}
use Rattle.model.specs.declared.Node.{Node}
use Rattle.model.specs.Lists.{In}
use Rattle.model.specs.Trees.{Tree}
use Rattle.model.specs.Parts.{Part, parts}
use Rattle.model.specs.Diagrams.{listed, tree, key, From}
use Rattle.model.specs.Numberings.{numbering}
use Rattle.model.proofs.Lists.{in_cast, in_map, from_map}
use Rattle.model.proofs.Parts.{parts_are}
use Rattle.model.proofs.Numbers.{numbered}
use Rattle.model.proofs.Reach.{numbering_reaches}
use Rattle.model.proofs.Grow.{from_wider}
use Rattle.tables.specs.States.{Live, State, Parted}
use Rattle.tables.specs.Markings.{Diagram, MarkedFrom}
use Rattle.tables.proofs.Counts.{live_list, in_live, from_live}
use Rattle.tables.proofs.Growing.{ordered_iff, reduced_iff}

-- a part of some trees is one of more trees
parts_more : (n : ℕ) (ts us : List Tree) → ((t : Tree) → In t ts → In t us) → (k : Part) → In k (parts n 0 ts) → In k (parts n 0 us)
parts_more n ts us more k m =
    let r = ((parts_are n ts).1 k.0 k.1).0 m in
    ((parts_are n us).1 k.0 k.1).1 (r.0, r.1, (r.2.0, more r.2.0 r.2.1, r.2.2))

-- marked nodes, in the tables in which growing begins, are parts of all trees among which are those of the roots
pub parted_marked : (n : ℕ) (nodes : List Node) (us : List ℕ) (rs : List Branch) (marks : List ℕ) → Diagram n nodes us → ((b : Branch) → In b rs → From (λ i. In i us) (listed nodes) 0 b)
    → MarkedFrom n nodes rs marks → (ts : List Tree) → ((b : Branch) → In b rs → In (tree (listed nodes) n 0 b) ts) → Parted n nodes marks ts
parted_marked n nodes us rs marks dg f m ts all i l =
    let T = listed nodes in
    let is = numbering T n 0 rs in
    let there = (numbering_reaches n T us dg.ordered rs f).all i ((m.exact i).0 l) in
    let e : parts n 0 (map (tree T n 0) rs) ≡ map (key n T) is = numbered n T (λ i. In i us) dg.ordered dg.reduced n 0 (omega arith) rs f in
    parts_more n (map (tree T n 0) rs) ts (λ t k. let r = from_map (tree T n 0) t rs k in in_cast (tree T n 0 r.0) t ts (sym r.2) (all r.0 r.1))
    (key n T i) (subst (In (key n T i)) (sym e) (in_map (key n T) i is there))

-- the live nodes of tables in order are a reduced diagram
pub live_diagram : (n : ℕ) (nodes : List Node) (marks index : List ℕ) → State n nodes marks index → Diagram n nodes (live_list marks)
live_diagram n nodes marks index st =
    record {
      ordered = ordered_iff n (listed nodes) (Live marks) (λ i. In i (live_list marks)) (from_live marks) (in_live marks) st.ordered;
      reduced = reduced_iff (listed nodes) (Live marks) (λ i. In i (live_list marks)) (from_live marks) st.reduced;
    }

pub from_listed : (nodes : List Node) (marks : List ℕ) (d : ℕ) (b : Branch) → From (Live marks) (listed nodes) d b → From (λ i. In i (live_list marks)) (listed nodes) d b
from_listed nodes marks d b f = from_wider (listed nodes) (listed nodes) (Live marks) (λ i. In i (live_list marks)) (λ i l. refl) (in_live marks) d b f
