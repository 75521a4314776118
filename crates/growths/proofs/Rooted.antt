-- Growing a root beside others.
use Rattle.std.proofs.Common.{◌≡◌, ℕ, ◌-◌, ◌<◌, Bool, List, length, Some, None, Option, sym, ap, ◌∙◌, subst, ap₂, arith}
use Rattle.model.specs.declared.Branch.{Branch}
use Rattle.model.specs.declared.Node.{Node}
use Rattle.model.specs.Lists.{In, held}
use Rattle.model.specs.Trees.{Tree}
use Rattle.model.specs.Parts.{used}
use Rattle.model.specs.Joins.{join, strap}
use Rattle.model.specs.Diagrams.{listed, tree, From, Reached}
use Rattle.model.proofs.Grow.{tree_kept}
use Rattle.tables.specs.States.{Live, State, Outcome}
use Rattle.tables.specs.Markings.{Diagram}
use Rattle.tables.specs.Additions.{Prepares}
use Rattle.tables.proofs.Marks.{roots_marked}
use Rattle.tables.proofs.Counts.{live_list}
use Rattle.tables.proofs.Growing.{from_grown}
use Rattle.tables.proofs.Parting.{parted_marked, live_diagram, from_listed}
use Rattle.tables.specs.declared.adding.Growing.{Growing}
use Rattle.growths.specs.Growths.{JoinsIn, StrapsIn, Grew, Grows}
use Rattle.growths.proofs.Halves.{joins_of, straps_of}

-- a growth in a table t that was prepared, which leaves it as t' and the nodes as last
module _ (n : ℕ) (nodes : List Node) (work : List ℕ) (lines : List (Option Branch)) (t t' : Growing) (pins_are : t.pins ≡ n) (nodes_are : t.nodes.now ≡ nodes)
    (prepared : Prepares n nodes work lines t.marks.now t.index.now) (last : List Node) (ended : t'.nodes.now ≡ last) (r : Option Branch) where
  pub grown_root : (u : Tree)
      → (State n nodes t.marks.now t.index.now → ((b : Branch) → In b (held lines) → From (Live t.marks.now) (listed nodes) 0 b) → Outcome n 0 u nodes t.marks.now t'.nodes.now t'.marks.now t'.index.now r)
      → Grows n nodes work lines u last r
  grown_root u grows us dg f few room =
      let p = prepared us dg f few room in
      subst (λ (x : List Node). Grew n nodes (held lines) u x r) ended
      (record { marks = t.marks.now; marks' = t'.marks.now; index' = t'.index.now; marked = p.marked; outcome = grows p.state (roots_marked n nodes (held lines) t.marks.now p.marked) })

  pub joined_root : (g : ℕ → ℕ → ℕ) (a b : Branch) → JoinsIn g 0 a b t t' r → In a (held lines) → In b (held lines)
      → Grows n nodes work lines (join g (tree (listed nodes) n 0 a) (tree (listed nodes) n 0 b)) last r
  joined_root g a b grows ma mb =
      grown_root (join g (tree (listed nodes) n 0 a) (tree (listed nodes) n 0 b))
      (λ st from. let z : n - 0 ≡ n = omega arith in
      subst (λ k. Outcome n 0 (join g (tree (listed nodes) k 0 a) (tree (listed nodes) k 0 b)) nodes t.marks.now t'.nodes.now t'.marks.now t'.index.now r) z
      (joins_of t t' n nodes pins_are nodes_are g 0 a b r grows st (omega arith) (from a ma) (from b mb)))

  pub strapped_root : (q : ℕ) (v : Bool) (b : Branch) → StrapsIn q v 0 b t t' r → In b (held lines) → Grows n nodes work lines (strap q v (tree (listed nodes) n 0 b)) last r
  strapped_root q v b grows m =
      grown_root (strap q v (tree (listed nodes) n 0 b))
      (λ st from. let z : n - 0 ≡ n = omega arith in let y : q - 0 ≡ q = omega arith in
      subst (λ u. Outcome n 0 u nodes t.marks.now t'.nodes.now t'.marks.now t'.index.now r) (ap₂ (λ j k. strap j v (tree (listed nodes) k 0 b)) y z)
      (straps_of t t' n nodes pins_are nodes_are q v 0 b r grows st (omega arith) (omega arith) (from b m)))

-- What a growth means for the lines that stand and for the line that was grown.
module _ (n : ℕ) (nodes : List Node) (roots : List Branch) (t : Tree) (nodes' : List Node) (us : List ℕ) (dg : Diagram n nodes us)
    (f : (b : Branch) → In b roots → From (λ i. In i us) (listed nodes) 0 b) where
  -- a refusal: the trees of the roots and the tree that was asked for have more parts than the table has nodes
  pub root_refused : Grew n nodes roots t nodes' None → (ts : List Tree) → ((b : Branch) → In b roots → In (tree (listed nodes) n 0 b) ts) → In t ts → length nodes' < used n ts
  root_refused w ts all m = w.outcome.fair ts (parted_marked n nodes us roots w.marks dg f w.marked ts all) m

  -- what is live afterwards is a reduced diagram
  pub grown_diagram : {r : Option Branch} (w : Grew n nodes roots t nodes' r) → Diagram n nodes' (live_list w.marks')
  grown_diagram w = live_diagram n nodes' w.marks' w.index' w.outcome.state

  -- every node that was reached stands as it stood
  pub reached_kept : {r : Option Branch} → Grew n nodes roots t nodes' r → (i : ℕ) → Reached (listed nodes) roots i → listed nodes' i ≡ listed nodes i
  reached_kept w i q = w.outcome.grown.kept i ((w.marked.exact i).1 q)

  -- every root stands in it, with the tree that it had
  pub root_kept : {r : Option Branch} (w : Grew n nodes roots t nodes' r) (b : Branch) → In b roots
      → From (λ i. In i (live_list w.marks')) (listed nodes') 0 b × (tree (listed nodes') n 0 b ≡ tree (listed nodes) n 0 b)
  root_kept w b m =
      let g = roots_marked n nodes roots w.marks w.marked b m in (
        from_listed nodes' w.marks' 0 b (from_grown nodes w.marks nodes' w.marks' w.outcome.grown 0 b g),
        sym (tree_kept n (listed nodes) (listed nodes') (Live w.marks) w.marked.ordered (λ i l. sym (w.outcome.grown.kept i l)) n 0 b g),
      )

  -- so does the new one, with the tree that was asked for
  pub root_new : (b : Branch) (w : Grew n nodes roots t nodes' (Some b)) → From (λ i. In i (live_list w.marks')) (listed nodes') 0 b × (tree (listed nodes') n 0 b ≡ t)
  root_new b w =
      let z : n ≡ n - 0 = omega arith in
      (from_listed nodes' w.marks' 0 b w.outcome.holds.0, ap (λ k. tree (listed nodes') k 0 b) z ∙ w.outcome.holds.1)
