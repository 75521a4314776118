-- Labels that are the numbers of a listing.
use Rattle.std.proofs.Common.{◌≡◌, ℕ, ◌≤◌, Bool, true, false, eqb, List, [], ◌∷◌, ◌++◌, map, length, get_or, Some, None, Option, sym, refl, ap, ◌∙◌, subst, ap₂, arith}
use Rattle.model.specs.declared.Branch.{Branch}
use Rattle.model.specs.declared.Branch.TheVariants.{End as end, Node as node}
use Rattle.model.specs.declared.Node.{Node}
use Rattle.model.specs.Lists.{In, spot, held, each}
use Rattle.model.specs.Diagrams.{Table, listed, side, follow, From, Reached, Reaches}
use Rattle.model.specs.Numberings.{numbering}
use Rattle.model.specs.Layouts.{Layout, renumber, renumbered, listing}
use Rattle.model.proofs.Lists.{map_same, in_held}
use Rattle.model.proofs.Reach.{numbering_reaches}
use Rattle.tables.specs.Markings.{Diagram}
use Rattle.listings.specs.Labels.{short, relabel, relabelled, labelled}
use Rattle.listings.specs.Numbers.{Numbered}
use Rattle.listings.proofs.Shortening.{short_is}
use Rattle.listings.proofs.Inverting.{spot_small}
use Rattle.listings.proofs.Numbering.{numbering_few}

-- a node's branches are reached from where it is reached
follow_on : (T : Table) (vs : List Bool) (b : Branch) (i : ℕ) (v : Bool) → follow T vs b ≡ node i → follow T (vs ++ (v ∷ [])) b ≡ side v (T i)
follow_on T [] (end c) i v e = let z : ◌≡◌ {A = ℕ} 0 1 = cc in absurd (omega arith)
follow_on T [] (node k) i v e = let q : k ≡ i = cc in ap (λ x. side v (T x)) q
follow_on T (u ∷ vs) (end c) i v e = let z : ◌≡◌ {A = ℕ} 0 1 = cc in absurd (omega arith)
follow_on T (u ∷ vs) (node k) i v e = follow_on T vs (side u (T k)) i v e

-- where every node that is reached has its number, labels are those of the listing
module _ (n : ℕ) (nodes : List Node) (us : List ℕ) (dg : Diagram n nodes us) (small : length nodes ≤ 4096) (lines : List (Option Branch))
    (f : (b : Branch) → In b (held lines) → From (λ i. In i us) (listed nodes) 0 b) (order numbers : List ℕ) (w : Numbered n nodes (held lines) order numbers) where
  abbrev T : Table
  T = listed nodes

  abbrev is : List ℕ
  is = numbering T n 0 (held lines)

  reach : Reaches T (held lines) is
  reach = numbering_reaches n T us dg.ordered (held lines) f

  label : (i : ℕ) → Reached T (held lines) i → short (get_or numbers i 0) ≡ spot eqb is i
  label i r =
      let m : In i order = subst (λ (xs : List ℕ). In i xs) (sym w.nodes_by_number) (reach.all i r) in
      let e = w.number_of_nodes i m in
      let l = spot_small order i m in
      let few = w.few in
      short_is (get_or numbers i 0) (short (get_or numbers i 0)) refl (omega arith) ∙ (e ∙ ap (λ xs. spot eqb xs i) w.nodes_by_number)

  branch_labelled : (b : Branch) → ((i : ℕ) → b ≡ node i → Reached T (held lines) i) → relabel numbers b ≡ renumber is b
  branch_labelled (end c) r = refl
  branch_labelled (node i) r = ap node (label i (r i refl))

  row_labelled : (i : ℕ) → In i is → relabelled numbers (T (short i)) ≡ renumbered is (T i)
  row_labelled i m =
      let r = reach.reached i m in
      let l = (numbering_few n nodes us dg (held lines) f).1 i m in
      let e : short i ≡ i = short_is i (short i) refl (omega arith) in
      let to : (v : Bool) (k : ℕ) → side v (T i) ≡ node k → Reached T (held lines) k = λ v k q. (r.0, r.1, (r.2.0 ++ (v ∷ []), follow_on T r.2.0 r.0 i v r.2.1 ∙ q)) in
      let lo = branch_labelled (T i).low (to false) in
      let hi = branch_labelled (T i).high (to true) in
      ap (λ x. relabelled numbers (T x)) e ∙ ap₂ (λ x y. row (T i).place x y) lo hi
    where
      row : ℕ → Branch → Branch → Node
      row p x y = record { place = p; low = x; high = y }

  line_labelled : (l : Option Branch) → In l lines → each (relabel numbers) l ≡ each (renumber is) l
  line_labelled None m = refl
  line_labelled (Some b) m = ap Some (branch_labelled b (λ i e. (b, in_held b lines m, ([], e))))

  pub labelled_is_listing : labelled T order numbers lines ≡ listing T n lines
  unfolding listing
  labelled_is_listing =
      ap₂ (λ x y. lay x y)
      (ap (map (λ i. relabelled numbers (T (short i)))) w.nodes_by_number ∙ map_same (λ i. relabelled numbers (T (short i))) (λ i. renumbered is (T i)) is row_labelled)
      (map_same (each (relabel numbers)) (each (renumber is)) lines line_labelled)
    where
      lay : List Node → List (Option Branch) → Layout
      lay x y = record { nodes = x; lines = y }
