-- Numbering from a front of nodes, each once.
use Rattle.std.proofs.Common.{◌≡◌, ℕ, zero, suc, ◌+◌, ◌-◌, ◌<◌, ◌≤◌, Bool, true, false, cond, eqb, List, [], ◌∷◌, ◌++◌, map, length, Option, sym, refl, ap, ◌∙◌, subst, ap₂, inl, inr, arith, length-append}
use Rattle.std.proofs.lemmas.List.{append-nil, append_assoc}
use Rattle.model.specs.declared.Branch.{Branch}
use Rattle.model.specs.declared.Branch.TheVariants.{End as end, Node as node}
use Rattle.model.specs.declared.Node.{Node}
use Rattle.model.specs.Lists.{In, Apart, keep, once, flat, held}
use Rattle.model.specs.Diagrams.{Table, listed, next, From, Reaches}
use Rattle.model.specs.Numberings.{same_branch, asking, ahead, numbering}
use Rattle.model.proofs.Lists.{pigeonhole, in-++}
use Rattle.model.proofs.Onces.{tells_eqb, tells_through, from_keep, once_apart, apart_once, once_map, from_once}
use Rattle.model.proofs.Canon.{node_inj}
use Rattle.model.proofs.Fronts.{tells_branch, same_front}
use Rattle.model.proofs.Least.{from_next}
use Rattle.model.proofs.Reach.{numbering_reaches, follow_in}
use Rattle.model.proofs.Marks.{marked, in_marked, length_marked}
use Rattle.tables.specs.Markings.{Diagram}
use Rattle.tables.proofs.Marks.{in_table}
use Rattle.listings.specs.Fronts.{nodes_of, leads, asks, Small, MeetsLines, LeadsInside, AllShort, Advances, PicksAll}
use Rattle.listings.specs.Numbers.{Ready, NumbersFrom, Inverts, Numbered}

-- ends do not count

asking_nodes : (T : Table) (d : ℕ) (bs : List Branch) → asking T d bs ≡ keep (asks T d) (nodes_of bs)
asking_nodes T d [] = refl
asking_nodes T d (end c ∷ bs) = asking_nodes T d bs
asking_nodes T d (node i ∷ bs) = ap (λ xs. cond (eqb (T i).place d) (i ∷ xs) xs) (asking_nodes T d bs)

two_more : (b e : Branch) (bs : List Branch) → nodes_of (b ∷ (e ∷ bs)) ≡ nodes_of (b ∷ (e ∷ [])) ++ nodes_of bs
two_more (end c) (end k) bs = refl
two_more (end c) (node j) bs = refl
two_more (node i) (end k) bs = refl
two_more (node i) (node j) bs = refl

ahead_nodes : (T : Table) (d : ℕ) (bs : List Branch) → nodes_of (ahead T d bs) ≡ flat (leads T d) (nodes_of bs)
ahead_nodes T d [] = refl
ahead_nodes T d (end c ∷ bs) = ahead_nodes T d bs
ahead_nodes T d (node i ∷ bs) = two_more (next T d false (node i)) (next T d true (node i)) (ahead T d bs) ∙ ap (λ xs. leads T d i ++ xs) (ahead_nodes T d bs)

numbering_nodes : (T : Table) (h d : ℕ) (bs cs : List Branch) → nodes_of bs ≡ nodes_of cs → numbering T h d bs ≡ numbering T h d cs
numbering_nodes T zero d bs cs e = refl
numbering_nodes T (suc h) d bs cs e =
    ap₂ ◌++◌ (ap (once eqb) (asking_nodes T d bs ∙ (ap (keep (asks T d)) e ∙ sym (asking_nodes T d cs))))
    (numbering_nodes T h (suc d) (ahead T d bs) (ahead T d cs) (ahead_nodes T d bs ∙ (ap (flat (leads T d)) e ∙ sym (ahead_nodes T d cs))))

nodes_map : (is : List ℕ) → nodes_of (map node is) ≡ is
nodes_map [] = refl
nodes_map (i ∷ is) = ap (λ xs. i ∷ xs) (nodes_map is)

once_nodes : (is : List ℕ) → once same_branch (map node is) ≡ map node (once eqb is)
once_nodes is = once_map eqb tells_eqb same_branch node is (λ x y m k. tells_through eqb tells_eqb same_branch tells_branch node x y (node_inj x y))

numbering_once : (T : Table) (h d : ℕ) (is : List ℕ) → numbering T h d (map node (once eqb is)) ≡ numbering T h d (map node is)
numbering_once T h d is =
    same_front T h d (map node (once eqb is)) (map node is)
    (once_nodes (once eqb is) ∙ (ap (map node) (once_apart eqb tells_eqb (once eqb is) (apart_once eqb tells_eqb is)) ∙ sym (once_nodes is)))

-- the front of branches may be taken for that of its nodes, each once
pub numbering_front : (T : Table) (h d : ℕ) (bs : List Branch) (is : List ℕ) → is ≡ once eqb (nodes_of bs) → numbering T h d bs ≡ numbering T h d (map node is)
numbering_front T h d bs is e =
    numbering_nodes T h d bs (map node (nodes_of bs)) (sym (nodes_map (nodes_of bs))) ∙ (sym (numbering_once T h d (nodes_of bs)) ∙ ap (λ xs. numbering T h d (map node xs)) (sym e))

apart_keep : (p : ℕ → Bool) (xs : List ℕ) → Apart xs → Apart (keep p xs)
apart_keep p [] a = tt
apart_keep p (x ∷ xs) a = go (p x) (apart_keep p xs a.1)
  where
    go : (q : Bool) → Apart (keep p xs) → Apart (cond q (x ∷ keep p xs) (keep p xs))
    go true b = (λ m. a.0 (from_keep p x xs m).0, b)
    go false b = b

-- the nodes of a front that ask the pin, and then those from the next front on
pub numbering_step : (T : Table) (h d : ℕ) (is ks : List ℕ) → Apart is → ks ≡ once eqb (flat (leads T d) is) → numbering T (suc h) d (map node is) ≡ keep (asks T d) is ++ numbering T h (suc d) (map node ks)
numbering_step T h d is ks a e =
    ap₂ ◌++◌
    (ap (once eqb) (asking_nodes T d (map node is) ∙ ap (keep (asks T d)) (nodes_map is)) ∙ once_apart eqb tells_eqb (keep (asks T d) is) (apart_keep (asks T d) is a))
    (numbering_front T h (suc d) (ahead T d (map node is)) ks (e ∙ ap (once eqb) (sym (ahead_nodes T d (map node is) ∙ ap (flat (leads T d)) (nodes_map is)))))

-- a branch of a reduced diagram is an end or a node of the table
pub small_from : (n : ℕ) (nodes : List Node) (us : List ℕ) → Diagram n nodes us → (d : ℕ) (b : Branch) → From (λ j. In j us) (listed nodes) d b → Small (length nodes) b
small_from n nodes us dg d (end c) f = tt
small_from n nodes us dg d (node i) f = in_table nodes (λ j. In j us) dg.reduced i f.0

in_nodes : (i : ℕ) (bs : List Branch) → In i (nodes_of bs) → In (node i) bs
in_nodes i [] m = absurd m
in_nodes i (end c ∷ bs) m = inr (in_nodes i bs m)
in_nodes i (node k ∷ bs) (inl e) = inl (ap node e)
in_nodes i (node k ∷ bs) (inr m) = inr (in_nodes i bs m)

from_flat : (g : ℕ → List ℕ) (x : ℕ) (is : List ℕ) → In x (flat g is) → (i : ℕ) × In i is × In x (g i)
from_flat g x [] m = absurd m
from_flat g x (i ∷ is) m =
    elim (in-++ x (g i) (flat g is) m) [ inl k ↦ (i, inl refl, k) | inr k ↦ let r = from_flat g x is k in (r.0, inr r.1, r.2) ]

module _ (n : ℕ) (nodes : List Node) (us : List ℕ) (d : ℕ) (is : List ℕ) (ready : Ready n nodes us d is) where
  abbrev T : Table
  T = listed nodes

  pub front_short : AllShort is
  front_short i m = let l = small_from n nodes us ready.diagram d (node i) (ready.from i m) in let f = ready.few in omega arith

  pub front_leads : LeadsInside (length nodes) T d is
  front_leads i m v = small_from n nodes us ready.diagram (suc d) (next T d v (node i)) (from_next n T (λ j. In j us) ready.diagram.ordered d v (node i) (ready.from i m))

  -- the next front stands in the diagram too
  pub ready_next : (ks : List ℕ) → ks ≡ once eqb (flat (leads T d) is) → Ready n nodes us (suc d) ks
  ready_next ks e = record {
    diagram = ready.diagram;
    few = ready.few;
    apart = subst (λ (xs : List ℕ). Apart xs) (sym e) (apart_once eqb tells_eqb (flat (leads T d) is));
    from = λ i m. goes i (from_flat (leads T d) i is (from_once eqb tells_eqb i (flat (leads T d) is) (subst (λ (xs : List ℕ). In i xs) e m)));
  }
    where
      goes : (i : ℕ) → ((k : ℕ) × In k is × In i (leads T d k)) → From (λ j. In j us) T (suc d) (node i)
      goes i w =
          let k = w.0 in
          let f : (v : Bool) → From (λ j. In j us) T (suc d) (next T d v (node k)) = λ v. from_next n T (λ j. In j us) ready.diagram.ordered d v (node k) (ready.from k w.1) in
          elim (in_nodes i (next T d false (node k) ∷ (next T d true (node k) ∷ [])) w.2) [
            | inl q ↦ subst (λ (b : Branch). From (λ j. In j us) T (suc d) b) (sym q) (f false)
            | inr m ↦ elim m [ inl q ↦ subst (λ (b : Branch). From (λ j. In j us) T (suc d) b) (sym q) (f true) | inr z ↦ absurd z ]
          ]

-- no place is left
pub numbers_none : (n : ℕ) (nodes : List Node) (d : ℕ) (is : List ℕ) (rows room : ℕ) (order : List ℕ) → n ≤ d → NumbersFrom n nodes d is rows room order order
numbers_none n nodes d is rows room order late us ready long enough =
    let z : n - d ≡ 0 = omega arith in
    sym (ap (λ h. order ++ numbering (listed nodes) h d (map node is)) z ∙ append-nil order)

-- one place, and then the others
pub numbers_place : (n : ℕ) (nodes : List Node) (d : ℕ) (is : List ℕ) (rows room : ℕ) (order order₁ : List ℕ) (rows₁ : ℕ) (ks seen order₂ : List ℕ)
    → d < n → rows₁ ≡ rows → length seen ≡ rows
    → PicksAll (listed nodes) d is room order order₁ → Advances (listed nodes) d is rows₁ ks seen → NumbersFrom n nodes (d + 1) ks rows room order₁ order₂
    → NumbersFrom n nodes d is rows room order order₂
numbers_place n nodes d is rows room order order₁ rows₁ ks seen order₂ small same wide picks advances rest us ready long enough =
    let T = listed nodes in
    let h = n - suc d in
    let e : n - d ≡ suc h = omega arith in
    let e₁ : n - (d + 1) ≡ h = omega arith in
    let e₂ : d + 1 ≡ suc d = omega arith in
    let short = front_short n nodes us d is ready in
    let leading = subst (λ (x : ℕ). LeadsInside x T d is) (sym (same ∙ long)) (front_leads n nodes us d is ready) in
    let g = advances (wide ∙ sym same) short leading in
    let step = ap (λ k. numbering T k d (map node is)) e ∙ numbering_step T h d is ks ready.apart g.holds in
    let l₀ = ap length step in
    let l₁ = length-append (keep (asks T d) is) (numbering T h (suc d) (map node ks)) in
    let p = picks short (omega arith) in
    let p₁ = ap length p in
    let p₂ = length-append order (keep (asks T d) is) in
    let next = ap₂ (λ k q. numbering T k q (map node ks)) e₁ e₂ in
    let next_long = ap length next in
    let r = rest us (subst (λ (q : ℕ). Ready n nodes us q ks) (sym e₂) (ready_next n nodes us d is ready ks g.holds)) long (omega arith) in
    r ∙ (ap₂ ◌++◌ p next ∙ (append_assoc order (keep (asks T d) is) (numbering T h (suc d) (map node ks)) ∙ ap (λ xs. order ++ xs) (sym step)))

-- the numbers of a numbering are few, since each is a node of the table, and none stands twice
pub numbering_few : (n : ℕ) (nodes : List Node) (us : List ℕ) → Diagram n nodes us → (roots : List Branch) → ((b : Branch) → In b roots → From (λ i. In i us) (listed nodes) 0 b)
    → Apart (numbering (listed nodes) n 0 roots) × ((i : ℕ) → In i (numbering (listed nodes) n 0 roots) → i < length nodes) × (length (numbering (listed nodes) n 0 roots) ≤ length nodes)
numbering_few n nodes us dg roots f = (reach.apart, below, few)
  where
    reach : Reaches (listed nodes) roots (numbering (listed nodes) n 0 roots)
    reach = numbering_reaches n (listed nodes) us dg.ordered roots f

    below : (i : ℕ) → In i (numbering (listed nodes) n 0 roots) → i < length nodes
    below i m =
        let r = reach.reached i m in
        in_table nodes (λ j. In j us) dg.reduced i (follow_in n (listed nodes) (λ j. In j us) dg.ordered r.2.0 0 r.0 i (f r.0 r.1) r.2.1)

    few : length (numbering (listed nodes) n 0 roots) ≤ length nodes
    few =
        let p = pigeonhole (numbering (listed nodes) n 0 roots) (marked (λ _. true) (length nodes)) reach.apart (λ i m. in_marked (λ _. true) (length nodes) i (below i m) refl) in
        let w = length_marked (λ _. true) (length nodes) (λ _ _. refl) in
        omega arith

-- numbering from the front of the lines
pub numbers_lines : (n : ℕ) (nodes : List Node) (us : List ℕ) → Diagram n nodes us → length nodes ≤ 4096 → (lines : List (Option Branch)) → ((b : Branch) → In b (held lines) → From (λ i. In i us) (listed nodes) 0 b)
    → (rows rows₁ room : ℕ) (is seen none order : List ℕ) → rows ≡ length nodes → rows₁ ≡ length nodes → room ≡ length nodes → length seen ≡ length nodes → none ≡ []
    → MeetsLines lines rows is seen → NumbersFrom n nodes 0 is rows₁ room none order → order ≡ numbering (listed nodes) n 0 (held lines)
numbers_lines n nodes us dg few lines f rows rows₁ room is seen none order same same₁ wide_order wide empty meets numbers =
    let T = listed nodes in
    let g = meets (wide ∙ sym same) (λ b m. subst (λ (x : ℕ). Small x b) (sym same) (small_from n nodes us dg 0 b (f b m))) in
    let z : n - 0 ≡ n = omega arith in
    let step : numbering T n 0 (held lines) ≡ numbering T (n - 0) 0 (map node is) = numbering_front T n 0 (held lines) is g.holds ∙ ap (λ h. numbering T h 0 (map node is)) (sym z) in
    let w = numbering_few n nodes us dg (held lines) f in
    let l = ap length step in
    let l₁ = ap length empty in
    let m = w.2 in
    numbers us (ready g.holds) same₁ (omega arith) ∙ (ap (λ xs. xs ++ numbering T (n - 0) 0 (map node is)) empty ∙ sym step)
  where
    ready : is ≡ once eqb (nodes_of (held lines)) → Ready n nodes us 0 is
    ready e = record {
      diagram = dg;
      few = few;
      apart = subst (λ (xs : List ℕ). Apart xs) (sym e) (apart_once eqb tells_eqb (nodes_of (held lines)));
      from = λ i m. f (node i) (in_nodes i (held lines) (from_once eqb tells_eqb i (nodes_of (held lines)) (subst (λ (xs : List ℕ). In i xs) e m)));
    }

-- the nodes in order, and their numbers
pub numbered_nodes : (n : ℕ) (nodes : List Node) (us : List ℕ) → Diagram n nodes us → length nodes ≤ 4096 → (lines : List (Option Branch)) → ((b : Branch) → In b (held lines) → From (λ i. In i us) (listed nodes) 0 b)
    → (order : List ℕ) → order ≡ numbering (listed nodes) n 0 (held lines) → (numbers numbers' : List ℕ) → length numbers ≡ length nodes → Inverts order numbers numbers' → Numbered n nodes (held lines) order numbers'
numbered_nodes n nodes us dg few lines f order is numbers numbers' wide inverts =
    let w = numbering_few n nodes us dg (held lines) f in
    let a : Apart order = subst (λ (xs : List ℕ). Apart xs) (sym is) w.0 in
    let l = ap length is in
    let m = w.2 in
    record {
      nodes_by_number = is;
      number_of_nodes = inverts a (λ i k. let s = w.1 i (subst (λ (xs : List ℕ). In i xs) is k) in omega arith);
      few = omega arith;
      apart = a;
    }
