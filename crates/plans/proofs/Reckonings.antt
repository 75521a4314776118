-- Counting what is reached.
use Rattle.std.proofs.Common.{◌≡◌, ℕ, zero, suc, ◌<◌, ◌≤◌, Bool, List, [], ◌∷◌, length, get_or, Some, None, Option, sym, ap, ◌∙◌, subst, inl, inr, arith}
use Rattle.std.proofs.lemmas.Bool.Decides.{nat_tests}
use Rattle.faults.specs.declared.fault.Fault.{Fault}
use Rattle.faults.specs.declared.fault.Ground.TheVariants.{LineEmpty}
use Rattle.faults.specs.Refusals.{at}
use Rattle.model.specs.declared.Branch.{Branch}
use Rattle.model.specs.declared.Branch.TheVariants.{Node as node}
use Rattle.model.specs.declared.Node.{Node}
use Rattle.model.specs.Lists.{In, LineForLine}
use Rattle.model.specs.Selections.{Selection}
use Rattle.model.specs.Diagrams.{listed, follow, Means, From, Reduced, Reached, Reaches}
use Rattle.model.specs.Numberings.{numbering}
use Rattle.model.proofs.Reach.{used_is_exact, numbering_reaches, ordered_reached}
use Rattle.tables.specs.Indexes.{filled}
use Rattle.tables.specs.Markings.{MarksRoots, Counts}
use Rattle.plans.specs.declared.header.Header.{Header}
use Rattle.plans.specs.Plain.{Plain, pins, line, used_of, count_line, count_refusal, count_told}
use Rattle.plans.specs.Holding.{Holds}
use Rattle.plans.specs.Reaching.{ReachesMany}
use Rattle.plans.proofs.Holdings.{at_header, heads_pins, order_is, diagram, roots_from, held_line, empty_line, root_stands, empty_told, held_told}

pub filled_few : (xs : List ℕ) → filled xs ≤ length xs
filled_few [] = omega arith
filled_few (zero ∷ xs) = let r = filled_few xs in omega arith
filled_few (suc x ∷ xs) = let r = filled_few xs in omega arith

pub counted : (n : ℕ) (nodes : List Node) (lines : List (Option Branch)) (marks : List ℕ) (r : ℕ) → MarksRoots n nodes lines marks → length marks ≡ length nodes → Counts marks r → ReachesMany n nodes lines r
counted n nodes lines marks r m l c us d f vs reach =
    let e = (m us d l f).exact in
    c vs reach.apart (λ i. (λ x. (e i).1 (reach.reached i x), λ x. reach.all i ((e i).0 x)))

-- reduced reachable nodes of a part of the roots
pub reduced_within : (nodes : List Node) (us vs : List ℕ) → Reduced (listed nodes) (λ i. In i us) → ((i : ℕ) → In i vs → In i us) → Reduced (listed nodes) (λ i. In i vs)
reduced_within nodes us vs r w = record { tested = λ i m. r.tested i (w i m); shared = λ i k m q. r.shared i k (w i m) (w k q) }

module _ (h : Header) (nodes : List Node) (p : Plain) (o : Holds h nodes p) where
  pub used_holds : h.usage.used ≡ used_of p
  used_holds = o.used ∙ used_is_exact (pins p) p.order (order_is h nodes p o) (listed nodes) h.lines p.lines o.lines o.reachable o.reached o.ordered o.reduced

count_within : (n size d k work : ℕ) → None ≡ count_refusal n size d k work → d < 32
count_within n size d k work e = grind (arith, nat_tests)

module _ (h : Header) (nodes : List Node) (p : Plain) (o : Holds h nodes p) (d k work : ℕ) (clear : None ≡ count_refusal h.pins h.size d k work) where
  clear_p : count_refusal (pins p) p.size d k work ≡ None
  clear_p = at_header h p o.heads (λ n size. count_refusal n size d k work) ∙ sym clear

  inside : d < 32
  inside = count_within (pins p) p.size d k work (sym clear_p)

  pub count_empty : (f : Fault) → get_or h.lines d None ≡ None → f ≡ at LineEmpty d → count_told p d k work ≡ Some f
  count_empty f e q = empty_told p d (count_refusal (pins p) p.size d k work) clear_p (empty_line h nodes p o d inside e) ∙ ap Some (sym q)

  pub count_told_held : (b : Branch) → get_or h.lines d None ≡ Some b → count_told p d k work ≡ None
  count_told_held b e = let r = held_line h nodes p o d inside b e in held_told p d (count_refusal (pins p) p.size d k work) r.0 clear_p r.1

  -- the nodes reached from the one root, and their number
  pub count_held : (b : Branch) (c : ℕ) → get_or h.lines d None ≡ Some b → ReachesMany h.pins nodes (Some b ∷ []) c → (count_told p d k work ≡ None) × (c ≡ count_line p d)
  count_held b c e many =
      let r = held_line h nodes p o d inside b e in
      let T = listed nodes in
      let n = pins p in
      let from = roots_from h nodes p o b (root_stands h nodes p o d inside b e) in
      let froms : (x : Branch) → In x (b ∷ []) → From (λ i. In i o.reachable) T 0 x = one o.reachable b from in
      let vs = numbering T n 0 (b ∷ []) in
      let reach : Reaches T (b ∷ []) vs = numbering_reaches n T o.reachable o.ordered (b ∷ []) froms in
      let ord = ordered_reached n T (λ i. In i o.reachable) o.ordered (b ∷ []) vs froms reach in
      let red = reduced_within nodes o.reachable vs o.reduced (λ i m. own (reach.reached i m)) in
      let line_means : LineForLine (Means n T p.order) (Some b ∷ []) (line p d ∷ []) = subst (λ (l : Option Selection). LineForLine (Means n T p.order) (Some b ∷ []) (l ∷ [])) (sym r.1) (r.2, tt) in
      let exact = used_is_exact n p.order (order_is h nodes p o) T (Some b ∷ []) (line p d ∷ []) line_means vs reach ord red in
      let m = subst (λ (x : ℕ). ReachesMany x nodes (Some b ∷ []) c) (sym (heads_pins h p o.heads)) many in
      (count_told_held b e, sym (m o.reachable (diagram h nodes p o) froms vs reach) ∙ exact)
    where
      one : (us : List ℕ) (b : Branch) → From (λ i. In i us) (listed nodes) 0 b → (x : Branch) → In x (b ∷ []) → From (λ i. In i us) (listed nodes) 0 x
      one us b f x (inl q) = subst (λ (y : Branch). From (λ i. In i us) (listed nodes) 0 y) (sym q) f
      one us b f x (inr m) = absurd m

      own : {i : ℕ} → Reached (listed nodes) (b ∷ []) i → In i o.reachable
      own {i} s = o.reached.all i (b, root_stands h nodes p o d inside b e, step b s.0 s.1 s.2)
        where
          step : (b x : Branch) → In x (b ∷ []) → ((vs : List Bool) × (follow (listed nodes) vs x ≡ node i)) → (vs : List Bool) × (follow (listed nodes) vs b ≡ node i)
          step b x (inl q) w = (w.0, ap (follow (listed nodes) w.0) (sym q) ∙ w.1)
          step b x (inr m) w = absurd m
