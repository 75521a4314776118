-- A call with cut tables, and one row after another.
use Rattle.std.proofs.Common.{◌≡◌, ℕ, ◌≤◌, min, Bool, true, false, cond, not, eqb, ltb, leb, List, [], ◌∷◌, ◌++◌, length, take, drop, Some, None, Option, Result, sym, refl, ap, ◌∙◌, subst, inl, inr, arith, length-take}
use Rattle.std.proofs.lemmas.List.{append-nil, take_all, drop_all, take-append-drop}
use Rattle.std.proofs.lemmas.Bool.Decides.{eqb_tells}
use Rattle.faults.specs.declared.fault.Fault.{Fault}
use Rattle.faults.specs.declared.fault.Ground.TheVariants as ground
use Rattle.faults.specs.Refusals.{at, refuse_if, or_else, is_none}
use Rattle.model.specs.declared.Node.{Node}
use Rattle.plans.specs.declared.header.Header.{Header}
use Rattle.plans.specs.Plain.{Plain, Call, draw, join, strap, erase, pins, other_tables, work_size, input_refusal, state_told, after, changed}
use Rattle.plans.specs.Holding.{Holds, Did}
use Rattle.rows.specs.Rows.{runs, Ran}

runs-++ : (p : Plain) (cs ds : List Call) → runs p (cs ++ ds) ≡ runs (runs p cs) ds
runs-++ p [] ds = refl
runs-++ p (c ∷ cs) ds = runs-++ (after p c) cs ds

-- one row after another
pub ran_both : {h h' : Header} {nodes nodes' : List Node} (cs ds : List Call) → ((p : Plain) → Holds h nodes p → Holds h' nodes' (runs (runs p cs) ds)) → Ran h nodes (cs ++ ds) h' nodes'
ran_both {h'} {nodes'} cs ds r p o = subst (Holds h' nodes') (sym (runs-++ p cs ds)) (r p o)

-- the length of the node table that a call is handed
abbrev pub nodes_of : Call → ℕ
nodes_of (draw d m f nodes tree work) = nodes
nodes_of (join decodes g a b d nodes work) = nodes
nodes_of (strap a pin high d nodes work) = nodes
nodes_of (erase d nodes work) = nodes

-- something is refused
abbrev Refuses : Option Fault → Type 0
Refuses o = (f : Fault) × (o ≡ Some f)

sooner : (b : Bool) (f : Fault) (o : Option Fault) → Refuses o → Refuses (refuse_if b f o)
sooner true f o r = (f, refl)
sooner false f o r = r

other_refuses : (n size k work : ℕ) → (k ≡ size → ⊥) → Refuses (other_tables n size k work)
other_refuses n size k work ne =
    elim (eqb_tells k size) [
      | inl t ↦ absurd (ne t.1)
      | inr t ↦ (at ground.NodeTable k, ap (λ b. refuse_if (not b) (at ground.NodeTable k) (refuse_if (ltb work (work_size n size)) (at ground.Work work) None)) t.0)
    ]

-- a call with a node table of another length is refused, on that ground or a sooner one
cut_refuses : (n size : ℕ) (c : Call) → (nodes_of c ≡ size → ⊥) → Refuses (input_refusal n size c)
cut_refuses n size (draw d m f k tree work) ne = sooner (not (eqb m n)) _ _ (sooner (ltb 31 d) _ _ (other_refuses n size k work ne))
cut_refuses n size (join decodes g a b d k work) ne = sooner (ltb 31 a) _ _ (sooner (ltb 31 b) _ _ (sooner (ltb 31 d) _ _ (other_refuses n size k work ne)))
cut_refuses n size (strap a pin high d k work) ne = sooner (ltb 31 a) _ _ (sooner (ltb 31 d) _ _ (sooner (leb n pin) _ _ (other_refuses n size k work ne)))
cut_refuses n size (erase d k work) ne = sooner (ltb 31 d) _ _ (other_refuses n size k work ne)

module _ (h h' : Header) (nodes front : List Node) (k : ℕ) (c : Call) (r : Result (Unit {0}) Fault) (within : k ≤ length nodes) (is : nodes_of c ≡ length (take k nodes)) (d : Did h (take k nodes) c r h' front) (p : Plain) (o : Holds h nodes p) where
  -- with the whole table the call is that of the plain plan
  whole : k ≡ length nodes → Holds h' (front ++ drop k nodes) (after p c)
  whole e =
      let rest : front ++ drop k nodes ≡ front = ap (λ ys. front ++ ys) (drop_all k nodes (omega arith)) ∙ append-nil front in
      subst (λ (ns : List Node). Holds h' ns (after p c)) (sym rest) (d.leaves p (subst (λ (ns : List Node). Holds h ns p) (sym (take_all k nodes (omega arith))) o))

  -- with less of it the call is refused and alters nothing
  short : (k ≡ length nodes → ⊥) → Holds h' (front ++ drop k nodes) (after p c)
  short ne =
      let l : nodes_of c ≡ k = is ∙ length-take k nodes ∙ (omega arith) in
      let w = o.whole in
      let refuses = cut_refuses (pins p) p.size c (λ e. ne (omega arith)) in
      let t = d.turned p o.heads refuses.0 refuses.1 in
      let header = d.same refuses.0 t.0 in
      let rest : front ++ drop k nodes ≡ nodes = ap (λ ys. ys ++ drop k nodes) t.1 ∙ take-append-drop k nodes in
      let still : after p c ≡ p = ap (λ f. cond (is_none (or_else f (state_told p c))) (changed p c) p) refuses.1 in
      subst (λ (x : Header). Holds x (front ++ drop k nodes) (after p c)) (sym header)
      (subst (λ (ns : List Node). Holds h ns (after p c)) (sym rest) (subst (Holds h nodes) (sym still) o))

  cut : Holds h' (front ++ drop k nodes) (after p c)
  cut = elim (eqb_tells k (length nodes)) [ inl t ↦ whole t.1 | inr t ↦ short t.1 ]

-- A call that is handed the front of the tables does what the plain plan does with a call of their lengths.
pub ran_handed : (F : ℕ → ℕ → ℕ → Call) → ((a b c : ℕ) → nodes_of (F a b c) ≡ a) → (h h' : Header) (nodes front : List Node) (j k a a' b b' : ℕ) → k ≡ min j (length nodes) → a ≡ a' → b ≡ b'
    → (r : Result (Unit {0}) Fault) → Did h (take k nodes) (F (length (take k nodes)) a b) r h' front → Ran h nodes (F (min j (length nodes)) a' b' ∷ []) h' (front ++ drop k nodes)
ran_handed F of h h' nodes front j k a a' b b' e q s r d p o =
    let within : k ≤ length nodes = omega arith in
    let l : length (take k nodes) ≡ min j (length nodes) = length-take k nodes ∙ (omega arith) in
    let same : F (length (take k nodes)) a b ≡ F (min j (length nodes)) a' b' = cc in
    cut h h' nodes front k (F (min j (length nodes)) a' b') r within (of (min j (length nodes)) a' b' ∙ sym l) (subst (λ (c : Call). Did h (take k nodes) c r h' front) same d) p o

-- the length of a front
pub front_length : {A : Type 0} (j k : ℕ) (xs : List A) → k ≡ min j (length xs) → length (take k xs) ≡ min j (length xs)
front_length j k xs e = length-take k xs ∙ (omega arith)
