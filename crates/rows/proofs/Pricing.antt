-- What a held plain plan says of nodes, used number and counts.
use Rattle.std.proofs.Common.{◌≡◌, ℕ, suc, ◌<◌, ◌≤◌, Bool, true, false, cond, List, [], ◌∷◌, length, get_or, Some, None, Ok, Err, Option, Result, sym, refl, ap, ◌∙◌, subst, inl, inr, arith}
use Rattle.std.proofs.lemmas.List.{get_or_past}
use Rattle.std.proofs.lemmas.Bool.Decides.{leb_tells}
use Rattle.std.specs.Result.{result_ok}
use Rattle.faults.specs.declared.fault.Fault.{Fault}
use Rattle.faults.specs.Refusals.{is_none}
use Rattle.model.specs.declared.Branch.{Branch}
use Rattle.model.specs.declared.Node.{Node}
use Rattle.model.specs.Lists.{In, held, LineForLine}
use Rattle.model.specs.Parts.{used, count}
use Rattle.model.specs.Selections.{Selection, view_of, views, Agrees}
use Rattle.model.specs.Diagrams.{listed, meant, Means, From, Reaches, LeastRival}
use Rattle.model.specs.Numberings.{numbering}
use Rattle.model.proofs.Reach.{used_is_exact, numbering_reaches, own_nodes_least}
use Rattle.plans.specs.declared.header.Header.{Header}
use Rattle.plans.specs.Plain.{Plain, pins, line, count_line, count_told}
use Rattle.plans.specs.Holding.{Holds, Counts, Uses}
use Rattle.plans.proofs.Holdings.{order_is, roots_from, held_line, empty_line, root_stands}
use Rattle.rows.specs.declared.outcome.Outcome.{Outcome}
use Rattle.rows.specs.Laws.{UsedIsTheParts, count_if_told, CountIsLeast, Priced}

-- the count of a line, taken out of what was told
pub counted : (h : Header) (nodes : List Node) (d work : ℕ) (r : Result ℕ Fault) → Counts h nodes d work r → (p : Plain) → Holds h nodes p → result_ok r ≡ count_if_told p d (length nodes) work
counted h nodes d work (Ok k) c p o =
    let t = c.tells p o in
    ap Some t.1 ∙ sym (ap (λ (x : Option Fault). cond (is_none x) (Some (count_line p d)) None) t.0)
counted h nodes d work (Err f) c p o = sym (ap (λ (x : Option Fault). cond (is_none x) (Some (count_line p d)) None) (c.tells p o))

lines_as_long : {A B : Type 0} (R : A → B → Type 0) (xs : List A) (ys : List B) → LineForLine R xs ys → length ys ≡ length xs
lines_as_long R [] [] l = refl
lines_as_long R [] (y ∷ ys) l = absurd l
lines_as_long R (x ∷ xs) [] l = absurd l
lines_as_long R (x ∷ xs) (y ∷ ys) l = ap suc (lines_as_long R xs ys l.1)

some_none : {B A : Type 0} (o : Option A) (x : A) → o ≡ Some x → o ≡ None → B
some_none o x p q = let z : ◌≡◌ {A = ℕ} 0 1 = cc in absurd (omega arith)

some_same : {A : Type 0} (o : Option A) (x y : A) → o ≡ Some x → o ≡ Some y → x ≡ y
some_same o x y p q = cc

told_once : (b : Bool) (m k : ℕ) → cond b (Some m) None ≡ Some k → m ≡ k
told_once true m k e = cc
told_once false m k e = let z : ◌≡◌ {A = ℕ} 0 1 = cc in absurd (omega arith)

module _ (h : Header) (nodes : List Node) (p : Plain) (o : Holds h nodes p) where
  pub parts_used : (u : ℕ) → Uses h u → UsedIsTheParts p nodes h.lines u
  parts_used u e = record {
    reached = o.reachable;
    reaches = o.reached;
    exact = used_is_exact (pins p) p.order (order_is h nodes p o) (listed nodes) h.lines p.lines o.lines o.reachable o.reached o.ordered o.reduced;
    told = e nodes p o;
  }

  -- a line past the last holds nothing
  line_within : (d : ℕ) (f : Selection) → line p d ≡ Some f → d < 32
  line_within d f e =
      elim (leb_tells 32 d) [
        | inl t ↦ some_none (line p d) f e (get_or_past p.lines d None (let a = t.1 in let l = lines_as_long (Means (pins p) (listed nodes) p.order) h.lines p.lines o.lines in let k = h.lined in omega arith))
        | inr t ↦ (let a = t.1 in omega arith)
      ]

  module _ (d : ℕ) (f : Selection) (e : line p d ≡ Some f) where
    inside : d < 32
    inside = line_within d f e

    -- the root of the line, which means its selection
    has_root : (l : Option Branch) → get_or h.lines d None ≡ l → (b : Branch) × (get_or h.lines d None ≡ Some b) × Agrees (pins p) (meant (pins p) (listed nodes) p.order b) f
    has_root None q = some_none (line p d) f e (empty_line h nodes p o d inside q)
    has_root (Some b) q =
        let r = held_line h nodes p o d inside b q in
        (b, q, subst (λ (g : Selection). Agrees (pins p) (meant (pins p) (listed nodes) p.order b) g) (some_same (line p d) r.0 f r.1 e) r.2)

    count_is : count_line p d ≡ count (pins p) (view_of (pins p) p.order f)
    count_is = ap (λ (l : Option Selection). used (pins p) (held (views (pins p) p.order (l ∷ [])))) e

    pub line_least : (work : ℕ) (told : Option ℕ) → told ≡ count_if_told p d (length nodes) work → CountIsLeast p nodes (get_or h.lines d None) f told
    line_least work told is =
        record {
          root = b;
          entered = r.1;
          own = own;
          reaches = reach;
          diagram = least;
          exact = λ k t. exact k t;
          least = λ k t T us e x. subst (λ (m : ℕ). m ≤ length us) (exact k t) (least.least T us e x);
        }
      where
        r : (b : Branch) × (get_or h.lines d None ≡ Some b) × Agrees (pins p) (meant (pins p) (listed nodes) p.order b) f
        r = has_root (get_or h.lines d None) refl

        b : Branch
        b = r.0

        from : From (λ i. In i o.reachable) (listed nodes) 0 b
        from = roots_from h nodes p o b (root_stands h nodes p o d inside b r.1)

        froms : (x : Branch) → In x (b ∷ []) → From (λ i. In i o.reachable) (listed nodes) 0 x
        froms x (inl q) = subst (λ (y : Branch). From (λ i. In i o.reachable) (listed nodes) 0 y) (sym q) from
        froms x (inr m) = absurd m

        own : List ℕ
        own = numbering (listed nodes) (pins p) 0 (b ∷ [])

        reach : Reaches (listed nodes) (b ∷ []) own
        reach = numbering_reaches (pins p) (listed nodes) o.reachable o.ordered (b ∷ []) froms

        least : LeastRival (pins p) p.order f (listed nodes) own b
        least = own_nodes_least (pins p) p.order (order_is h nodes p o) (listed nodes) o.reachable o.ordered o.reduced b from f r.2 own reach

        exact : (k : ℕ) → told ≡ Some k → length own ≡ k
        exact k t = least.exact ∙ sym count_is ∙ told_once (is_none (count_told p d (length nodes) work)) (count_line p d) k (sym is ∙ t)

pub priced : (p : Plain) (nodes : List Node) (work : ℕ) (out : Outcome) → Holds out.plan.header nodes p → Uses out.plan.header out.used
    → ((d : ℕ) → d < 32 → get_or out.counts d None ≡ count_if_told p d (length nodes) work) → Priced p nodes work out
priced p nodes work out o u c =
    record {
      holds = o;
      used = parts_used out.plan.header nodes p o out.used u;
      counts = c;
      least = λ d f e. line_least out.plan.header nodes p o d f e work (get_or out.counts d None) (c d (line_within out.plan.header nodes p o d f e));
    }
