-- The laws of the price list, of the answers on a desk.
use Rattle.std.proofs.Common.{◌≡◌, ℕ, cond, List, length, take, Some, None, Ok, Option, Result, get_or, sym, ap, subst, arith}
use Rattle.faults.specs.declared.fault.Fault.{Fault}
use Rattle.faults.specs.Refusals.{is_none}
use Rattle.model.specs.declared.Node.{Node}
use Rattle.model.specs.Selections.{Selection}
use Rattle.model.specs.Diagrams.{listed}
use Rattle.model.proofs.Reach.{used_is_exact}
use Rattle.plans.specs.declared.header.Header.{Header}
use Rattle.plans.specs.Holding.{Holds}
use Rattle.plans.specs.Plain.{Plain, pins, line, used_of, count_line, count_told}
use Rattle.plans.proofs.Holdings.{order_is}
use Rattle.rows.specs.Laws.{UsedIsTheParts, CountIsLeast, count_if_told}
use Rattle.rows.proofs.Pricing.{line_least}
use Rattle.workbench.specs.declared.answer.Answer.{Answer}
use Rattle.workbench.specs.declared.answer.Answer.TheVariants as answer
use Rattle.workbench.specs.declared.answer.Misplaced.{Misplaced}
use Rattle.workbench.specs.declared.desk.Stage.{Stage}
use Rattle.workbench.specs.declared.desk.Stage.TheVariants as stage
use Rattle.workbench.specs.Calls.{answer_of}
use Rattle.workbench.specs.Desks.{opened, StandsAt}
use Rattle.workbench.specs.Requests.{sizes}
use Rattle.workbench.specs.Laws.{lines_of, PricesAsPromised}

used_exact : (h : Header) (nodes : List Node) (p : Plain) → Holds h nodes p → (u : ℕ) → u ≡ used_of p → UsedIsTheParts p nodes h.lines u
used_exact h nodes p o u e = record {
  reached = o.reachable;
  reaches = o.reached;
  exact = used_is_exact (pins p) p.order (order_is h nodes p o) (listed nodes) h.lines p.lines o.lines o.reachable o.reached o.ordered o.reduced;
  told = e;
}

used_told : (st : Stage) (nodes : List Node) (p : Plain) → StandsAt st nodes (opened p) → (u : ℕ) → u ≡ used_of p → UsedIsTheParts p nodes (lines_of st) u
used_told stage.Bare nodes p s u e = absurd s
used_told (stage.Open plan sheet) nodes p s u e = used_exact plan.header nodes p s.holds u e
used_told (stage.Issued plan sheet) nodes p s u e = absurd s

-- a count that was told is not refused
count_told_by : (t : Option Fault) (k c m : ℕ) → ◌≡◌ {A = Result Answer Misplaced} (Ok (answer.Nodes k c)) (Ok (answer_of t (answer.Nodes k m))) → cond (is_none t) (Some m) None ≡ Some c
count_told_by (Some f) k c m e = let z : ◌≡◌ {A = ℕ} 0 1 = cc in absurd (omega arith)
count_told_by None k c m e = let q : c ≡ m = cc in ap Some (sym q)

count_least : (st : Stage) (nodes : List Node) (p : Plain) → StandsAt st nodes (opened p) → (k w c : ℕ) (f : Selection) → line p k ≡ Some f → count_if_told p k (length nodes) w ≡ Some c
    → CountIsLeast p nodes (get_or (lines_of st) k None) f (Some c)
count_least stage.Bare nodes p s k w c f e q = absurd s
count_least (stage.Open plan sheet) nodes p s k w c f e q = line_least plan.header nodes p s.holds k f e w (Some c) (sym q)
count_least (stage.Issued plan sheet) nodes p s k w c f e q = absurd s

whole : (st : Stage) (nodes : List Node) (p : Plain) → StandsAt st nodes (opened p) → p.size ≡ length nodes
whole stage.Bare nodes p s = absurd s
whole (stage.Open plan sheet) nodes p s = sym s.holds.whole
whole (stage.Issued plan sheet) nodes p s = absurd s

pub prices : PricesAsPromised
prices = record {
  used = λ d nodes p t o l bs u e. used_told d.stage (take p.size nodes) p o.plan u (let q : u ≡ used_of p = cc in q);
  count = λ d nodes p t o l bs k c f e q.
      let n = whole d.stage (take p.size nodes) p o.plan in
      let w = (sizes l t (opened p)).work in
      count_least d.stage (take p.size nodes) p o.plan k w c f e (subst (λ j. count_if_told p k j w ≡ Some c) n (count_told_by (count_told p k p.size w) k c (count_line p k) q));
}
