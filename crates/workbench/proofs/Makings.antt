-- New plans, and the refusal of one with too many nodes.
use Rattle.std.proofs.Common.{◌≡◌, ℕ, zero, suc, ◌<◌, ◌≤◌, Bool, true, false, cond, ◌||◌, ◌&&◌, ltb, leb, List, length, take, Some, None, Ok, Err, Option, if◌then◌else◌, sym, refl, ap, ◌∙◌, subst, arith, length-take, lt-ltb, ltb-true}
use Rattle.faults.specs.declared.fault.Fault.{Fault}
use Rattle.faults.specs.declared.fault.Ground.{Ground}
use Rattle.faults.specs.declared.fault.Ground.TheVariants as ground
use Rattle.faults.specs.Refusals.{at, refuse_if, or_else, is_none}
use Rattle.model.specs.declared.Node.{Node}
use Rattle.plans.specs.declared.open.Open.{Open}
use Rattle.plans.specs.declared.plan.Plan.{Plan}
use Rattle.plans.specs.Holding.{Holds, Made}
use Rattle.plans.specs.Orders.{misplaced, misplaced_below}
use Rattle.plans.specs.Plain.{empty_plan, make_told}
use Rattle.scripts.proofs.Wording.{or_some}
use Rattle.workbench.specs.declared.answer.Answer.TheVariants as answer
use Rattle.workbench.specs.declared.answer.Misplaced.TheVariants as why
use Rattle.workbench.specs.declared.desk.Stage.TheVariants as stage
use Rattle.workbench.specs.declared.desk.Lengths.{Lengths}
use Rattle.workbench.specs.declared.sheet.Sheet.{Sheet}
use Rattle.workbench.specs.Calls.{handed, answer_of}
use Rattle.workbench.specs.Desks.{Bench, opened, Situation, Sits, StandsAt, bench_nodes}
use Rattle.workbench.specs.Requests.{begun, Begun}
use Rattle.workbench.specs.Telling.{retold}

some_none : {B : Type 0} (f : Fault) → ◌≡◌ {A = Option Fault} (Some f) None → B
some_none f e = let z : ◌≡◌ {A = ℕ} 0 1 = cc in absurd (omega arith)

-- a pin that is misplaced is refused as such
pin_ground : (order : List ℕ) (k : ℕ) (f : Fault) → misplaced_below order k ≡ Some f → f.ground ≡ ground.OrderPin
pin_ground order zero f e = some_none f (sym e)
pin_ground order (suc k) f e = by_first (misplaced_below order k) (λ g q. pin_ground order k g q) (misplaced order k) refl e
  where
    by_here : (b : Bool) → refuse_if b (at ground.OrderPin k) None ≡ Some f → f.ground ≡ ground.OrderPin
    by_here true q = let g : at ground.OrderPin k ≡ f = cc in ap (λ (x : Fault). x.ground) (sym g)
    by_here false q = some_none f (sym q)

    by_first : (t : Option Fault) → ((g : Fault) → t ≡ Some g → g.ground ≡ ground.OrderPin) → (b : Bool) → misplaced order k ≡ b → or_else t (refuse_if b (at ground.OrderPin k) None) ≡ Some f → f.ground ≡ ground.OrderPin
    by_first (Some g) h b q e = h f e
    by_first None h b q e = by_here b e

retold_pin : (f : Fault) (n : ℕ) → f.ground ≡ ground.OrderPin → retold f.ground f n ≡ f
retold_pin f n e = ap (λ (g : Ground). retold g f n) e

module _ (order : List ℕ) (n : ℕ) (many : 4096 < n) where
  too_many : (ltb n 1 || ltb 4096 n) ≡ true
  too_many = or_some (ltb n 1) (ltb 4096 n) (lt-ltb 4096 n many)

  table_told : refuse_if (ltb n 1 || ltb 4096 n) (at ground.NodeTable n) None ≡ Some (at ground.NodeTable n)
  table_told = ap (λ b. refuse_if b (at ground.NodeTable n) None) too_many

  by_pins : (t : Option Fault) → ((g : Fault) → t ≡ Some g → g.ground ≡ ground.OrderPin) → (f : Fault) → or_else t (Some (at ground.NodeTable 0)) ≡ Some f
      → or_else t (refuse_if (ltb n 1 || ltb 4096 n) (at ground.NodeTable n) None) ≡ Some (retold f.ground f n)
  by_pins (Some g) h f e = let q : g ≡ f = cc in ap Some (q ∙ sym (retold_pin f n (h f e)))
  by_pins None h f e = let q : at ground.NodeTable 0 ≡ f = cc in table_told ∙ ap (λ (x : Fault). Some (retold x.ground x n)) q

  by_length : (b : Bool) (f : Fault) → refuse_if b (at ground.OrderLength (length order)) (or_else (misplaced_below order (length order)) (Some (at ground.NodeTable 0))) ≡ Some f
      → refuse_if b (at ground.OrderLength (length order)) (or_else (misplaced_below order (length order)) (refuse_if (ltb n 1 || ltb 4096 n) (at ground.NodeTable n) None)) ≡ Some (retold f.ground f n)
  by_length true f e = let q : at ground.OrderLength (length order) ≡ f = cc in ap (λ (x : Fault). Some (retold x.ground x n)) q
  by_length false f e = by_pins (misplaced_below order (length order)) (pin_ground order (length order)) f e

  pub many_told : (f : Fault) → make_told order 0 ≡ Some f → make_told order n ≡ Some (retold f.ground f n)
  many_told f e = by_length (ltb (length order) 1 || ltb 20 (length order)) f e

  pub none_made : {B : Type 0} → make_told order 0 ≡ None → B
  none_made e = by_refusal (ltb (length order) 1 || ltb 20 (length order)) (misplaced_below order (length order)) e
    where
      by_refusal : {B : Type 0} (b : Bool) (t : Option Fault) → refuse_if b (at ground.OrderLength (length order)) (or_else t (Some (at ground.NodeTable 0))) ≡ None → B
      by_refusal true t q = some_none (at ground.OrderLength (length order)) q
      by_refusal false (Some g) q = some_none g q
      by_refusal false None q = some_none (at ground.NodeTable 0) q

-- a plan that was made over the first nodes of a table
module _ (order : List ℕ) (n : ℕ) (nodes : List Node) (enough : n ≤ length nodes) (plan : Plan Open) (made : Made order (take n nodes) plan.header) (sheet : Sheet) (pins : sheet.pins ≡ length order) (size : sheet.nodes ≡ n) where
  long : length (take n nodes) ≡ n
  long = length-take n nodes ∙ (omega arith)

  told : make_told order n ≡ None
  told = ap (make_told order) (sym long) ∙ made.accepted

  lent : ltb (length nodes) n ≡ false
  lent = by_test (ltb (length nodes) n) refl
    where
      by_test : (b : Bool) → ltb (length nodes) n ≡ b → ltb (length nodes) n ≡ false
      by_test true e = let h = ltb-true (length nodes) n e in absurd (omega arith)
      by_test false e = e

  module _ (r w b : ℕ) (s : Situation) where
    begins : begun (handed (length nodes) r w b) s.bench n order ≡ opened (empty_plan order n)
    begins = ap (λ x. if (x && leb n 4096) then s.bench else cond (is_none (make_told order n)) (opened (empty_plan order n)) s.bench) lent
        ∙ ap (λ (x : Option Fault). cond (is_none x) (opened (empty_plan order n)) s.bench) told

    sits : Sits plan.header sheet (take n nodes) (empty_plan order n)
    sits = record { holds = subst (λ k. Holds plan.header (take n nodes) (empty_plan order k)) long made.holds; pins = pins; size = size }

    pub plan_begun : (t : Option Lengths) → t ≡ s.lengths → Begun (handed (length nodes) r w b) s n order (record { stage = stage.Open plan sheet; lengths = t }) nodes (Ok answer.Done)
    plan_begun t same = record {
      stands = record {
        plan = subst (λ (x : Bench). StandsAt (stage.Open plan sheet) (take (bench_nodes x) nodes) x) (sym begins) sits;
        lengths = same;
      };
      answers = sym (ap (λ x. if (x && leb n 4096) then Err why.FewNodes else Ok (answer_of (make_told order n) answer.Done)) lent ∙ ap (λ (x : Option Fault). Ok (answer_of x answer.Done)) told);
    }
