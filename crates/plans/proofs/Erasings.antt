-- Erasing a line.
use Rattle.std.proofs.Common.{Some, ◌≡◌, ℕ, List, length, get_or, set, None, Ok, Err, sym, refl, inl, inr, arith}
use Rattle.faults.specs.declared.fault.Fault.{Fault}
use Rattle.faults.specs.declared.fault.Ground.TheVariants.{LineEmpty}
use Rattle.faults.specs.Refusals.{at}
use Rattle.model.specs.declared.Branch.{Branch}
use Rattle.model.specs.declared.Node.{Node}
use Rattle.model.specs.Lists.{In, held}
use Rattle.model.specs.Diagrams.{listed, Means, From}
use Rattle.plans.specs.declared.header.Header.{Header}
use Rattle.plans.specs.Plain.{Plain, pins, erase, with_line, count_refusal, input_refusal}
use Rattle.plans.specs.Holding.{Holds, Did}
use Rattle.plans.specs.Settling.{Put}
use Rattle.plans.proofs.Holdings.{not_turned, roots_from}
use Rattle.plans.proofs.Reckonings.{count_empty, count_told_held}
use Rattle.plans.proofs.Rebuilding.{lines_set, in_set, put_holds, refused_leaves, accepted_leaves}

module _ (h : Header) (nodes : List Node) (d work : ℕ) (clear : None ≡ count_refusal h.pins h.size d (length nodes) work) where
  pub erase_empty : (f : Fault) → get_or h.lines d None ≡ None → f ≡ at LineEmpty d → Did h nodes (erase d (length nodes) work) (Err f) h nodes
  erase_empty f e q = record {
    turned = λ p heads g t. not_turned h p heads (λ n size. input_refusal n size (erase d (length nodes) work)) clear g t;
    tells = λ p o. sym (count_empty h nodes p o d (length nodes) work clear f e q);
    leaves = λ p o. refused_leaves h nodes p (erase d (length nodes) work) f (count_empty h nodes p o d (length nodes) work clear f e q) o;
    stand = λ p o i r. refl;
    same = λ g z. refl;
  }

  module _ (h' : Header) (b : Branch) (held_b : get_or h.lines d None ≡ Some b) (put : Put h nodes d None h') where
    module _ (p : Plain) (o : Holds h nodes p) where
      from' : (x : Branch) → In x (held ((set h.lines d None))) → From (λ i. In i o.reachable) (listed nodes) 0 x
      from' x m =
          elim (in_set x h.lines d None m) [
            | inl q ↦ roots_from h nodes p o x q
            | inr q ↦ (let z : ◌≡◌ {A = ℕ} 0 1 = cc in absurd (omega arith))
          ]

      erased : Holds h' nodes (with_line p d None)
      erased =
          put_holds h nodes p o.heads d None None h' put o.whole o.reachable o.ordered o.reduced from'
          (lines_set (Means (pins p) (listed nodes) p.order) h.lines p.lines d None None o.lines tt)

    pub erase_held : Did h nodes (erase d (length nodes) work) (Ok tt) h' nodes
    erase_held = record {
      turned = λ p heads g t. not_turned h p heads (λ n size. input_refusal n size (erase d (length nodes) work)) clear g t;
      tells = λ p o. sym (count_told_held h nodes p o d (length nodes) work clear b held_b);
      leaves = λ p o. accepted_leaves h' nodes p (erase d (length nodes) work) (count_told_held h nodes p o d (length nodes) work clear b held_b) (erased p o);
      stand = λ p o i r. refl;
      same = λ g z. let y : ◌≡◌ {A = ℕ} 0 1 = cc in absurd (omega arith);
    }
