-- One request more of a row.
use Rattle.std.proofs.Common.{◌≡◌, ℕ, suc, ◌+◌, ◌<◌, ◌≤◌, List, ◌∷◌, length, drop, get_or, Result, sym, ap, ◌∙◌, subst, add-one, drop-cons}
use Rattle.std.proofs.lemmas.List.{drop_all}
use Rattle.model.specs.declared.Node.{Node}
use Rattle.scripts.specs.Requests.{asked}
use Rattle.workbench.specs.declared.answer.Answer.{Answer}
use Rattle.workbench.specs.declared.answer.Misplaced.{Misplaced}
use Rattle.workbench.specs.declared.desk.Desk.{Desk}
use Rattle.workbench.specs.declared.running.Given.{Given}
use Rattle.workbench.specs.Calls.{Handed}
use Rattle.workbench.specs.Desks.{Situation, Stands}
use Rattle.workbench.specs.Requests.{next, Carried}
use Rattle.workbench.specs.Rows.{runs, row_shown}

-- what stands and what is in the buffer, of which the rest of the row makes what the whole row makes of what there was
pub record Midway (l : Handed) (s : Situation) (row : List Given) (buffer : List ℕ) (i : ℕ) (d : Desk) (nodes : List Node) (buffer' : List ℕ) : Type 0 where
  pub now : Situation
  pub stands : Stands d nodes now
  pub rest : runs l now (drop i row) ≡ runs l s row
  pub rest_shown : row_shown l now (drop i row) buffer' ≡ row_shown l s row buffer

module _ (l : Handed) (s : Situation) (row : List Given) (buffer : List ℕ) (i : ℕ) where
  pub one_more : (g : Given) (d d' : Desk) (nodes nodes' : List Node) (b b' : List ℕ) (r : Result Answer Misplaced) → i < length row → g ≡ get_or row i g → (m : Midway l s row buffer i d nodes b)
      → Carried l m.now (asked g.request) g.bytes.items b d' nodes' r b' → Midway l s row buffer (i + 1) d' nodes' b'
  one_more g d d' nodes nodes' b b' r h is m o =
      let front : drop i row ≡ g ∷ drop (i + 1) row = drop-cons row i g h ∙ ap (λ x. x ∷ drop (suc i) row) (sym is) ∙ ap (λ k. g ∷ drop k row) (sym (add-one i)) in
      let after = next l m.now (asked g.request) g.bytes.items in
      record {
        now = after;
        stands = o.stands;
        rest = ap (runs l m.now) (sym front) ∙ m.rest;
        rest_shown = ap (row_shown l after (drop (i + 1) row)) o.wrote ∙ ap (λ (gs : List Given). row_shown l m.now gs b) (sym front) ∙ m.rest_shown;
      }

  module _ (d : Desk) (nodes : List Node) (b : List ℕ) (h : length row ≤ i) (m : Midway l s row buffer i d nodes b) where
    pub at_end : Stands d nodes (runs l s row)
    at_end = subst (Stands d nodes) (ap (runs l m.now) (sym (drop_all i row h)) ∙ m.rest) m.stands

    pub shown_at_end : b ≡ row_shown l s row buffer
    shown_at_end = ap (λ (gs : List Given). row_shown l m.now gs b) (sym (drop_all i row h)) ∙ m.rest_shown
