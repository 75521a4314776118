-- Reading along an order.
use Rattle.std.proofs.Common.{◌≡◌, ℕ, ◌+◌, ◌<◌, ◌≤◌, List, length, get_or, drop, sym, ap, ◌∙◌, add-one, drop-cons}
use Rattle.std.proofs.lemmas.List.{at_drop_all}
use Rattle.model.specs.declared.Branch.{Branch}
use Rattle.model.specs.Selections.{pin}
use Rattle.model.specs.Diagrams.{Table, next, code, walk}

-- one pin of a walk
pub walk_on : (n : ℕ) (T : Table) (order : List ℕ) (d : ℕ) (b b' : Branch) (a : ℕ) → d < length order → b' ≡ next T d (pin n a (get_or order d 0)) b
    → walk n T (drop (d + 1) order) (d + 1) b' a ≡ walk n T (drop d order) d b a
walk_on n T order d b b' a l e =
    ap (λ x. walk n T (drop (d + 1) order) (d + 1) x a) e
    ∙ (ap (λ k. walk n T (drop k order) k (next T d (pin n a (get_or order d 0)) b) a) (add-one d) ∙ sym (ap (λ ps. walk n T ps d b a) (drop-cons order d 0 l)))

pub walk_end : (n : ℕ) (T : Table) (order : List ℕ) (d : ℕ) (b : Branch) (a : ℕ) → length order ≤ d → walk n T (drop d order) d b a ≡ code b
walk_end n T order d b a l = at_drop_all (λ ps. walk n T ps d b a) order d l
