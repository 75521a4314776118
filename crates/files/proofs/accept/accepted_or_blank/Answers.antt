use Rattle.std.proofs.Common.{◌≡◌, ℕ, cond, List, None, sym, ap, ◌∙◌, subst}
use Rattle.faults.specs.Refusals.{is_none}
use Rattle.files.specs.Verdict.{fault, blank}
use Rattle.files.proofs.Obeying.{blank_good}
use Rattle.files.proofs.accept.accepted_or_blank.Goals as goal

pub returns-in-Err : goal.returns-in-Err
returns-in-Err c =
    let k = c.args.format in
    let e = c.in-Err.ensures.first in
    record {
      value = c.blank_file.ensures ∙ sym (ap (λ o. cond (is_none o) c.args.bytes.now (blank k)) e);
      good = subst (λ (bs : List ℕ). fault k bs ≡ None) (sym c.blank_file.ensures) (blank_good k);
    }
