use Rattle.std.proofs.Common.{Ok, ap, ◌∙◌}
use Rattle.settled.specs.Lines.{two_drawn, strapping, joining, strapped, joined}
use Rattle.settled.proofs.Chains.{strap_goes, strap_uses, strap_read, strap_ends, join_goes, count_goes, none_counted}
use Rattle.settled.proofs.Steps.{at_lengths, went, each_read, count_told_is}
use Rattle.settled.proofs.strap_and_join.strap_and_join_settle.Goals as goal

pub returns : goal.returns
returns c =
    let m₂ = c.draw_two.new.memory in
    let o₂ = c.in_ok-plan.ensures in
    let d₃ = at_lengths strapping 3 60 _ _ _ _ _ _ _ m₂.stocked m₂.roomy c.strap-strapped.ensures in
    let o₃ = d₃.leaves two_drawn o₂ in
    let n₃ = c.strap-strapped.auto.nodes ∙ m₂.stocked in
    let w₃ = c.strap-strapped.auto.work ∙ m₂.roomy in
    let d₄ = at_lengths joining 3 60 _ _ _ _ _ _ _ n₃ w₃ c.join-joined.ensures in
    let o₄ = d₄.leaves strapped o₃ in
    let n₄ = c.join-joined.auto.nodes ∙ n₃ in
    let w₄ = c.join-joined.auto.work ∙ w₃ in
    record {
      strapped = went _ (d₃.tells two_drawn o₂ ∙ strap_goes);
      ends = each_read _ _ strapped 2 3 o₃ n₃ _ strap_read c.read_each-ends.ensures ∙ strap_ends;
      used = c.used-used.ensures _ strapped o₃ ∙ strap_uses;
      joined = went _ (d₄.tells strapped o₃ ∙ join_goes);
      count = count_told_is _ _ joined 3 3 60 _ _ o₄ n₄ w₄ count_goes c.count-count.ensures ∙ ap Ok none_counted;
    }
