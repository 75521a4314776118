use Rattle.std.proofs.Common.{◌∙◌}
use Rattle.plans.specs.Plain.{erase}
use Rattle.settled.specs.Lines.{two_drawn, still_two, erased}
use Rattle.settled.proofs.Chains.{three_used, third_refused, erase_goes, third_goes, two_used}
use Rattle.settled.proofs.Steps.{at_lengths, went, was_refused}
use Rattle.settled.proofs.third_line.third_line_settles.Goals as goal

pub returns : goal.returns
returns c =
    let o₂ = c.in_ok-plan.ensures in
    let d₃ = c.draw_file-drawn.ensures in
    let o₃ = d₃.leaves two_drawn o₂ in
    let m₃ = c.draw_file-drawn.new.memory in
    let d₄ = at_lengths (erase 0) 3 60 _ _ _ _ _ _ _ m₃.stocked m₃.roomy c.erase-erased.ensures in
    let o₄ = d₄.leaves still_two o₃ in
    let d₅ = c.draw_file-drawn_then.ensures in
    let o₅ = d₅.leaves erased o₄ in
    record {
      used = c.used-used.ensures _ two_drawn o₂ ∙ three_used;
      drawn = was_refused _ _ (d₃.tells two_drawn o₂ ∙ third_refused);
      erased = went _ (d₄.tells still_two o₃ ∙ erase_goes);
      drawn_then = went _ (d₅.tells erased o₄ ∙ third_goes);
      used_then = c.used-used_then.ensures _ _ o₅ ∙ two_used;
    }
