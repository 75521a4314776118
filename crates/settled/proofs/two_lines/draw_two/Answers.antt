use Rattle.settled.specs.Lines.{new_plan, one_drawn}
use Rattle.settled.proofs.Chains.{begun, first_goes, second_goes}
use Rattle.settled.proofs.Steps.{never_refused}
use Rattle.settled.proofs.two_lines.draw_two.Goals as goal

pub returns-in_err-draw_file : goal.returns-in_err-draw_file
returns-in_err-draw_file c =
    let o = begun _ _ c.args.memory.now.stocked c.in_ok-plan.ensures.holds in
    absurd (never_refused _ _ new_plan _ _ _ _ o first_goes c.in_err-draw_file.ensures)

pub returns-in_err-draw_file-2 : goal.returns-in_err-draw_file-2
returns-in_err-draw_file-2 c =
    let o = begun _ _ c.args.memory.now.stocked c.in_ok-plan.ensures.holds in
    let o₁ = c.in_ok-draw_file.ensures.leaves new_plan o in
    absurd (never_refused _ _ one_drawn _ _ _ _ o₁ second_goes c.in_err-draw_file-2.ensures)

pub returns : goal.returns
returns c =
    let o = begun _ _ c.args.memory.now.stocked c.in_ok-plan.ensures.holds in
    let o₁ = c.in_ok-draw_file.ensures.leaves new_plan o in
    c.in_ok-draw_file-2.ensures.leaves one_drawn o₁
