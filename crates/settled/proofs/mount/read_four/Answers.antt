use Rattle.std.proofs.Common.{Ok, ap, ◌∙◌}
use Rattle.settled.specs.Lines.{new_plan}
use Rattle.settled.proofs.Chains.{begun, alone_read, alone_ends}
use Rattle.settled.proofs.Steps.{draw_at_lengths, never_refused, each_read}
use Rattle.settled.proofs.mount.read_four.Goals as goal

pub returns-in_err-draw : goal.returns-in_err-draw
returns-in_err-draw g c = λ goes.
    let m = c.blank-memory.result in
    let d = draw_at_lengths _ _ _ _ _ _ _ _ _ _ m.stocked m.recorded m.roomy c.in_err-draw.ensures in
    absurd (never_refused _ _ new_plan _ _ _ _ (begun _ _ m.stocked c.in_ok-plan.ensures.holds) goes d)

pub returns : goal.returns
returns g c = λ goes.
    let m = c.blank-memory.result in
    let d = draw_at_lengths _ _ _ _ _ _ _ _ _ _ m.stocked m.recorded m.roomy c.in_ok-draw.ensures in
    let o = d.leaves new_plan (begun _ _ m.stocked c.in_ok-plan.ensures.holds) in
    ap Ok (each_read _ _ _ 0 3 o (c.draw.auto.nodes ∙ m.stocked) _ (alone_read _ _ goes) c.read_each.ensures ∙ alone_ends _ _ goes)
