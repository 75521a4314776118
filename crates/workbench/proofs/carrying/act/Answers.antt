use Rattle.std.proofs.Common.{◌≡◌, min, length, take, ap, sym, ◌∙◌, subst}
use Rattle.rows.proofs.Running.{front_length}
use Rattle.scripts.specs.Requests.{act_of}
use Rattle.workbench.specs.declared.desk.Stage.{Stage}
use Rattle.workbench.specs.declared.desk.Lengths.{Lengths}
use Rattle.workbench.specs.Desks.{StandsAt, stage_pins, stage_nodes}
use Rattle.workbench.specs.Handing.{wanted, lengths_of}
use Rattle.workbench.proofs.Standings.{acted}
use Rattle.workbench.proofs.carrying.act.Goals as goal

pub returns-clause-acted : goal.returns-clause-acted
returns-clause-acted c = λ s o.
    let d = c.args.desk.now in
    let lent : Lengths = record { records = length c.args.tables.now.records.now; work = length c.args.tables.now.work.now } in
    let pins : c.sheet-sheet.result.pins ≡ stage_pins d.stage = c.sheet-sheet.ensures.pins ∙ ap stage_pins c.replace-stage.ensures.value in
    let nodes : c.sheet-sheet.result.nodes ≡ stage_nodes d.stage = c.sheet-sheet.ensures.nodes ∙ ap stage_nodes c.replace-stage.ensures.value in
    let lengths : c.lengths_of-lengths.result ≡ lengths_of d.lengths (stage_pins d.stage) (stage_nodes d.stage) lent =
    c.lengths_of-lengths.ensures ∙ ap (λ n. lengths_of d.lengths n c.sheet-sheet.result.nodes lent) pins ∙ ap (λ n. lengths_of d.lengths (stage_pins d.stage) n lent) nodes in
    let want = wanted d.lengths (stage_pins d.stage) (stage_nodes d.stage) in
    let count : c.min-count.result ≡ min (stage_nodes d.stage) (length c.args.tables.now.nodes.now) = c.min-count.ensures ∙ ap (λ n. min n (length c.args.tables.now.nodes.now)) nodes in
    acted d c.args.tables.now.nodes.now s o lent c.args.buffer.now c.min-count.result _ _ _ count
    (front_length (stage_nodes d.stage) c.min-count.result c.args.tables.now.nodes.now count ∙ sym count)
    (front_length want.records c.lengths_of-lengths.result.records c.args.tables.now.records.now (ap (λ (t : Lengths). t.records) lengths))
    (front_length want.work c.lengths_of-lengths.result.work c.args.tables.now.work.now (ap (λ (t : Lengths). t.work) lengths))
    (act_of c.args.call.now) c.args.bytes.now c.step-stage.result.0 c.step-stage.new.nodes c.step-stage.result.1 c.step-stage.new.buffer c.step-stage.auto.nodes
    (λ x t. c.step-stage.ensures x (subst (λ (y : Stage). StandsAt y (take c.min-count.result c.args.tables.now.nodes.now) x) (sym c.replace-stage.ensures.value) t))
