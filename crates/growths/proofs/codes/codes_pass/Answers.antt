use Rattle.std.proofs.Common.{sym, ◌∙◌, arith}
use Rattle.growths.specs.Codes.{decodes}
use Rattle.growths.proofs.Passing.{fails_length, fails_root, passes_marked}
use Rattle.growths.proofs.codes.codes_pass.Goals as goal
use Rattle.growths.proofs.codes.codes_pass.Goals.{then-marks-nodes-via-then-marks-nodes, then-marks-nodes-via-else-marks-nodes+then-not-end_decodes}

pub returns-then-marks-nodes : goal.returns-then-marks-nodes
returns-then-marks-nodes g c =
    elim c.then-marks-nodes.branch [
      | then-marks-nodes-via-then-marks-nodes w ↦ fails_length (decodes g.E.End.decoded) c.args.pins c.args.nodes.now c.args.marks.now c.args.root w.if-marks-nodes.true
      | then-marks-nodes-via-else-marks-nodes+then-not-end_decodes w ↦
          fails_root (decodes g.E.End.decoded) c.args.pins c.args.nodes.now c.args.marks.now c.args.root (sym w.end_decodes.ensures ∙ w.if-not-end_decodes.true)
    ]

pub returns : goal.returns
returns g c =
    passes_marked (decodes g.E.End.decoded) c.args.pins c.args.nodes.now c.args.marks.now c.args.root c.mark_roots.new.marks (omega arith) c.mark_roots.ensures
    (sym c.end_decodes.ensures ∙ c.if-not-end_decodes.false) c.marked_decode.result c.marked_decode.ensures
