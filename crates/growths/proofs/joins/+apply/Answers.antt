use Rattle.std.proofs.Common.{◌≡◌, ◌+◌, Some, None, refl, ◌∙◌, rules}
use Rattle.model.specs.declared.Branch.TheVariants.{End as end}
use Rattle.model.specs.Diagrams.{code}
use Rattle.growths.specs.Codes.{code_join}
use Rattle.growths.proofs.Halves.{joins_of, adds_of}
use Rattle.growths.proofs.Joined.{join_last, join_ends, join_low_refused, join_passed, join_high_refused, join_node}
use Rattle.growths.proofs.joins.+apply.Goals as goal
use Rattle.growths.proofs.joins.+apply.Goals.{then-place-growing-via-then-place-growing, then-place-growing-via-else-place-growing+then-is_end-2}

pub returns-then-place-growing-clause-joins : goal.returns-then-place-growing-clause-joins
returns-then-place-growing-clause-joins g t c =
    elim c.then-place-growing.branch [
      | then-place-growing-via-then-place-growing w ↦ join_last (code_join g.J.Of.End.decoded g.J.Of.End.code g.J.Joining.joined) c.args.growing.now.pins c.args.place c.args.a c.args.b c.args.growing.now.nodes.now c.args.growing.now.marks.now c.args.growing.now.index.now w.if-place-growing.true c.joined_code.result c.joined_code.ensures
      | then-place-growing-via-else-place-growing+then-is_end-2 w ↦
          let ends : (c.args.a ≡ end (code c.args.a)) × (c.args.b ≡ end (code c.args.b)) = search rules in
          join_ends (code_join g.J.Of.End.decoded g.J.Of.End.code g.J.Joining.joined) c.args.growing.now.pins c.args.place c.args.a c.args.b c.args.growing.now.nodes.now c.args.growing.now.marks.now c.args.growing.now.index.now ends.0 ends.1 c.joined_code.result c.joined_code.ensures
    ]

pub returns-in_err-low-clause-joins : goal.returns-in_err-low-clause-joins
returns-in_err-low-clause-joins g t c =
    rw c.from_residual.ensures
    (join_low_refused (code_join g.J.Of.End.decoded g.J.Of.End.code g.J.Joining.joined) c.args.growing.now.pins c.args.place c.args.a c.args.b c.args.growing.now.nodes.now c.args.growing.now.marks.now c.args.growing.now.index.now
    c.if-place-growing.false c.step-low_a.result c.step-low_b.result c.step-high_a.result c.step-high_b.result c.step-low_a.ensures c.step-low_b.ensures c.step-high_a.ensures c.step-high_b.ensures
    c.apply.new.growing.nodes.now c.apply.new.growing.marks.now c.apply.new.growing.index.now c.in_err-low.ensures.joins)

pub returns-then-eq-2-clause-joins : goal.returns-then-eq-2-clause-joins
returns-then-eq-2-clause-joins g t c =
    join_passed (code_join g.J.Of.End.decoded g.J.Of.End.code g.J.Joining.joined) c.args.growing.now.pins c.args.place c.args.a c.args.b c.args.growing.now.nodes.now c.args.growing.now.marks.now c.args.growing.now.index.now
    c.if-place-growing.false c.step-low_a.result c.step-low_b.result c.step-high_a.result c.step-high_b.result c.step-low_a.ensures c.step-low_b.ensures c.step-high_a.ensures c.step-high_b.ensures
    c.apply.new.growing.nodes.now c.apply.new.growing.marks.now c.apply.new.growing.index.now c.in_ok-low.low c.in_ok-low.ensures.joins
    (search rules) (search rules)

pub returns-in_err-high-clause-joins : goal.returns-in_err-high-clause-joins
returns-in_err-high-clause-joins g t c =
    rw c.from_residual-in_err-high.ensures
    (join_high_refused (code_join g.J.Of.End.decoded g.J.Of.End.code g.J.Joining.joined) c.args.growing.now.pins c.args.place c.args.a c.args.b c.args.growing.now.nodes.now c.args.growing.now.marks.now c.args.growing.now.index.now
    c.if-place-growing.false c.step-low_a.result c.step-low_b.result c.step-high_a.result c.step-high_b.result c.step-low_a.ensures c.step-low_b.ensures c.step-high_a.ensures c.step-high_b.ensures
    c.apply.new.growing.nodes.now c.apply.new.growing.marks.now c.apply.new.growing.index.now c.in_ok-low.low c.in_ok-low.ensures.joins
    c.apply-2.new.growing.nodes.now c.apply-2.new.growing.marks.now c.apply-2.new.growing.index.now (joins_of c.apply.new.growing c.apply-2.new.growing c.args.growing.now.pins c.apply.new.growing.nodes.now c.apply.ensures.loans.pins refl (code_join g.J.Of.End.decoded g.J.Of.End.code g.J.Joining.joined) (c.args.place + 1) c.step-high_a.result c.step-high_b.result None c.in_err-high.ensures.joins))

pub returns-clause-joins : goal.returns-clause-joins
returns-clause-joins g t c =
    join_node (code_join g.J.Of.End.decoded g.J.Of.End.code g.J.Joining.joined) c.args.growing.now.pins c.args.place c.args.a c.args.b c.args.growing.now.nodes.now c.args.growing.now.marks.now c.args.growing.now.index.now
    c.if-place-growing.false c.step-low_a.result c.step-low_b.result c.step-high_a.result c.step-high_b.result c.step-low_a.ensures c.step-low_b.ensures c.step-high_a.ensures c.step-high_b.ensures
    c.apply.new.growing.nodes.now c.apply.new.growing.marks.now c.apply.new.growing.index.now c.in_ok-low.low c.in_ok-low.ensures.joins
    c.apply-2.new.growing.nodes.now c.apply-2.new.growing.marks.now c.apply-2.new.growing.index.now c.in_ok-high.high (joins_of c.apply.new.growing c.apply-2.new.growing c.args.growing.now.pins c.apply.new.growing.nodes.now c.apply.ensures.loans.pins refl (code_join g.J.Of.End.decoded g.J.Of.End.code g.J.Joining.joined) (c.args.place + 1) c.step-high_a.result c.step-high_b.result (Some c.in_ok-high.high) c.in_ok-high.ensures.joins)
    c.node_for.new.self.nodes.now c.node_for.new.self.marks.now c.node_for.new.self.index.now c.node_for.result
    (adds_of c.apply-2.new.growing c.node_for.new.self c.args.growing.now.pins c.apply-2.new.growing.nodes.now (c.apply-2.ensures.loans.pins ∙ c.apply.ensures.loans.pins) refl c.args.place c.in_ok-low.low c.in_ok-high.high c.node_for.result c.node_for.ensures.adds)
