use Rattle.std.proofs.Common.{ℕ, refl}
use Rattle.plans.specs.Plain.{Call, draw}
use Rattle.trees.specs.Mixed.{codes}
use Rattle.rows.proofs.Running.{ran_handed, front_length}
use Rattle.rows.proofs.calls.DrawRow.run.Goals as goal

pub returns-clause-ran : goal.returns-clause-ran
returns-clause-ran g c =
    let s = c.args.self.now in
    let cut = c.within-hand.result in
    let is = c.within-hand.ensures in
    let F : ℕ → ℕ → ℕ → Call = λ k m w. draw s.line (g.S.Source.width s.source) (codes g.S.Of.End.code (g.S.Source.selection s.source)) k m w in
    ran_handed F (λ k m w. refl) _ _ _ _ s.hand.nodes cut.nodes _ _ _ _ is.nodes
    (front_length s.hand.records cut.records c.args.tables.now.records.now is.records)
    (front_length s.hand.work cut.work c.args.tables.now.work.now is.work)
    c.draw.result c.draw.ensures
