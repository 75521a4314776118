use Rattle.std.proofs.Common.{ℕ, refl}
use Rattle.plans.specs.Plain.{Call, strap}
use Rattle.rows.proofs.Running.{ran_handed, front_length}
use Rattle.rows.proofs.calls.StrapRow.run.Goals as goal

pub returns-clause-ran : goal.returns-clause-ran
returns-clause-ran c =
    let s = c.args.self.now in
    let cut = c.within-hand.result in
    let is = c.within-hand.ensures in
    let F : ℕ → ℕ → ℕ → Call = λ k m w. strap s.from s.pin s.high s.line k w in
    ran_handed F (λ k m w. refl) _ _ _ _ s.hand.nodes cut.nodes 0 0 _ _ is.nodes refl
    (front_length s.hand.work cut.work c.args.tables.now.work.now is.work)
    c.strap.result c.strap.ensures
