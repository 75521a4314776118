use Rattle.std.proofs.Common.{ℕ, refl}
use Rattle.plans.specs.Plain.{Call, erase}
use Rattle.rows.proofs.Running.{ran_handed, front_length}
use Rattle.rows.proofs.calls.EraseRow.run.Goals as goal

pub returns-clause-ran : goal.returns-clause-ran
returns-clause-ran c =
    let s = c.args.self.now in
    let cut = c.within-hand.result in
    let is = c.within-hand.ensures in
    let F : ℕ → ℕ → ℕ → Call = λ k m w. erase s.line k w in
    ran_handed F (λ k m w. refl) _ _ _ _ s.hand.nodes cut.nodes 0 0 _ _ is.nodes refl
    (front_length s.hand.work cut.work c.args.tables.now.work.now is.work)
    c.erase.result c.erase.ensures
