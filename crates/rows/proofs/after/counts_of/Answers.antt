use Rattle.std.proofs.Common.{◌≡◌, length, refl, None, rules, arith}
use Rattle.rows.specs.Laws.{count_if_told}
use Rattle.plans.proofs.Runs.{each_call}
use Rattle.rows.proofs.after.counts_of.Goals as goal

pub returns : goal.returns
returns c p o d h =
    let plan = c.args.plan.now in
    let nodes = c.args.nodes.now in
    let work = length c.args.work.now in
    each_call _ (λ s. (s.0.now ≡ plan) × (s.1.now ≡ nodes) × (length s.2.now ≡ work)) (λ i y. y ≡ count_if_told p i (length nodes) work)
    (λ s i y t inv call. search rules) None _ _ 0 32 (refl, refl, refl) c.from_fn.ensures.items.each d (omega arith) (omega arith)
