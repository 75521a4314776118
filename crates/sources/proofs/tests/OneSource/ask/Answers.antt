use Rattle.std.proofs.Common.{◌≡◌, ℕ, subst, arith, lit<, lit≤}
use Rattle.sources.specs.Blocks.{Differing}
use Rattle.sources.specs.Examples.{switch_at_1}
use Rattle.sources.proofs.tests.OneSource.ask.Goals as goal

both_ends : Differing 1 switch_at_1 0 0
both_ends = record {
  inside = record { level = lit≤ tt; block = lit< tt };
  left = 0;
  right = 1;
  left_in = lit< tt;
  right_in = lit< tt;
  differ = λ e. let z : ◌≡◌ {A = ℕ} 0 1 = cc in omega arith;
}

pub returns-in-0-eq0 : goal.returns-in-0-eq0
returns-in-0-eq0 c =
    let j : 0 ≡ c.args.block.level = omega arith in
    let p : 0 ≡ c.args.block.number = omega arith in
    subst (λ (x : ℕ). Differing 1 switch_at_1 x c.args.block.number) j (subst (λ (x : ℕ). Differing 1 switch_at_1 0 x) p both_ends)
