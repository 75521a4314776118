use Rattle.std.proofs.Common.{◌≡◌, ℕ, subst, arith, lit<, lit≤}
use Rattle.sources.specs.Blocks.{Differing}
use Rattle.row_tests.specs.Lamps.{dawn}
use Rattle.row_tests.proofs.dawn.DawnSource.ask.Goals as goal

whole : Differing 2 dawn 0 0
whole = record {
  inside = record { level = lit≤ tt; block = lit< tt };
  left = 0;
  right = 2;
  left_in = lit< tt;
  right_in = lit< tt;
  differ = λ e. let z : ◌≡◌ {A = ℕ} 0 1 = cc in omega arith;
}

high_half : Differing 2 dawn 1 1
high_half = record {
  inside = record { level = lit≤ tt; block = lit< tt };
  left = 0;
  right = 1;
  left_in = lit< tt;
  right_in = lit< tt;
  differ = λ e. let z : ◌≡◌ {A = ℕ} 0 1 = cc in omega arith;
}

placed : (j p j' p' : ℕ) → j ≡ j' → p ≡ p' → Differing 2 dawn j p → Differing 2 dawn j' p'
placed j p j' p' e q d = subst (λ (x : ℕ). Differing 2 dawn x p') e (subst (λ (x : ℕ). Differing 2 dawn j x) q d)

pub returns-in-0-eq0 : goal.returns-in-0-eq0
returns-in-0-eq0 c =
    let j : 0 ≡ c.args.block.level = omega arith in
    let p : 0 ≡ c.args.block.number = omega arith in
    placed 0 0 c.args.block.level c.args.block.number j p whole

pub returns-in-1-eq1 : goal.returns-in-1-eq1
returns-in-1-eq1 c =
    let j : 1 ≡ c.args.block.level = omega arith in
    let p : 1 ≡ c.args.block.number = omega arith in
    placed 1 1 c.args.block.level c.args.block.number j p high_half
