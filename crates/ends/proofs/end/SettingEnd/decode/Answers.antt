use Rattle.std.proofs.Common.{◌≡◌, ◌/◌, ◌%◌, true, ltb, Some, refl, ap, arith, lt-ltb}
use Rattle.ends.specs.Same.{same_setting}
use Rattle.ends.proofs.end.SettingEnd.decode.Goals as goal

pub returns-then-n-lt128 : goal.returns-then-n-lt128
returns-then-n-lt128 c =
    let below : ltb c.args.n 128 ≡ true = lt-ltb _ _ (omega arith) in
    let q : c.args.n / 8 ≡ c.args.n / 8 % 16 = omega arith in
    simp below (ap Some (same_setting _ _ _ _ _ _ _ _ q refl))
