use Rattle.std.proofs.Common.{◌^◌, ◌≤◌, arith, pow_mono}
use Rattle.std.proofs.lemmas.Bool.Decides.{nat_tests}
use Rattle.files.proofs.fields.Fields.has_address.Goals as goal

pub returns-then-pins-ge32 : goal.returns-then-pins-ge32
returns-then-pins-ge32 c =
    let many : 32 ≤ c.pin_count-pins.result = grind (arith, nat_tests, c.if-pins-ge32.true) in
    let all : 2 ^ 32 ≤ 2 ^ c.pin_count-pins.result = pow_mono many in
    rw c.pin_count-pins.ensures (grind (arith, nat_tests, all, many, c.ranges.address.fits))
