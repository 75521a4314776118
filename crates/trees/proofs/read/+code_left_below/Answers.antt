use Rattle.std.proofs.Common.{arith}
use Rattle.trees.specs.Records.{blank}
use Rattle.trees.proofs.Walk.{left_at_leaf, left_at_none, left_at_past, left_at_mixed, left_at_fixed, left_at_low_two, left_at_high_two, left_at_both}
use Rattle.trees.proofs.read.+code_left_below.Goals as goal

pub returns-in-Code : goal.returns-in-Code
returns-in-Code t c = left_at_leaf c.args.table.now c.args.half.now c.args.left c.args.bits.mask c.args.bits.value c.in-Code.code c.in-Code.is

pub returns-in_err-record-in-Split : goal.returns-in_err-record-in-Split
returns-in_err-record-in-Split t c = left_at_past c.args.table.now c.args.half.now c.args.left c.args.bits.mask c.args.bits.value c.in-Split.i c.in-Split.is c.from_residual.result c.in_err-record-in-Split.ensures.lookup.3

pub returns-in_err-below-in-Split : goal.returns-in_err-below-in-Split
returns-in_err-below-in-Split t c =
    let none = c.in_err-below-in-Split.ensures in
    left_at_none c.args.table.now c.args.half.now c.args.left c.args.bits.mask c.args.bits.value c.in-Split.i c.in-Split.is c.from_residual-in_err-below-in-Split.result (omega (arith, none))

pub returns-then-bits-left-eq0 : goal.returns-then-bits-left-eq0
returns-then-bits-left-eq0 t c = left_at_mixed c.args.table.now c.args.half.now c.args.left c.args.bits.mask c.args.bits.value c.in-Split.i c.in-Split.is (omega arith) c.if-bits-left-eq0.true

pub returns-in-Some : goal.returns-in-Some
returns-in-Some t c =
    left_at_fixed c.args.table.now c.args.half.now c.args.left c.args.bits.mask c.args.bits.value c.in-Split.i c.in-Split.is c.in_ok-record-in-Split.record.now c.in_ok-below-in-Split.below (c.in_ok-record-in-Split.ensures.lookup.3.1 blank) c.in_ok-below-in-Split.ensures
    c.in-Some.high c.side.result.now c.code_left_below.result c.in-Some.ensures c.side.ensures c.code_left_below.ensures

pub returns-in_err-low-in-Split : goal.returns-in_err-low-in-Split
returns-in_err-low-in-Split t c =
    rw c.from_residual-in_err-low-in-Split.ensures (left_at_low_two c.args.table.now c.args.half.now c.args.left c.args.bits.mask c.args.bits.value c.in-Split.i c.in-Split.is c.in_ok-record-in-Split.record.now c.in_ok-below-in-Split.below (c.in_ok-record-in-Split.ensures.lookup.3.1 blank) c.in_ok-below-in-Split.ensures c.in_default.ensures c.in_err-low-in-Split.ensures)

pub returns-in_err-high-in-Split : goal.returns-in_err-high-in-Split
returns-in_err-high-in-Split t c =
    rw c.from_residual-in_err-high-in-Split.ensures (left_at_high_two c.args.table.now c.args.half.now c.args.left c.args.bits.mask c.args.bits.value c.in-Split.i c.in-Split.is c.in_ok-record-in-Split.record.now c.in_ok-below-in-Split.below (c.in_ok-record-in-Split.ensures.lookup.3.1 blank) c.in_ok-below-in-Split.ensures c.in_default.ensures c.in_err-high-in-Split.ensures)

pub returns-in_ok-high-in-Split : goal.returns-in_ok-high-in-Split
returns-in_ok-high-in-Split t c =
    left_at_both c.args.table.now c.args.half.now c.args.left c.args.bits.mask c.args.bits.value c.in-Split.i c.in-Split.is c.in_ok-record-in-Split.record.now c.in_ok-below-in-Split.below (c.in_ok-record-in-Split.ensures.lookup.3.1 blank) c.in_ok-below-in-Split.ensures c.in_default.ensures
    c.in_ok-low-in-Split.low c.in_ok-high-in-Split.high c.agreed.result c.agreed.ensures c.in_ok-low-in-Split.ensures c.in_ok-high-in-Split.ensures
