use Rattle.std.proofs.Common.{arith}
use Rattle.trees.specs.Records.{blank}
use Rattle.trees.proofs.Walk.{code_at_leaf, code_at_none, code_at_past, code_at_half}
use Rattle.trees.proofs.read.+code_below.Goals as goal

pub returns-in-Code : goal.returns-in-Code
returns-in-Code t c = code_at_leaf c.args.table.now c.args.half c.args.left c.args.address c.in-Code.code c.in-Code.is

pub returns-in_default : goal.returns-in_default
returns-in_default t c = code_at_past c.args.table.now c.args.half c.args.left c.args.address c.in-Split.i 0 c.in-Split.is c.in_default.ensures.lookup.3

pub returns-in_default-checked_sub : goal.returns-in_default-checked_sub
returns-in_default-checked_sub t c =
    let none = c.in_default-checked_sub.ensures in
    code_at_none c.args.table.now c.args.half c.args.left c.args.address c.in-Split.i 0 c.in-Split.is (omega (arith, none))

pub returns-in-Some-checked_sub : goal.returns-in-Some-checked_sub
returns-in-Some-checked_sub t c =
    code_at_half c.args.table.now c.args.half c.args.left c.args.address c.in-Split.i c.code_below.result c.in-Split.is c.in-Some.record.now c.in-Some-checked_sub.below c.bit.result c.side.result.now
    (c.in-Some.ensures.lookup.3.1 blank) c.in-Some-checked_sub.ensures c.bit.ensures c.side.ensures c.code_below.ensures
