use Rattle.std.proofs.Common.{arith}
use Rattle.std.proofs.lemmas.Result.{err_from_is_err_and}
use Rattle.files.proofs.Scans.{entries_more, fault_at}
use Rattle.files.proofs.fields.Fields.check.Goals as goal

pub returns-in_err-check_entry : goal.returns-in_err-check_entry
returns-in_err-check_entry c =
    let p = err_from_is_err_and c.from_residual-in_err-check_entry.result c.from_residual-in_err-check_entry.ensures.1 in
    rw (p.1, p.2) (fault_at c.args.self.now.format c.args.self.now.bytes.now c.loop-i.i _ c.in_ok-check_header.ensures c.loop-i.invariant c.in_err-check_entry.ensures (omega arith))

pub loop-i-preserved : goal.loop-i-preserved
loop-i-preserved c = entries_more c.args.self.now.format c.args.self.now.bytes.now c.loop-i.i c.loop-i.invariant c.in_ok-check_entry.ensures
