use Rattle.std.proofs.Common.{◌≡◌, None}
use Rattle.files.specs.Verdict.{entries_fault}
use Rattle.files.proofs.fields.Fields.check.Given as goal

abbrev pub invariant-loop-i : goal.invariant-loop-i
invariant-loop-i l = entries_fault l.self.format l.self.bytes.now l.i ≡ None
