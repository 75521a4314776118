-- Rows that stay in the memory that was lent.
use Rattle.std.proofs.Common.{◌∙◌}
use Rattle.listings.specs.declared.row.Row.{Row}
use Rattle.listings.specs.Rows.{KeepsLoan}

pub kept_on : {T : Type 0} {a b c : Row T} → KeepsLoan a b → KeepsLoan b c → KeepsLoan a c
kept_on h k = record { memory = k.memory ∙ h.memory; room = k.room ∙ h.room }
