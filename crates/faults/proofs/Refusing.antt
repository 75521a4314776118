-- What it means that nothing is refused.
use Rattle.std.proofs.Common.{◌≡◌, ℕ, true, Some, None, Option, refl, arith}
use Rattle.faults.specs.declared.fault.Fault.{Fault}
use Rattle.faults.specs.Refusals.{or_else, is_none}

pub or_left : (a b : Option Fault) → or_else a b ≡ None → a ≡ None
or_left (Some f) b e = e
or_left None b e = refl

pub or_right : (a b : Option Fault) → or_else a b ≡ None → b ≡ None
or_right (Some f) b e = let z : ◌≡◌ {A = ℕ} 0 1 = cc in absurd (omega arith)
or_right None b e = e

pub none_of : {A : Type 0} (o : Option A) → is_none o ≡ true → o ≡ None
none_of (Some x) e = let z : ◌≡◌ {A = ℕ} 0 1 = cc in absurd (omega arith)
none_of None e = refl
