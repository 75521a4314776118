-- One pin more of an order.
use Rattle.std.proofs.Common.{ℕ, List, ◌++◌, Ok, Result}
use Rattle.scripts.specs.declared.mistake.Mistake.{Mistake}
use Rattle.scripts.specs.Mistakes.{◌>>=◌}

-- the pins read so far stand before those that are left
abbrev pub with_front : List ℕ → Result (List ℕ) Mistake → Result (List ℕ) Mistake
with_front ps r = r >>= λ qs. Ok (ps ++ qs)
