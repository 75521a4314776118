-- Rows of requests.
use Rattle.std.specs.Prelude.{ℕ, List, [], ◌∷◌}
use Rattle.scripts.specs.Requests.{asked}
use Rattle.workbench.specs.declared.running.Given.{Given}
use Rattle.workbench.specs.Calls.{Handed}
use Rattle.workbench.specs.Desks.{Situation}
use Rattle.workbench.specs.Requests.{next, request_shown}

-- what is left after a row, with these tables lent
abbrev pub runs : (lent : Handed) → Situation → List Given → Situation
runs l s [] = s
runs l s (g ∷ gs) = runs l (next l s (asked g.request) g.bytes.items) gs

-- what the row leaves in a buffer, each request in what the ones before it left there
abbrev pub row_shown : (lent : Handed) → Situation → List Given → (buffer : List ℕ) → List ℕ
row_shown l s [] buffer = buffer
row_shown l s (g ∷ gs) buffer = row_shown l (next l s (asked g.request) g.bytes.items) gs (request_shown l s (asked g.request) buffer)
