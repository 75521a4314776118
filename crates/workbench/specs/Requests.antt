-- What each request of a script leaves and answers.
use Rattle.std.specs.Prelude.{◌≡◌, ℕ, Bool, cond, ◌&&◌, if◌then◌else◌, List, Some, Ok, Err, Option, Result, nat_lt, nat_le}
use Rattle.faults.specs.Refusals.{is_none}
use Rattle.model.specs.declared.Node.{Node}
use Rattle.plans.specs.Plain.{empty_plan, make_told}
use Rattle.scripts.specs.Requests as script
use Rattle.scripts.specs.Requests.{Act, Asked}
use Rattle.workbench.specs.declared.answer.Answer.{Answer}
use Rattle.workbench.specs.declared.answer.Answer.TheVariants as answer
use Rattle.workbench.specs.declared.answer.Misplaced.{Misplaced}
use Rattle.workbench.specs.declared.answer.Misplaced.TheVariants as why
use Rattle.workbench.specs.declared.desk.Desk.{Desk}
use Rattle.workbench.specs.declared.desk.Lengths.{Lengths}
use Rattle.workbench.specs.Calls.{Handed, handed, answer_of, moved, Answered, shown}
use Rattle.workbench.specs.Desks.{Bench, opened, Situation, Stands, bench_pins, bench_nodes}
use Rattle.workbench.specs.Handing.{lengths_of}

-- what a call on a plan is handed of all that is lent
abbrev pub sizes : (lent : Handed) → Option Lengths → Bench → Handed
sizes l set b =
    let t = lengths_of set (bench_pins b) (bench_nodes b) (record { records = l.records; work = l.work }) in
    handed (bench_nodes b) t.records t.work l.buffer

-- fewer nodes are lent than the plan is to have, though a plan may have so many
abbrev pub lacks : (lent : Handed) → (nodes : ℕ) → Bool
lacks l n = nat_lt l.nodes n && nat_le n 4096

-- a new plan, with the former let go; a refused one leaves what there was
abbrev pub begun : Handed → Bench → (nodes : ℕ) → (order : List ℕ) → Bench
begun l b n order = if lacks l n then b else cond (is_none (make_told order n)) (opened (empty_plan order n)) b

-- what is left
abbrev pub next : Handed → Situation → Asked → List ℕ → Situation
next l s (script.plan n order) bs = record { bench = begun l s.bench n order; lengths = s.lengths }
next l s (script.tables r w) bs = record { bench = s.bench; lengths = Some (record { records = r; work = w }) }
next l s (script.act a) bs = record { bench = moved (sizes l s.lengths s.bench) s.bench a bs; lengths = s.lengths }

-- what is answered
abbrev pub RequestAnswered : Handed → Situation → Asked → List ℕ → Result Answer Misplaced → Type 0
RequestAnswered l s (script.plan n order) bs r = r ≡ (if lacks l n then Err why.FewNodes else Ok (answer_of (make_told order n) answer.Done))
RequestAnswered l s (script.tables records work) bs r = r ≡ Ok answer.Done
RequestAnswered l s (script.act a) bs r = Answered (sizes l s.lengths s.bench) s.bench a bs r

-- what is left in the buffer
abbrev pub request_shown : Handed → Situation → Asked → List ℕ → List ℕ
request_shown l s (script.act a) buffer = shown (sizes l s.lengths s.bench) s.bench a buffer
request_shown l s _ buffer = buffer

-- a plan that was begun, or not
pub record Begun (l : Handed) (s : Situation) (n : ℕ) (order : List ℕ) (desk : Desk) (nodes : List Node) (r : Result Answer Misplaced) : Type 0 where
  pub stands : Stands desk nodes (record { bench = begun l s.bench n order; lengths = s.lengths })
  pub answers : r ≡ (if lacks l n then Err why.FewNodes else Ok (answer_of (make_told order n) answer.Done))

-- a call that was carried out
pub record Acted (l : Handed) (s : Situation) (a : Act) (bs buffer : List ℕ) (desk : Desk) (nodes : List Node) (r : Result Answer Misplaced) (buffer' : List ℕ) : Type 0 where
  pub stands : Stands desk nodes (record { bench = moved (sizes l s.lengths s.bench) s.bench a bs; lengths = s.lengths })
  pub answers : Answered (sizes l s.lengths s.bench) s.bench a bs r
  pub wrote : buffer' ≡ shown (sizes l s.lengths s.bench) s.bench a buffer

-- a request that was carried out on what stood
pub record Carried (l : Handed) (s : Situation) (a : Asked) (bs buffer : List ℕ) (desk : Desk) (nodes : List Node) (r : Result Answer Misplaced) (buffer' : List ℕ) : Type 0 where
  pub stands : Stands desk nodes (next l s a bs)
  pub answers : RequestAnswered l s a bs r
  pub wrote : buffer' ≡ request_shown l s a buffer
