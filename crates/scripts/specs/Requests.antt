-- Requests without where their parts lie in memory.
use Rattle.std.specs.Prelude.{ℕ, Bool, List, Option, option_map}
use Rattle.scripts.specs.declared.request.Call.{Call}
use Rattle.scripts.specs.declared.request.Call.TheVariants as call
use Rattle.scripts.specs.declared.request.How.{How}
use Rattle.scripts.specs.declared.request.Map.{Map}
use Rattle.scripts.specs.declared.request.Request.{Request}
use Rattle.scripts.specs.declared.request.Request.TheVariants as request
use Rattle.scripts.specs.Words.{Word}

-- a call, with a file by its name
pub data Act : Type 0 where
  draw : (line : ℕ) (map : Map) (file : Word) → Act
  join : (how : How) (left right line : ℕ) → Act
  strap : (from pin : ℕ) (high : Bool) (line : ℕ) → Act
  erase : (line : ℕ) → Act
  read : (line address : ℕ) → Act
  same : (left right : ℕ) → Act
  used : Act
  count : (line : ℕ) → Act
  issue : Act
  reopen : Act
  list : (file : Option Word) → Act

-- a request, with an order as a list
pub data Asked : Type 0 where
  plan : (nodes : ℕ) (order : List ℕ) → Asked
  tables : (records work : ℕ) → Asked
  act : Act → Asked

abbrev pub act_of : Call → Act
act_of (call.Draw line map file) = draw line map file.items
act_of (call.Join how left right line) = join how left right line
act_of (call.Strap from pin high line) = strap from pin high line
act_of (call.Erase line) = erase line
act_of (call.Read line address) = read line address
act_of (call.Same left right) = same left right
act_of call.Used = used
act_of (call.Count line) = count line
act_of call.Issue = issue
act_of call.Reopen = reopen
act_of (call.List file) = list (option_map (λ v. v.items) file)

abbrev pub asked : Request → Asked
asked (request.Plan nodes order) = plan nodes order.items
asked (request.Tables records work) = tables records work
asked (request.Call c) = act (act_of c)
