-- What each call of a script leaves and answers, on plain plans.
use Rattle.std.specs.Prelude.{◌≡◌, ℕ, Bool, List, length, Some, None, Ok, Err, Decides, MatchOption, Option, Result}
use Rattle.faults.specs.declared.fault.Fault.{Fault}
use Rattle.faults.specs.Refusals.{or_else}
use Rattle.model.specs.declared.Node.{Node}
use Rattle.model.specs.Selections.{Alike}
use Rattle.plans.specs.Plain as plain
use Rattle.plans.specs.Plain.{Plain, pins, line, used_of, told, after, read_told, same_told, count_told, code_of, count_line}
use Rattle.plans.specs.Listing.{listing_of, list_told}
use Rattle.rows.specs.declared.lent.Tables.{Tables}
use Rattle.rows.specs.Laws.{written}
use Rattle.scripts.specs.Requests as script
use Rattle.scripts.specs.Requests.{Act}
use Rattle.workbench.specs.declared.answer.Answer.{Answer}
use Rattle.workbench.specs.declared.answer.Answer.TheVariants as answer
use Rattle.workbench.specs.declared.answer.Misplaced.{Misplaced}
use Rattle.workbench.specs.declared.answer.Misplaced.TheVariants as why
use Rattle.workbench.specs.declared.desk.Stage.{Stage}
use Rattle.workbench.specs.Desks.{Bench, none, opened, issued, StandsAt}
use Rattle.workbench.specs.Drawings.{map_told, draw_call}
use Rattle.workbench.specs.Joinings.{join_call}

-- the lengths of what a call on a plan is handed
pub record Handed : Type 0 where
  pub nodes : ℕ
  pub records : ℕ
  pub work : ℕ
  pub buffer : ℕ

abbrev pub handed : (nodes records work buffer : ℕ) → Handed
handed k r w b = record { nodes = k; records = r; work = w; buffer = b }

-- the lengths of all that is lent, the tables and a buffer
abbrev pub all_lent : Tables → (buffer : List ℕ) → Handed
all_lent t buffer = handed (length t.nodes.now) (length t.records.now) (length t.work.now) (length buffer)

-- the refusal, or else an answer
abbrev pub answer_of : Option Fault → Answer → Answer
answer_of (Some f) a = answer.Refused f
answer_of None a = a

-- what is left: a refused call alters nothing
abbrev pub unless_told : Option Fault → Plain → Plain → Plain
unless_told (Some f) q p = p
unless_told None q p = q

-- What a call leaves, with the bytes of the file that it names.
abbrev pub moved : Handed → Bench → Act → List ℕ → Bench
moved h (opened p) (script.draw d m name) bs = opened (unless_told (map_told m bs) (after p (draw_call d m bs h.nodes h.records h.work)) p)
moved h (opened p) (script.join how a b d) bs = opened (after p (join_call how a b d h.nodes h.work))
moved h (opened p) (script.strap a pin high d) bs = opened (after p (plain.strap a pin high d h.nodes h.work))
moved h (opened p) (script.erase d) bs = opened (after p (plain.erase d h.nodes h.work))
moved h (opened p) script.issue bs = issued p
moved h (issued p) script.reopen bs = opened p
moved h b _ bs = b

-- whether two lines have one selection, or why that is refused
abbrev pub Compared : Plain → (a b : ℕ) → Result Answer Misplaced → Type 0
Compared p a b r = MatchOption (same_told p a b) ((yes : Bool) × (r ≡ Ok (answer.Same yes)) × Decides yes (Alike (pins p) (line p a) (line p b))) (λ f. r ≡ Ok (answer.Refused f))

-- What a call answers.
abbrev pub Answered : Handed → Bench → Act → List ℕ → Result Answer Misplaced → Type 0
Answered h none a bs r = r ≡ Err why.Bare
Answered h (opened p) (script.draw d m name) bs r = r ≡ Ok (answer_of (or_else (map_told m bs) (told p (draw_call d m bs h.nodes h.records h.work))) answer.Done)
Answered h (opened p) (script.join how a b d) bs r = r ≡ Ok (answer_of (told p (join_call how a b d h.nodes h.work)) answer.Done)
Answered h (opened p) (script.strap a pin high d) bs r = r ≡ Ok (answer_of (told p (plain.strap a pin high d h.nodes h.work)) answer.Done)
Answered h (opened p) (script.erase d) bs r = r ≡ Ok (answer_of (told p (plain.erase d h.nodes h.work)) answer.Done)
Answered h (opened p) (script.read d a) bs r = r ≡ Ok (answer_of (read_told p d a h.nodes) (answer.Code (code_of (line p d) a)))
Answered h (opened p) (script.same a b) bs r = Compared p a b r
Answered h (opened p) script.used bs r = r ≡ Ok (answer.Used (used_of p))
Answered h (opened p) (script.count d) bs r = r ≡ Ok (answer_of (count_told p d h.nodes h.work) (answer.Nodes d (count_line p d)))
Answered h (opened p) script.issue bs r = r ≡ Ok answer.Done
Answered h (opened p) _ bs r = r ≡ Err why.Open
Answered h (issued p) (script.read d a) bs r = r ≡ Ok (answer_of (read_told p d a h.nodes) (answer.Code (code_of (line p d) a)))
Answered h (issued p) (script.list file) bs r = r ≡ Ok (answer_of (list_told p h.nodes h.work h.buffer) (answer.Listing (length (listing_of p))))
Answered h (issued p) script.reopen bs r = r ≡ Ok answer.Done
Answered h (issued p) _ bs r = r ≡ Err why.Issued

-- What a call leaves in the buffer: only a listing is written.
abbrev pub shown : Handed → Bench → Act → List ℕ → List ℕ
shown h (issued p) (script.list file) buffer = written (list_told p h.nodes h.work h.buffer) (listing_of p) buffer
shown h b _ buffer = buffer

-- a call on what stands
pub record Stepped (h : Handed) (b : Bench) (a : Act) (bs buffer : List ℕ) (stage : Stage) (nodes : List Node) (r : Result Answer Misplaced) (buffer' : List ℕ) : Type 0 where
  pub stands : StandsAt stage nodes (moved h b a bs)
  pub answers : Answered h b a bs r
  pub wrote : buffer' ≡ shown h b a buffer
