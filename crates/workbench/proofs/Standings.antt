-- Calls on what stands on a desk, with as much of the lent tables as they are handed.
use Rattle.std.proofs.Common.{◌≡◌, ℕ, ◌≤◌, min, List, ◌++◌, length, take, drop, Result, sym, refl, ap, ◌∙◌, subst, arith, length-take}
use Rattle.std.proofs.lemmas.List.{take_at}
use Rattle.model.specs.declared.Node.{Node}
use Rattle.plans.specs.declared.issued.Issued.{Issued}
use Rattle.plans.specs.declared.plan.Plan.{Plan}
use Rattle.plans.specs.Plain.{Plain, strap, erase, after}
use Rattle.scripts.specs.Requests as script
use Rattle.scripts.specs.Requests.{Act}
use Rattle.workbench.specs.declared.answer.Answer.{Answer}
use Rattle.workbench.specs.declared.answer.Misplaced.{Misplaced}
use Rattle.workbench.specs.declared.desk.Desk.{Desk}
use Rattle.workbench.specs.declared.desk.Stage.{Stage}
use Rattle.workbench.specs.declared.desk.Stage.TheVariants as stage
use Rattle.workbench.specs.declared.desk.Lengths.{Lengths}
use Rattle.workbench.specs.declared.sheet.Sheet.{Sheet}
use Rattle.workbench.specs.Calls.{Handed, handed, moved, Stepped}
use Rattle.workbench.specs.Desks.{Bench, none, opened, issued, Situation, Sits, StandsAt, Stands, bench_pins, bench_nodes, stage_pins, stage_nodes}
use Rattle.workbench.specs.Drawings.{map_told, draw_call}
use Rattle.workbench.specs.Handing.{lengths_of}
use Rattle.workbench.specs.Joinings.{join_call}
use Rattle.workbench.specs.Requests.{sizes, Acted}
use Rattle.workbench.proofs.Steps.{after_alongside, unless_alongside}

-- what an issued plan may hold
pub issued_stands : (plan : Plan Issued) (sheet : Sheet) (nodes : List Node) (P : Bench → Type 0) → ((p : Plain) → Sits plan.header sheet nodes p → P (issued p)) → (b : Bench) → StandsAt (stage.Issued plan sheet) nodes b → P b
issued_stands plan sheet nodes P k none s = absurd s
issued_stands plan sheet nodes P k (opened p) s = absurd s
issued_stands plan sheet nodes P k (issued p) s = k p s

-- how many pins and nodes a plan has that stands in the first nodes of a table
record Fits (st : Stage) (nodes : List Node) (b : Bench) : Type 0 where
  pins : stage_pins st ≡ bench_pins b
  size : stage_nodes st ≡ bench_nodes b
  room : bench_nodes b ≤ length nodes

fits_by : {h : _} (sheet : Sheet) (nodes : List Node) (p : Plain) → Sits h sheet (take p.size nodes) p → p.size ≤ length nodes
fits_by sheet nodes p s = let w = s.holds.whole in let l = length-take p.size nodes in omega arith

fits : (st : Stage) (nodes : List Node) (b : Bench) → StandsAt st (take (bench_nodes b) nodes) b → Fits st nodes b
fits stage.Bare nodes none s = record { pins = refl; size = refl; room = omega arith }
fits stage.Bare nodes (opened p) s = absurd s
fits stage.Bare nodes (issued p) s = absurd s
fits (stage.Open plan sheet) nodes none s = absurd s
fits (stage.Open plan sheet) nodes (opened p) s = record { pins = s.pins; size = s.size; room = fits_by sheet nodes p s }
fits (stage.Open plan sheet) nodes (issued p) s = absurd s
fits (stage.Issued plan sheet) nodes none s = absurd s
fits (stage.Issued plan sheet) nodes (opened p) s = absurd s
fits (stage.Issued plan sheet) nodes (issued p) s = record { pins = s.pins; size = s.size; room = fits_by sheet nodes p s }

-- a call leaves the number of nodes as it is
moved_nodes : (h : Handed) (b : Bench) (a : Act) (bs : List ℕ) → bench_nodes (moved h b a bs) ≡ bench_nodes b
moved_nodes h none a bs = refl
moved_nodes h (opened p) (script.draw d m name) bs =
    let c = draw_call d m bs h.nodes h.records h.work in
    (unless_alongside (map_told m bs) (after p c) p (after_alongside p c)).size
moved_nodes h (opened p) (script.join how a b d) bs = (after_alongside p (join_call how a b d h.nodes h.work)).size
moved_nodes h (opened p) (script.strap a pin high d) bs = (after_alongside p (strap a pin high d h.nodes h.work)).size
moved_nodes h (opened p) (script.erase d) bs = (after_alongside p (erase d h.nodes h.work)).size
moved_nodes h (opened p) (script.read d a) bs = refl
moved_nodes h (opened p) (script.same a b) bs = refl
moved_nodes h (opened p) script.used bs = refl
moved_nodes h (opened p) (script.count d) bs = refl
moved_nodes h (opened p) script.issue bs = refl
moved_nodes h (opened p) script.reopen bs = refl
moved_nodes h (opened p) (script.list file) bs = refl
moved_nodes h (issued p) (script.draw d m name) bs = refl
moved_nodes h (issued p) (script.join how a b d) bs = refl
moved_nodes h (issued p) (script.strap a pin high d) bs = refl
moved_nodes h (issued p) (script.erase d) bs = refl
moved_nodes h (issued p) (script.read d a) bs = refl
moved_nodes h (issued p) (script.same a b) bs = refl
moved_nodes h (issued p) script.used bs = refl
moved_nodes h (issued p) (script.count d) bs = refl
moved_nodes h (issued p) script.issue bs = refl
moved_nodes h (issued p) script.reopen bs = refl
moved_nodes h (issued p) (script.list file) bs = refl

module _ (d : Desk) (nodes : List Node) (s : Situation) (o : Stands d nodes s) (lent : Lengths) (buffer : List ℕ) (k k' r w : ℕ) (count : k ≡ min (stage_nodes d.stage) (length nodes)) (count' : k' ≡ k)
    (records : r ≡ (lengths_of d.lengths (stage_pins d.stage) (stage_nodes d.stage) lent).records) (work : w ≡ (lengths_of d.lengths (stage_pins d.stage) (stage_nodes d.stage) lent).work) where
  b : Bench
  b = s.bench

  f : Fits d.stage nodes s.bench
  f = fits d.stage nodes s.bench o.plan

  whole : k ≡ bench_nodes s.bench
  whole = let m = f.room in omega (arith, f.size)

  l : Handed
  l = handed (length nodes) lent.records lent.work (length buffer)

  same_lengths : lengths_of d.lengths (stage_pins d.stage) (stage_nodes d.stage) lent ≡ lengths_of s.lengths (bench_pins s.bench) (bench_nodes s.bench) lent
  same_lengths = ap (λ t. lengths_of t (stage_pins d.stage) (stage_nodes d.stage) lent) o.lengths ∙ ap (λ n. lengths_of s.lengths n (stage_nodes d.stage) lent) f.pins ∙ ap (λ n. lengths_of s.lengths (bench_pins s.bench) n lent) f.size

  given : handed k' r w (length buffer) ≡ sizes (handed (length nodes) lent.records lent.work (length buffer)) s.lengths s.bench
  given = ap (λ x. handed x r w (length buffer)) (count' ∙ whole) ∙ ap (λ x. handed (bench_nodes s.bench) x w (length buffer)) (records ∙ ap (λ (t : Lengths). t.records) same_lengths)
      ∙ ap (λ x. handed (bench_nodes s.bench) (lengths_of s.lengths (bench_pins s.bench) (bench_nodes s.bench) lent).records x (length buffer)) (work ∙ ap (λ (t : Lengths). t.work) same_lengths)

  pub acted : (a : Act) (bs : List ℕ) (st : Stage) (front : List Node) (res : Result Answer Misplaced) (buffer' : List ℕ) → length front ≡ k'
      → ((x : Bench) → StandsAt d.stage (take k nodes) x → Stepped (handed k' r w (length buffer)) x a bs buffer st front res buffer')
      → Acted (handed (length nodes) lent.records lent.work (length buffer)) s a bs buffer (record { stage = st; lengths = d.lengths }) (front ++ drop k nodes) res buffer'
  acted a bs st front res buffer' long steps =
      let x = subst (λ (h : Handed). Stepped h s.bench a bs buffer st front res buffer') given (steps s.bench (subst (λ j. StandsAt d.stage (take j nodes) s.bench) (sym whole) o.plan)) in
      let h = sizes (handed (length nodes) lent.records lent.work (length buffer)) s.lengths s.bench in
      let stays = moved_nodes h s.bench a bs in
      let all : take (bench_nodes (moved h s.bench a bs)) (front ++ drop k nodes) ≡ front = take_at front (drop k nodes) _ (long ∙ count' ∙ whole ∙ sym stays) in
      record {
        stands = record { plan = subst (λ (ns : List Node). StandsAt st ns (moved h s.bench a bs)) (sym all) x.stands; lengths = o.lengths };
        answers = x.answers;
        wrote = x.wrote;
      }
