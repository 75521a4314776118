-- What calls leave and answer, taken out of what the plan's calls promise.
use Rattle.std.proofs.Common.{◌≡◌, ℕ, Bool, true, false, cond, List, ◌++◌, length, drop, Some, None, Ok, Err, Decides, MatchOption, MatchResult, Option, Result, sym, refl, ap, ◌∙◌, subst}
use Rattle.faults.specs.declared.fault.Fault.{Fault}
use Rattle.faults.specs.Refusals.{or_else, is_none}
use Rattle.model.specs.declared.Node.{Node}
use Rattle.model.specs.Selections.{Alike}
use Rattle.plans.specs.declared.header.Header.{Header}
use Rattle.plans.specs.Holding.{Holds, Compares, ToldValue}
use Rattle.plans.specs.Listing.{Lists, listing_of, list_told}
use Rattle.plans.specs.Results.{refusal}
use Rattle.plans.specs.Plain.{Plain, Call, draw, join, strap, erase, pins, line, told, after, changed, same_told}
use Rattle.rows.specs.Laws.{written}
use Rattle.workbench.specs.declared.answer.Answer.{Answer}
use Rattle.workbench.specs.declared.answer.Answer.TheVariants as answer
use Rattle.workbench.specs.declared.answer.Misplaced.{Misplaced}
use Rattle.workbench.specs.declared.sheet.Sheet.{Sheet}
use Rattle.workbench.specs.Calls.{answer_of, unless_told, Compared}
use Rattle.workbench.specs.Desks.{Sits}
use Rattle.workbench.specs.Drawings.{Drew}

-- a plain plan with the same order and as many nodes
pub record Alongside (q p : Plain) : Type 0 where
  pub order : q.order ≡ p.order
  pub size : q.size ≡ p.size

changed_alongside : (p : Plain) (c : Call) → Alongside (changed p c) p
changed_alongside p (draw d m f nodes tree work) = record { order = refl; size = refl }
changed_alongside p (join decodes g a b d nodes work) = record { order = refl; size = refl }
changed_alongside p (strap a pin high d nodes work) = record { order = refl; size = refl }
changed_alongside p (erase d nodes work) = record { order = refl; size = refl }

cond_alongside : (b : Bool) (q p : Plain) → Alongside q p → Alongside (cond b q p) p
cond_alongside true q p a = a
cond_alongside false q p a = record { order = refl; size = refl }

pub after_alongside : (p : Plain) (c : Call) → Alongside (after p c) p
after_alongside p c = cond_alongside (is_none (told p c)) (changed p c) p (changed_alongside p c)

pub unless_alongside : (t : Option Fault) (q p : Plain) → Alongside q p → Alongside (unless_told t q p) p
unless_alongside (Some f) q p a = record { order = refl; size = refl }
unless_alongside None q p a = a

pub sits_on : (h h' : Header) (sheet : Sheet) (nodes nodes' : List Node) (p q : Plain) → Sits h sheet nodes p → Holds h' nodes' q → Alongside q p → Sits h' sheet nodes' q
sits_on h h' sheet nodes nodes' p q s o a = record { holds = o; pins = s.pins ∙ ap length (sym a.order); size = s.size ∙ sym a.size }

-- the answer made of what a plan told, by a function of its value
abbrev pub valued : {A : Type 0} → (A → Answer) → Result A Fault → Answer
valued f (Ok x) = f x
valued f (Err e) = answer.Refused e

pub answer_made : {A : Type 0} (f : A → Answer) (r : Result A Fault) (a : Answer) (P : A → Type 0) → ((x : A) → P x → a ≡ f x) → MatchResult r P (λ e. a ≡ answer.Refused e) → a ≡ valued f r
answer_made f (Ok x) a P made m = made x m
answer_made f (Err e) a P made m = m

-- what was told, as an answer
pub told_value : {A : Type 0} (f : A → Answer) (r : Result A Fault) (t : Option Fault) (v : A) → ToldValue r t (λ x. x ≡ v) → valued f r ≡ answer_of t (f v)
told_value f (Ok x) t v e = ap f e.1 ∙ sym (ap (λ (o : Option Fault). answer_of o (f v)) e.0)
told_value f (Err g) t v e = sym (ap (λ (o : Option Fault). answer_of o (f v)) e)

-- a comparison of which this was told
abbrev ComparedAt : Plain → (a b : ℕ) → Result Answer Misplaced → Option Fault → Type 0
ComparedAt p a b r t = MatchOption t ((same : Bool) × (r ≡ Ok (answer.Same same)) × Decides same (Alike (pins p) (line p a) (line p b))) (λ f. r ≡ Ok (answer.Refused f))

compared : (p : Plain) (a b : ℕ) (r : Result Bool Fault) → ToldValue r (same_told p a b) (λ x. Decides x (Alike (pins p) (line p a) (line p b))) → Compared p a b (Ok (valued (λ x. answer.Same x) r))
compared p a b (Ok x) t = subst (ComparedAt p a b (Ok (answer.Same x))) (sym t.0) (x, refl, t.1)
compared p a b (Err f) t = subst (ComparedAt p a b (Ok (answer.Refused f))) (sym t) refl

pub told_same : (h : Header) (nodes : List Node) (p : Plain) (a b : ℕ) (r : Result Bool Fault) → Compares h a b r → Holds h nodes p → Compared p a b (Ok (valued (λ x. answer.Same x) r))
told_same h nodes p a b r c o = compared p a b r (c.tells nodes p o)

-- a draw, refused before the plan is called or by the plan, or done
pub record Drawn (h h' : Header) (nodes nodes' : List Node) (p : Plain) (t : Option Fault) (c : Call) (r : Result (Unit {0}) Fault) : Type 0 where
  pub holds : Holds h' nodes' (unless_told t (after p c) p)
  pub answers : valued (λ _. answer.Done) r ≡ answer_of (or_else t (told p c)) answer.Done

done_told : (r : Result (Unit {0}) Fault) (t : Option Fault) → refusal r ≡ t → valued (λ _. answer.Done) r ≡ answer_of t answer.Done
done_told (Ok x) t e = ap (λ (o : Option Fault). answer_of o answer.Done) e
done_told (Err f) t e = ap (λ (o : Option Fault). answer_of o answer.Done) e

pub drawn : (h h' : Header) (nodes nodes' : List Node) (p : Plain) (t : Option Fault) (c : Call) (r : Result (Unit {0}) Fault) → Drew t h nodes c r h' nodes' → Holds h nodes p → Drawn h h' nodes nodes' p t c r
drawn h h' nodes nodes' p None c r d o = record { holds = d.leaves p o; answers = done_told r (told p c) (d.tells p o) }
drawn h h' nodes nodes' p (Some f) c r (e, a, b) o = record { holds = subst (λ (x : Header). Holds x nodes' p) (sym a) (subst (λ (ns : List Node). Holds h ns p) (sym b) o); answers = ap (valued (λ _. answer.Done)) e }

-- a listing
pub record Listed (p : Plain) (t : Option Fault) (buffer buffer' : List ℕ) (r : Result ℕ Fault) : Type 0 where
  pub answers : valued (λ b. answer.Listing b) r ≡ answer_of t (answer.Listing (length (listing_of p)))
  pub wrote : buffer' ≡ written t (listing_of p) buffer

pub listed : (h : Header) (nodes : List Node) (w : ℕ) (buffer buffer' : List ℕ) (r : Result ℕ Fault) (p : Plain) → Lists h nodes w buffer r buffer' → Holds h nodes p
    → Listed p (list_told p (length nodes) w (length buffer)) buffer buffer' r
listed h nodes w buffer buffer' (Ok k) p d o =
    let t = d.tells p o in
    record {
      answers = ap (λ b. answer.Listing b) t.1.0 ∙ sym (ap (λ (x : Option Fault). answer_of x (answer.Listing (length (listing_of p)))) t.0);
      wrote = t.1.1 ∙ ap (λ (j : ℕ). listing_of p ++ drop j buffer) t.1.0 ∙ sym (ap (λ (x : Option Fault). written x (listing_of p) buffer) t.0);
    }
listed h nodes w buffer buffer' (Err f) p d o =
    let t = d.tells p o in
    record {
      answers = sym (ap (λ (x : Option Fault). answer_of x (answer.Listing (length (listing_of p)))) t);
      wrote = d.kept f refl ∙ sym (ap (λ (x : Option Fault). written x (listing_of p) buffer) t);
    }
