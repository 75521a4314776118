-- Listing a plan.
use Rattle.std.proofs.Common.{Option, ◌≡◌, ℕ, suc, ◌+◌, ◌*◌, ◌≤◌, ltb, ◌↔◌, List, [], ◌∷◌, ◌++◌, length, drop, Some, None, Ok, Err, Result, sym, refl, ap, ◌∙◌, subst, mul-le-mul_right, arith, le-ltb, lt-ltb}
use Rattle.std.proofs.lemmas.Bool.Decides.{nat_tests}
use Rattle.std.proofs.lemmas.List.{length-map}
use Rattle.faults.specs.declared.fault.Fault.{Fault}
use Rattle.faults.specs.declared.fault.Ground.TheVariants.{Buffer}
use Rattle.faults.specs.Refusals.{at, refuse_if, or_else}
use Rattle.model.specs.declared.Branch.{Branch}
use Rattle.model.specs.declared.Node.{Node}
use Rattle.model.specs.Lists.{each, LineForLine}
use Rattle.model.specs.Selections.{views, view_of, Alike}
use Rattle.model.specs.Diagrams.{listed, Means}
use Rattle.model.specs.Layouts.{layout, listing}
use Rattle.model.specs.Listings.{bytes}
use Rattle.model.proofs.Lists.{in_held}
use Rattle.model.proofs.Bytes.{bytes_length, bytes_tell_selections}
use Rattle.model.proofs.Laying.{listing_of_selections}
use Rattle.listings.specs.Lists.{size_refusal, ListsLines, ListsBytes}
use Rattle.plans.specs.declared.header.Header.{Header}
use Rattle.plans.specs.Plain.{Plain, pins, other_tables, work_size}
use Rattle.plans.specs.Holding.{Holds, ToldValue, order_of}
use Rattle.plans.specs.Listing.{listing_of, listing_length, list_told, Lists, ListingsTell}
use Rattle.plans.proofs.Holdings.{at_header, heads_pins, not_turned, order_is, diagram, roots_from}

pub listings_tell : ListingsTell
unfolding listing_of
listings_tell = record {
  long = λ p all. bytes_length (pins p) p.order refl (views (pins p) p.order p.lines) (length-map p.lines (each (view_of (pins p) p.order)) ∙ all);
  apart = λ p q order same.
      subst (λ (ps : List ℕ). (listing_of p ≡ bytes ps (layout (length ps) (views (length ps) ps q.lines))) ↔ LineForLine (Alike (pins p)) p.lines q.lines) same
      (bytes_tell_selections (pins p) p.order order p.lines q.lines);
}

as_long : {A B : Type 0} (R : A → B → Type 0) (xs : List A) (ys : List B) → LineForLine R xs ys → length xs ≡ length ys
as_long R [] [] l = refl
as_long R [] (y ∷ ys) l = absurd l
as_long R (x ∷ xs) [] l = absurd l
as_long R (x ∷ xs) (y ∷ ys) l = ap suc (as_long R xs ys l.1)

tables_right : (n size nodes work : ℕ) → None ≡ other_tables n size nodes work → (nodes ≡ size) × (work_size n size ≤ work)
tables_right n size nodes work e = (grind (arith, nat_tests), grind (arith, nat_tests))

sizes_clear : (n nodes work : ℕ) → n ≤ 20 → nodes ≤ 4096 → 4 * nodes ≤ work → size_refusal n nodes work ≡ None
sizes_clear n nodes work few small room = grind (arith, nat_tests)

module _ (h : Header) (nodes : List Node) (work : ℕ) (buffer : List ℕ) (clear : None ≡ other_tables h.pins h.size (length nodes) work) where
  module _ (p : Plain) (o : Holds h nodes p) where
    lines_all : length p.lines ≡ 32
    lines_all = sym (as_long (Means (pins p) (listed nodes) p.order) h.lines p.lines o.lines) ∙ h.lined

    long : length (listing_of p) ≡ listing_length p
    long = listings_tell.long p lines_all

    clear_p : other_tables (pins p) p.size (length nodes) work ≡ None
    clear_p = at_header h p o.heads (λ n size. other_tables n size (length nodes) work) ∙ sym clear

    laid_out : bytes p.order (listing (listed nodes) (pins p) h.lines) ≡ listing_of p
    unfolding listing_of
    laid_out =
        ap (bytes p.order)
        (listing_of_selections (pins p) p.order (order_is h nodes p o) (listed nodes) o.reachable o.ordered o.reduced h.lines
        (λ b m. roots_from h nodes p o b (in_held b h.lines m)) p.lines o.lines)

    told_by : (r : Result ℕ Fault) (buffer' : List ℕ) → ListsBytes (listing_of p) buffer r buffer'
        → ToldValue r (list_told p (length nodes) work (length buffer)) (λ k. (k ≡ length (listing_of p)) × (buffer' ≡ listing_of p ++ drop k buffer))
    told_by (Ok k) buffer' w =
        let l = w.0 in
        let e = long in (
          ap (λ t. or_else t (refuse_if (ltb (length buffer) (listing_length p)) (at Buffer (listing_length p)) None)) clear_p
              ∙ ap (λ t. refuse_if t (at Buffer (listing_length p)) None) (le-ltb (length buffer) (listing_length p) (omega arith)),
          (w.1, w.2),
        )
    told_by (Err f) buffer' w =
        let l = w.0 in
        let e = long in
        ap (λ t. or_else t (refuse_if (ltb (length buffer) (listing_length p)) (at Buffer (listing_length p)) None)) clear_p
        ∙ (ap (λ t. refuse_if t (at Buffer (listing_length p)) None) (lt-ltb (length buffer) (listing_length p) (omega arith)) ∙ ap Some (ap (at Buffer) (sym e) ∙ sym w.1))

  pub listed_plan : (order : List ℕ) (lines : List (Option Branch)) (r : Result ℕ Fault) (buffer' : List ℕ) → order ≡ order_of h → lines ≡ h.lines → ListsLines nodes work order lines buffer r buffer' → Lists h nodes work buffer r buffer'
  listed_plan order lines r buffer' e q w = record {
    turned = λ p heads f t. not_turned h p heads (λ n size. other_tables n size (length nodes) work) clear f t;
    tells = λ p o. told_by p o r buffer' (subst (λ (bs : List ℕ). ListsBytes bs buffer r buffer') (laid_out p o) (lists p o));
    past = w.past;
    kept = w.kept;
  }
    where
      lists : (p : Plain) (o : Holds h nodes p) → ListsBytes (bytes p.order (listing (listed nodes) (pins p) h.lines)) buffer r buffer'
      lists p o =
          let same : order ≡ p.order = e ∙ sym o.heads.order in
          let w' : ListsLines nodes work p.order h.lines buffer r buffer' =
          subst (λ (ls : List (Option Branch)). ListsLines nodes work p.order ls buffer r buffer') q (subst (λ (ps : List ℕ). ListsLines nodes work ps lines buffer r buffer') same w) in
          let t = tables_right h.pins h.size (length nodes) work clear in
          let a = t.0 in
          let k = heads_pins h p o.heads in
          let few = h.sized in
          let n = h.few in
          w'.lists (sizes_clear (pins p) (length nodes) work (omega arith) (omega arith) (four a t.1)) o.reachable (diagram h nodes p o) (roots_from h nodes p o)
        where
          four : length nodes ≡ h.size → work_size h.pins h.size ≤ work → 4 * length nodes ≤ work
          four a b =
              let m : 4 * (h.size + 2) ≤ 4 * (h.pins + 1) * (h.size + 2) = mul-le-mul_right (h.size + 2) (omega arith) in
              omega arith
