-- A listing of 32 lines, written or refused.
use Rattle.std.proofs.Common.{◌≡◌, ℕ, ◌+◌, ◌*◌, ◌<◌, ◌≤◌, List, [], ◌++◌, map, length, drop, Some, None, Ok, Err, Option, sym, refl, ap, ◌∙◌, arith, length-append}
use Rattle.std.proofs.lemmas.Bool.Decides.{nat_tests}
use Rattle.std.proofs.lemmas.List.{drop_at}
use Rattle.faults.specs.declared.fault.Fault.{Fault}
use Rattle.faults.specs.declared.fault.Ground.TheVariants.{Buffer}
use Rattle.faults.specs.Refusals.{at}
use Rattle.model.specs.declared.Branch.{Branch}
use Rattle.model.specs.declared.Node.{Node}
use Rattle.model.specs.Lists.{In, held, flat, each}
use Rattle.model.specs.Diagrams.{Table, listed, From}
use Rattle.model.specs.Layouts.{listing}
use Rattle.model.specs.Listings.{two_bytes, node_bytes, line_reference, bytes}
use Rattle.tables.specs.Markings.{Diagram}
use Rattle.listings.specs.Labels.{relabel, labelled}
use Rattle.listings.specs.Numbers.{Numbers}
use Rattle.listings.specs.Lists.{size_refusal, ListsLines}
use Rattle.listings.proofs.Labelling.{labelled_is_listing}
use Rattle.listings.proofs.Written.{nodes_length, lines_length}

labelled_length : (pins : List ℕ) (T : Table) (order numbers : List ℕ) (lines : List (Option Branch)) → length lines ≡ 32 → length (bytes pins (labelled T order numbers lines)) ≡ 104 + length pins + 7 * length order
unfolding bytes
labelled_length pins T order numbers lines all =
    let ns = flat node_bytes (labelled T order numbers []).nodes in
    let ls = flat line_reference (map (each (relabel numbers)) lines) in
    let a = nodes_length T order numbers in
    let b = lines_length numbers lines in
    let c = length-append ns ls in
    let d = length-append pins (two_bytes (length (labelled T order numbers []).nodes) ++ (ns ++ ls)) in
    omega arith

none_some : {A : Type 0} (o : Option A) (x : A) → o ≡ None → o ≡ Some x → ⊥
none_some o x p q = let z : ◌≡◌ {A = ℕ} 0 1 = cc in omega arith

sizes_right : (pins nodes work : ℕ) → size_refusal pins nodes work ≡ None → (nodes ≤ 4096) × (4 * nodes ≤ work)
sizes_right pins nodes work e = (grind (arith, nat_tests), grind (arith, nat_tests))

pub size_refused : (nodes : List Node) (work : ℕ) (order : List ℕ) (lines : List (Option Branch)) (buffer : List ℕ) (f : Fault) → size_refusal (length order) (length nodes) work ≡ Some f
    → ListsLines nodes work order lines buffer (Err f) buffer
size_refused nodes work order lines buffer f e = record {
  turned = λ g h. cc;
  fits = λ h. absurd (none_some (size_refusal (length order) (length nodes) work) f h e);
  lists = λ h. absurd (none_some (size_refusal (length order) (length nodes) work) f h e);
  past = λ k z. let y : ◌≡◌ {A = ℕ} 0 1 = cc in absurd (omega arith);
  kept = λ g z. refl;
}

module _ (nodes : List Node) (work pins order numbers : List ℕ) (lines : List (Option Branch)) (buffer : List ℕ) (all : length lines ≡ 32)
    (clear : size_refusal (length pins) (length nodes) (length work) ≡ None) (numbered : Numbers (length pins) nodes work lines order numbers) where
  module _ (us : List ℕ) (dg : Diagram (length pins) nodes us) (from : (b : Branch) → In b (held lines) → From (λ i. In i us) (listed nodes) 0 b) where
    written : bytes pins (labelled (listed nodes) order numbers lines) ≡ bytes pins (listing (listed nodes) (length pins) lines)
    written =
        let s = sizes_right (length pins) (length nodes) (length work) clear in
        ap (bytes pins) (labelled_is_listing (length pins) nodes us dg s.0 lines from order numbers (numbered us dg from s.0 s.1))

    long : length (bytes pins (listing (listed nodes) (length pins) lines)) ≡ 104 + length pins + 7 * length order
    long = sym (ap length written) ∙ labelled_length pins (listed nodes) order numbers lines all

  module _ (needed : ℕ) (is : needed ≡ 104 + length pins + 7 * length order) where
    pub buffer_short : (f : Fault) → f ≡ at Buffer needed → length buffer < needed → ListsLines nodes (length work) pins lines buffer (Err f) buffer
    buffer_short f e less = record {
      turned = λ g h. absurd (none_some (size_refusal (length pins) (length nodes) (length work)) g clear h);
      fits = λ h. let p : f.place ≡ needed = ap (λ g. g.place) e in (omega arith, e ∙ ap (at Buffer) (sym p));
      lists = λ h us dg from. let l = long us dg from in (omega arith, e ∙ ap (at Buffer) (is ∙ sym l));
      past = λ k z. let y : ◌≡◌ {A = ℕ} 0 1 = cc in absurd (omega arith);
      kept = λ g z. refl;
    }

    pub buffer_written : (filled : List ℕ) → needed ≤ length buffer → filled ≡ bytes pins (labelled (listed nodes) order numbers lines)
        → ListsLines nodes (length work) pins lines buffer (Ok needed) (filled ++ drop needed buffer)
    buffer_written filled enough e = record {
      turned = λ g h. absurd (none_some (size_refusal (length pins) (length nodes) (length work)) g clear h);
      fits = λ h. enough;
      lists = λ h us dg from. let l = long us dg from in (omega arith, is ∙ sym l, ap (λ xs. xs ++ drop needed buffer) (e ∙ written us dg from));
      past = λ k z. let y : k ≡ needed = cc in
          ap (λ x. drop x (filled ++ drop needed buffer)) y ∙ (drop_at filled (drop needed buffer) needed (ap length e ∙ (labelled_length pins (listed nodes) order numbers lines all ∙ sym is)) ∙ ap (λ x. drop x buffer) (sym y));
      kept = λ g z. let y : ◌≡◌ {A = ℕ} 0 1 = cc in absurd (omega arith);
    }
