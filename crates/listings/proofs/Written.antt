-- Bytes written one behind the other.
use Rattle.std.proofs.Common.{◌≡◌, ℕ, ◌+◌, ◌*◌, ◌≤◌, List, [], ◌∷◌, ◌++◌, map, length, take, Option, sym, ap, ◌∙◌, arith, length-append, take_all}
use Rattle.std.proofs.lemmas.List.{append_assoc, length-map, length-take-le}
use Rattle.model.specs.declared.Branch.{Branch}
use Rattle.model.specs.Lists.{flat, each}
use Rattle.model.specs.Diagrams.{Table}
use Rattle.model.specs.Listings.{two_bytes, line_reference, node_bytes, bytes}
use Rattle.model.proofs.Bytes.{length_flat, line_length, node_length}
use Rattle.listings.specs.Labels.{short, relabel, relabelled, labelled, head}

-- The bytes of each item of a list, m of them, written behind what stands there.
abbrev pub WrittenSoFar : {A B : Type 0} → (B → List ℕ) → (A → B) → List A → ℕ → List ℕ → List ℕ → Type 0
WrittenSoFar g h xs k out out' = out' ≡ out ++ flat g (map h (take k xs))

pub written_length : {A B : Type 0} (g : B → List ℕ) (h : A → B) (xs : List A) (k : ℕ) (out out' : List ℕ) → WrittenSoFar g h xs k out out' → (m : ℕ) → ((x : B) → length (g x) ≡ m) → k ≤ length xs → length out' ≡ length out + m * k
written_length g h xs k out out' far m long less =
    let a = ap length far in
    let b = length-append out (flat g (map h (take k xs))) in
    let f = length_flat g m long (map h (take k xs)) ∙ ap (λ n. m * n) (length-map (take k xs) h ∙ length-take-le k xs less) in
    omega arith

-- how long the nodes and the lines are
pub nodes_length : (T : Table) (order numbers : List ℕ) → length (flat node_bytes (labelled T order numbers []).nodes) ≡ 7 * length order
nodes_length T order numbers =
    let f = length_flat node_bytes 7 node_length (labelled T order numbers []).nodes in
    let m = length-map order (λ i. relabelled numbers (T (short i))) in
    omega arith

pub lines_length : (numbers : List ℕ) (lines : List (Option Branch)) → length (flat line_reference (map (each (relabel numbers)) lines)) ≡ 3 * length lines
lines_length numbers lines =
    let f = length_flat line_reference 3 line_length (map (each (relabel numbers)) lines) in
    let m = length-map lines (each (relabel numbers)) in
    omega arith

-- the whole listing
module _ (pins : List ℕ) (T : Table) (order numbers : List ℕ) (lines : List (Option Branch)) where
  abbrev ns : List ℕ
  ns = flat node_bytes (labelled T order numbers []).nodes

  abbrev ls : List ℕ
  ls = flat line_reference (map (each (relabel numbers)) lines)

  module _ (out₀ out₁ out₂ : List ℕ) (e₀ : out₀ ≡ []) (e₁ : out₁ ≡ out₀ ++ head pins (length order)) (e₂ : out₂ ≡ out₁ ++ ns)
      (room : ℕ) (long : room ≡ 8 + length pins + 7 * length order + 3 * length lines) where
    front : out₂ ≡ head pins (length order) ++ ns
    front = e₂ ∙ ap (λ z. z ++ ns) (e₁ ∙ ap (λ z. z ++ head pins (length order)) e₀)

    front_length : length out₂ ≡ 8 + length pins + 7 * length order
    front_length =
        let a = ap length front in
        let b = length-append (head pins (length order)) ns in
        let c = length-append pins (two_bytes (length order)) in
        let g = nodes_length T order numbers in
        omega arith

    pub lines_fit : (room₂ : ℕ) → room₂ ≡ room → length out₂ + 3 * length lines ≤ room₂
    lines_fit room₂ same = let l = front_length in omega arith

    all : out₂ ++ ls ≡ bytes pins (labelled T order numbers lines)
    unfolding bytes
    all =
        let m = length-map order (λ i. relabelled numbers (T (short i))) in
        ap (λ z. z ++ ls) front
        ∙ (append_assoc (head pins (length order)) ns ls
        ∙ ap (λ z. 0x4C ∷ (0x53 ∷ (0x54 ∷ (0 ∷ (1 ∷ (length pins ∷ z))))))
        (append_assoc pins (two_bytes (length order)) (ns ++ ls) ∙ ap (λ x. pins ++ (two_bytes x ++ (ns ++ ls))) (sym m)))

    pub room_written : (entries : List ℕ) (k : ℕ) → k ≤ length entries → length entries ≡ room → take k entries ≡ out₂ ++ ls → entries ≡ bytes pins (labelled T order numbers lines)
    room_written entries k inside same e =
        let a = ap length e in
        let b = length-append out₂ ls in
        let c = lines_length numbers lines in
        let d = front_length in
        let t = length-take-le k entries inside in
        sym (take_all k entries (omega arith)) ∙ (e ∙ all)
