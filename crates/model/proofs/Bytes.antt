-- The bytes of a listing tell its layout; their number; and each is a byte.
use Rattle.std.proofs.Common.{◌≡◌, ℕ, suc, ◌+◌, ◌*◌, ◌/◌, ◌%◌, ◌<◌, ◌≤◌, Bool, true, false, cond, ◌↔◌, List, [], ◌∷◌, ◌++◌, map, length, Some, None, Option, sym, refl, ap, ◌∙◌, subst, ap₂, inl, inr, append_assoc, mul-zero, mul-suc, arith, length-append}
use lib.ListN.{length-map}
use Rattle.model.specs.Lists.{In, spot, flat, held, each, LineForLine}
use Rattle.model.specs.Trees.{Tree, leaf, fork, Full, CodesBelow, matters, half, remains}
use Rattle.model.specs.Parts.{Part, parts}
use Rattle.model.specs.Selections.{Selection, all_low, view_of, views, Alike}
use Rattle.model.specs.Orders.{Order}
use Rattle.model.specs.Diagrams.{listed, tree, Branch, Node, end, node}
use Rattle.model.specs.Layouts.{Layout, same_part, refer, row, layout}
use Rattle.model.specs.Listings.{two_bytes, reference, line_reference, node_bytes, bytes}
use Rattle.model.specs.Theorems.{BytesTellTrees, BytesTellSelections, BytesLength, BytesSmall}
use Rattle.model.specs.Examples.{codes}
use Rattle.model.proofs.Lists.{in-++, from_map, in_held, from_held, held_map}
use Rattle.model.proofs.Parts.{from_parts, from_level}
use Rattle.model.proofs.Views.{one_tree, view_full}
use Rattle.model.proofs.Laying.{layout_reads_back}

-- two numbers by two bytes
two_told : (x y : ℕ) → x / 256 ≡ y / 256 → x % 256 ≡ y % 256 → x ≡ y
two_told x y p q = omega arith

reference_told : (b e : Branch) (xs ys : List ℕ) → reference b ++ xs ≡ reference e ++ ys → (b ≡ e) × (xs ≡ ys)
reference_told (end a) (end c) xs ys e = let p : a / 256 ≡ c / 256 = cc in let q : a % 256 ≡ c % 256 = cc in (ap end (two_told a c p q), cc)
reference_told (end a) (node k) xs ys e = absurd (let z : ◌≡◌ {A = ℕ} 0 1 = cc in omega arith)
reference_told (node i) (end c) xs ys e = absurd (let z : ◌≡◌ {A = ℕ} 1 0 = cc in omega arith)
reference_told (node i) (node k) xs ys e = let p : i / 256 ≡ k / 256 = cc in let q : i % 256 ≡ k % 256 = cc in (ap node (two_told i k p q), cc)

line_told : (b e : Option Branch) (xs ys : List ℕ) → line_reference b ++ xs ≡ line_reference e ++ ys → (b ≡ e) × (xs ≡ ys)
line_told None None xs ys e = (refl, cc)
line_told None (Some (end c)) xs ys e = absurd (let z : ◌≡◌ {A = ℕ} 255 0 = cc in omega arith)
line_told None (Some (node k)) xs ys e = absurd (let z : ◌≡◌ {A = ℕ} 255 1 = cc in omega arith)
line_told (Some (end a)) None xs ys e = absurd (let z : ◌≡◌ {A = ℕ} 0 255 = cc in omega arith)
line_told (Some (node i)) None xs ys e = absurd (let z : ◌≡◌ {A = ℕ} 1 255 = cc in omega arith)
line_told (Some b) (Some c) xs ys e = let r = reference_told b c xs ys e in (ap Some r.0, r.1)

node_told : (k m : Node) (xs ys : List ℕ) → node_bytes k ++ xs ≡ node_bytes m ++ ys → (k ≡ m) × (xs ≡ ys)
node_told k m xs ys e =
    let p : k.place ≡ m.place = cc in
    let t : (reference k.low ++ reference k.high) ++ xs ≡ (reference m.low ++ reference m.high) ++ ys = cc in
    let l = reference_told k.low m.low (reference k.high ++ xs) (reference m.high ++ ys)
    (sym (append_assoc (reference k.low) (reference k.high) xs) ∙ (t ∙ append_assoc (reference m.low) (reference m.high) ys)) in
    let h = reference_told k.high m.high xs ys l.1 in
    (λ j. record { place = p j; low = l.0 j; high = h.0 j }, h.1)

-- lists of equally many pieces, each of which is told
module _ {A : Type 0} (g : A → List ℕ) (tells : (x y : A) (xs ys : List ℕ) → g x ++ xs ≡ g y ++ ys → (x ≡ y) × (xs ≡ ys)) where
  flat_told : (us ws : List A) (xs ys : List ℕ) → length us ≡ length ws → flat g us ++ xs ≡ flat g ws ++ ys → (us ≡ ws) × (xs ≡ ys)
  flat_told [] [] xs ys l e = (refl, e)
  flat_told [] (b ∷ ws) xs ys l e = absurd (omega arith)
  flat_told (a ∷ us) [] xs ys l e = absurd (omega arith)
  flat_told (a ∷ us) (b ∷ ws) xs ys l e =
      let h = tells a b (flat g us ++ xs) (flat g ws ++ ys) (sym (append_assoc (g a) (flat g us) xs) ∙ (e ∙ append_assoc (g b) (flat g ws) ys)) in
      let t = flat_told us ws xs ys (omega arith) h.1 in
      (ap₂ ◌∷◌ h.0 t.0, t.1)

pub length_flat : {A : Type 0} (g : A → List ℕ) (k : ℕ) → ((x : A) → length (g x) ≡ k) → (xs : List A) → length (flat g xs) ≡ k * length xs
length_flat g k h [] = omega (arith, mul-zero k)
length_flat g k h (x ∷ xs) = let i = length_flat g k h xs in let s = mul-suc k (length xs) in let a = length-append (g x) (flat g xs) in let e = h x in omega arith

reference_length : (b : Branch) → length (reference b) ≡ 3
reference_length (end c) = refl
reference_length (node i) = refl

pub line_length : (b : Option Branch) → length (line_reference b) ≡ 3
line_length None = refl
line_length (Some b) = reference_length b

pub node_length : (k : Node) → length (node_bytes k) ≡ 7
node_length k = let a = length-append (reference k.low) (reference k.high) in let l = reference_length k.low in let h = reference_length k.high in omega arith

cut_front : {A : Type 0} (xs ys zs : List A) → xs ++ ys ≡ xs ++ zs → ys ≡ zs
cut_front [] ys zs e = e
cut_front (x ∷ xs) ys zs e = cut_front xs ys zs (cc)

layout_size : (order : List ℕ) (l : Layout) → length (bytes order l) ≡ 8 + length order + 7 * length l.nodes + 3 * length l.lines
unfolding bytes
layout_size order l =
    let ns = flat node_bytes l.nodes in
    let ls = flat line_reference l.lines in
    let a = length-append order (two_bytes (length l.nodes) ++ (ns ++ ls)) in
    let b = length-append ns ls in
    let c = length_flat node_bytes 7 node_length l.nodes in
    let d = length_flat line_reference 3 line_length l.lines in
    omega arith

pub bytes_told : (order : List ℕ) (l m : Layout) → bytes order l ≡ bytes order m → l ≡ m
unfolding bytes
bytes_told order l m e =
    let nl = l.nodes in
    let nm = m.nodes in
    let xs = flat node_bytes nl ++ flat line_reference l.lines in
    let ys = flat node_bytes nm ++ flat line_reference m.lines in
    let t : order ++ (two_bytes (length nl) ++ xs) ≡ order ++ (two_bytes (length nm) ++ ys) = cc in
    let u : two_bytes (length nl) ++ xs ≡ two_bytes (length nm) ++ ys = cut_front order (two_bytes (length nl) ++ xs) (two_bytes (length nm) ++ ys) t in
    let p : length nl / 256 ≡ length nm / 256 = cc in
    let q : length nl % 256 ≡ length nm % 256 = cc in
    let v : xs ≡ ys = cc in
    let w = two_told (length nl) (length nm) p q in
    let r = flat_told node_bytes node_told nl nm (flat line_reference l.lines) (flat line_reference m.lines) w v in
    let s = layout_size order l in
    let z = layout_size order m in
    let y = ap length e in
    let k : length l.lines ≡ length m.lines = omega arith in
    let f : flat line_reference l.lines ++ [] ≡ flat line_reference m.lines ++ [] = ap (λ w. w ++ []) r.1 in
    let g = flat_told line_reference line_told l.lines m.lines [] [] k f in
    λ j. record { nodes = r.0 j; lines = g.0 j }

pub bytes_tell_trees : BytesTellTrees
bytes_tell_trees n order lines others f g = (
  λ e.
      let p = bytes_told order (layout n lines) (layout n others) e in
      sym (layout_reads_back n lines f) ∙ (ap (λ (l : Layout). map (each (tree (listed l.nodes) n 0)) l.lines) p ∙ layout_reads_back n others g),
  λ e. ap (λ ls. bytes order (layout n ls)) e,
)

pub bytes_length : BytesLength
unfolding layout
bytes_length n order e lines l =
    let ps = parts n 0 (held lines) in
    let s = layout_size order (layout n lines) in
    let a = length-map ps (λ k. row ps k.0 k.1) in
    let b = length-map lines (each (refer ps 0)) in
    omega arith

-- lines of selections have equal trees exactly where they are alike
views_alike : (n : ℕ) (order : List ℕ) → Order n order → (lines others : List (Option Selection)) → (views n order lines ≡ views n order others) ↔ LineForLine (Alike n) lines others
views_alike n order o [] [] = (λ e. tt, λ w. refl)
views_alike n order o [] (g ∷ gs) = (λ e. let z : ◌≡◌ {A = ℕ} 0 1 = cc in omega arith, λ w. absurd w)
views_alike n order o (f ∷ fs) [] = (λ e. let z : ◌≡◌ {A = ℕ} 0 1 = cc in omega arith, λ w. absurd w)
views_alike n order o (f ∷ fs) (g ∷ gs) =
    let ih = views_alike n order o fs gs in
    let a = alike f g in
    (λ e. (a.0 (cc), ih.0 (cc)), λ w. ap₂ ◌∷◌ (a.1 w.0) (ih.1 w.1))
  where
    alike : (f g : Option Selection) → (each (view_of n order) f ≡ each (view_of n order) g) ↔ Alike n f g
    alike None None = (λ e. tt, λ w. refl)
    alike None (Some g) = (λ e. let z : ◌≡◌ {A = ℕ} 0 1 = cc in omega arith, λ w. absurd w)
    alike (Some f) None = (λ e. let z : ◌≡◌ {A = ℕ} 0 1 = cc in omega arith, λ w. absurd w)
    alike (Some f) (Some g) = (λ e. (one_tree n order o f g).0 (cc), λ w. ap Some ((one_tree n order o f g).1 w))

views_full : (n : ℕ) (order : List ℕ) → length order ≡ n → (lines : List (Option Selection)) (t : Tree) → In (Some t) (views n order lines) → Full n t
views_full n order l lines t m =
    let r = from_map (view_of n order) t (held lines) (subst (In t) (held_map (view_of n order) lines) (in_held t (views n order lines) m)) in
    subst (Full n) (sym r.2) (subst (λ k. Full k (view_of n order r.0)) l (view_full n r.0 order all_low))

pub bytes_tell_selections : BytesTellSelections
bytes_tell_selections n order o lines others =
    let p = bytes_tell_trees n order (views n order lines) (views n order others) (views_full n order o.full lines) (views_full n order o.full others) in
    let q = views_alike n order o lines others in
    (λ e. q.0 (p.0 e), λ w. p.1 (q.1 w))

-- Bytes.

abbrev Bytes : List ℕ → Type 0
Bytes xs = (x : ℕ) → In x xs → x < 256

bytes_none : Bytes []
bytes_none x m = absurd m

bytes_one : (y : ℕ) (xs : List ℕ) → y < 256 → Bytes xs → Bytes (y ∷ xs)
bytes_one y xs l h x (inl e) = omega arith
bytes_one y xs l h x (inr m) = h x m

bytes-++ : (xs ys : List ℕ) → Bytes xs → Bytes ys → Bytes (xs ++ ys)
bytes-++ xs ys f g x m = elim (in-++ x xs ys m) [ inl p ↦ f x p | inr p ↦ g x p ]

bytes_flat : {A : Type 0} (g : A → List ℕ) (us : List A) → ((a : A) → In a us → Bytes (g a)) → Bytes (flat g us)
bytes_flat g [] h = bytes_none
bytes_flat g (a ∷ us) h = bytes-++ (g a) (flat g us) (h a (inl refl)) (bytes_flat g us (λ b m. h b (inr m)))

two_small : (x : ℕ) → x < 65536 → Bytes (two_bytes x)
two_small x l = bytes_one (x / 256) (x % 256 ∷ []) (omega arith) (bytes_one (x % 256) [] (omega arith) bytes_none)

-- the number in a branch
abbrev Fits : Branch → Type 0
Fits (end c) = c < 65536
Fits (node i) = i < 65536

reference_small : (b : Branch) → Fits b → Bytes (reference b)
reference_small (end c) l = bytes_one 0 (two_bytes c) (omega arith) (two_small c l)
reference_small (node i) l = bytes_one 1 (two_bytes i) (omega arith) (two_small i l)

spot_small : {A : Type 0} (eq : A → A → Bool) (xs : List A) (x : A) → spot eq xs x ≤ length xs
spot_small eq [] x = omega arith
spot_small eq (y ∷ ys) x = go (eq x y) (spot_small eq ys x)
  where
    go : (q : Bool) → spot eq ys x ≤ length ys → cond q 0 (suc (spot eq ys x)) ≤ suc (length ys)
    go true l = omega arith
    go false l = omega arith

module _ (ps : List Part) (few : length ps < 65536) where
  refer_small : (d : ℕ) (t : Tree) → CodesBelow 65536 t → Fits (refer ps d t)
  refer_small d (leaf c) h = h
  refer_small d (fork l r) h = go (matters (fork l r)) (refer_small (suc d) l h.0)
    where
      go : (q : Bool) → Fits (refer ps (suc d) l) → Fits (cond q (node (spot same_part ps (d, fork l r))) (refer ps (suc d) l))
      go true f = let z = spot_small same_part ps (d, fork l r) in omega arith
      go false f = f

  row_small : (d : ℕ) (t : Tree) → d < 256 → CodesBelow 65536 t → Bytes (node_bytes (row ps d t))
  row_small d (leaf c) l h = bytes_one d (reference (end c) ++ reference (end c)) l (bytes-++ (reference (end c)) (reference (end c)) (reference_small (end c) h) (reference_small (end c) h))
  row_small d (fork x y) l h =
      let a = refer ps (suc d) x in
      let b = refer ps (suc d) y in
      bytes_one d (reference a ++ reference b) l
      (bytes-++ (reference a) (reference b) (reference_small a (refer_small (suc d) x h.0)) (reference_small b (refer_small (suc d) y h.1)))

codes_half : (m : ℕ) (v : Bool) (t : Tree) → CodesBelow m t → CodesBelow m (half v t)
codes_half m v (leaf c) h = h
codes_half m false (fork l r) h = h.0
codes_half m true (fork l r) h = h.1

codes_remain : (m : ℕ) (vs : List Bool) (t : Tree) → CodesBelow m t → CodesBelow m (remains vs t)
codes_remain m [] t h = h
codes_remain m (v ∷ vs) t h = codes_remain m vs (half v t) (codes_half m v t h)

pub bytes_small : BytesSmall
unfolding bytes layout
bytes_small n order o ln lines codes few =
    bytes-++ (0x4C ∷ (0x53 ∷ (0x54 ∷ (0 ∷ (1 ∷ (length order ∷ [])))))) (order ++ (two_bytes (length ns) ++ (flat node_bytes ns ++ flat line_reference ls))) header rest
  where
    ps : List Part
    ps = parts n 0 (held lines)

    nodes : (k : Node) → In k (map (λ k. row ps k.0 k.1) ps) → Bytes (node_bytes k)
    nodes k m =
        let r = from_map (λ k. row ps k.0 k.1) k ps m in
        let p = from_parts n 0 (held lines) r.0 r.1 in
        let u = from_level p.0 (held lines) r.0.1 p.3 in
        let a = p.1 in
        let b = p.2 in
        let c : CodesBelow 65536 r.0.1 = subst (CodesBelow 65536) (sym u.2.2) (codes_remain 65536 u.2.0 u.0 (codes u.0 (from_held u.0 lines u.1))) in
        subst (λ z. Bytes (node_bytes z)) (sym r.2) (row_small ps few r.0.0 r.0.1 (omega arith) c)

    one : (t : Option Tree) → In t lines → Bytes (line_reference (each (refer ps 0) t))
    one None q = bytes_one 255 (0 ∷ (0 ∷ [])) (omega arith) (bytes_one 0 (0 ∷ []) (omega arith) (bytes_one 0 [] (omega arith) bytes_none))
    one (Some t) q = reference_small (refer ps 0 t) (refer_small ps few 0 t (codes t q))

    line : (b : Option Branch) → In b (map (each (refer ps 0)) lines) → Bytes (line_reference b)
    line b m = let r = from_map (each (refer ps 0)) b lines m in subst (λ z. Bytes (line_reference z)) (sym r.2) (one r.0 r.1)

    ns : List Node
    ns = map (λ k. row ps k.0 k.1) ps

    ls : List (Option Branch)
    ls = map (each (refer ps 0)) lines

    size : length ns < 65536
    size = let l = length-map ps (λ k. row ps k.0 k.1) in omega arith

    rest : Bytes (order ++ (two_bytes (length ns) ++ (flat node_bytes ns ++ flat line_reference ls)))
    rest =
        bytes-++ order (two_bytes (length ns) ++ (flat node_bytes ns ++ flat line_reference ls)) (λ x m. let l = o.small x m in omega arith)
        (bytes-++ (two_bytes (length ns)) (flat node_bytes ns ++ flat line_reference ls) (two_small (length ns) size)
        (bytes-++ (flat node_bytes ns) (flat line_reference ls) (bytes_flat node_bytes ns nodes) (bytes_flat line_reference ls line)))

    header : Bytes (0x4C ∷ (0x53 ∷ (0x54 ∷ (0 ∷ (1 ∷ (length order ∷ []))))))
    header x (inl e) = omega arith
    header x (inr (inl e)) = omega arith
    header x (inr (inr (inl e))) = omega arith
    header x (inr (inr (inr (inl e)))) = omega arith
    header x (inr (inr (inr (inr (inl e))))) = omega arith
    header x (inr (inr (inr (inr (inr (inl e)))))) = let l = o.full in omega arith
    header x (inr (inr (inr (inr (inr (inr m)))))) = absurd m
