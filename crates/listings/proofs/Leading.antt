-- Fronts that grow by several nodes.
use Rattle.std.proofs.Common.{None, Some, Option, ◌≡◌, ℕ, ◌+◌, ◌<◌, Bool, true, false, cond, not, eqb, List, [], ◌∷◌, ◌++◌, length, get_or, take, sym, refl, ap, ◌∙◌, subst, ap₂}
use Rattle.std.proofs.lemmas.List.{append-nil, append_assoc, take_more}
use Rattle.model.specs.declared.Branch.{Branch}
use Rattle.model.specs.declared.Branch.TheVariants.{End as end, Node as node}
use Rattle.model.specs.Lists.{In, without, once, flat, held}
use Rattle.model.specs.Diagrams.{Table, next}
use Rattle.model.proofs.Onces.{tells_eqb, keep_swap, keep_twice}
use Rattle.tables.proofs.Marks.{root_held}
use Rattle.listings.specs.Fronts.{nodes_of, leads, Small, Grown, Meets, MeetsBoth, LeadsInside, AllShort}
use Rattle.model.proofs.Lists.{in_get_or}

without_once : (x : ℕ) (zs ys : List ℕ) → without eqb x (once eqb (without eqb x zs ++ ys)) ≡ without eqb x (once eqb (zs ++ ys))
without_once x [] ys = refl
without_once x (z ∷ zs) ys = go (eqb x z) refl (without_once x zs ys)
  where
    u : List ℕ
    u = once eqb (zs ++ ys)

    w : List ℕ
    w = once eqb (without eqb x zs ++ ys)

    go : (q : Bool) → eqb x z ≡ q → without eqb x w ≡ without eqb x u
        → without eqb x (once eqb (cond (not q) (z ∷ without eqb x zs) (without eqb x zs) ++ ys)) ≡ without eqb x (z ∷ without eqb z u)
    go true e ih =
        ih ∙ (sym (keep_twice (λ y. not (eqb x y)) u)
        ∙ (ap (λ y. without eqb x (without eqb y u)) (tells_eqb.is x z e)
        ∙ sym (ap (λ q. cond (not q) (z ∷ without eqb x (without eqb z u)) (without eqb x (without eqb z u))) e)))
    go false e ih =
        ap (λ q. cond (not q) (z ∷ without eqb x (without eqb z w)) (without eqb x (without eqb z w))) e
        ∙ (ap (λ v. z ∷ v) (keep_swap (λ y. not (eqb x y)) (λ y. not (eqb z y)) w ∙ (ap (without eqb z) ih ∙ keep_swap (λ y. not (eqb z y)) (λ y. not (eqb x y)) u))
        ∙ sym (ap (λ q. cond (not q) (z ∷ without eqb x (without eqb z u)) (without eqb x (without eqb z u))) e))

once_again : (xs ys : List ℕ) → once eqb (once eqb xs ++ ys) ≡ once eqb (xs ++ ys)
once_again [] ys = refl
once_again (x ∷ xs) ys = ap (λ z. x ∷ z) (without_once x (once eqb xs) ys ∙ ap (without eqb x) (once_again xs ys))

-- one growth after another
pub grown_more : (size : ℕ) (xs ys zs is seen is' seen' : List ℕ) → Grown size xs ys is seen → Grown size is zs is' seen' → Grown size xs (ys ++ zs) is' seen'
grown_more size xs ys zs is seen is' seen' g h = record {
  front = h.front;
  holds = h.holds ∙ (ap (λ l. once eqb (l ++ zs)) g.holds ∙ (once_again (xs ++ ys) zs ∙ ap (once eqb) (append_assoc xs ys zs)));
}

two_branches : (b e : Branch) → nodes_of (b ∷ (e ∷ [])) ≡ nodes_of (b ∷ []) ++ nodes_of (e ∷ [])
two_branches (end c) e = refl
two_branches (node i) e = refl

-- where a node leads
pub both_met : (T : Table) (d i : ℕ) (low high : Branch) → low ≡ next T d false (node i) → high ≡ next T d true (node i) → (size size₁ : ℕ) → size₁ ≡ size
    → (is seen is₁ seen₁ is₂ seen₂ : List ℕ) → Meets size is seen low is₁ seen₁ → Meets size₁ is₁ seen₁ high is₂ seen₂ → MeetsBoth T d i size is seen is₂ seen₂
both_met T d i low high el eh size size₁ same is seen is₁ seen₁ is₂ seen₂ a b f small =
    let g = a f (subst (λ (x : Branch). Small size x) (sym el) (small false)) in
    let c = subst (λ (x : ℕ). Meets x is₁ seen₁ high is₂ seen₂) same b in
    let h = c g.front (subst (λ (x : Branch). Small size x) (sym eh) (small true)) in
    let k = grown_more size is (nodes_of (low ∷ [])) (nodes_of (high ∷ [])) is₁ seen₁ is₂ seen₂ g h in
    subst (λ (xs : List ℕ). Grown size is xs is₂ seen₂) (sym (two_branches low high) ∙ ap₂ (λ x y. nodes_of (x ∷ (y ∷ []))) el eh) k

flat_push : (g : ℕ → List ℕ) (xs : List ℕ) (x : ℕ) → flat g (xs ++ (x ∷ [])) ≡ flat g xs ++ g x
flat_push g [] x = append-nil (g x)
flat_push g (y ∷ ys) x = ap (λ z. g y ++ z) (flat_push g ys x) ∙ sym (append_assoc (g y) (flat g ys) (g x))

-- the next front, as far as the front was gone through
abbrev pub SoFar : Table → ℕ → List ℕ → ℕ → ℕ → List ℕ → List ℕ → Type 0
SoFar T d front k size is seen = length seen ≡ size → AllShort front → LeadsInside size T d front → Grown size [] (flat (leads T d) (take k front)) is seen

pub one_further : (T : Table) (d : ℕ) (front : List ℕ) (k i size size₁ : ℕ) (is seen is' seen' : List ℕ)
    → k < length front → (get_or front k 0 < 65536 → i ≡ get_or front k 0) → size₁ ≡ size → length seen' ≡ length seen
    → MeetsBoth T d i size₁ is seen is' seen' → SoFar T d front k size is seen → SoFar T d front (k + 1) size is' seen'
one_further T d front k i size size₁ is seen is' seen' less numbered same same_seen meets far wide short leading =
    let m = in_get_or front k less in
    let e = numbered (short (get_or front k 0) m) in
    let g = far (sym same_seen ∙ wide) short leading in
    let meets' = subst (λ (x : ℕ). MeetsBoth T d i x is seen is' seen') same meets in
    let h = meets' g.front (λ v. subst (λ (x : ℕ). Small size (next T d v (node x))) (sym e) (leading (get_or front k 0) m v)) in
    subst (λ (xs : List ℕ). Grown size [] xs is' seen')
    (ap (λ x. flat (leads T d) (take k front) ++ leads T d x) e ∙ (sym (flat_push (leads T d) (take k front) (get_or front k 0)) ∙ ap (flat (leads T d)) (sym (take_more front k 0 less))))
    (grown_more size [] (flat (leads T d) (take k front)) (leads T d i) is seen is' seen' g h)

-- the front of lines, as far as they were gone through
abbrev pub LinesSoFar : List (Option Branch) → ℕ → ℕ → List ℕ → List ℕ → Type 0
LinesSoFar lines k size is seen = length seen ≡ size → ((b : Branch) → In b (held lines) → Small size b) → Grown size [] (nodes_of (held (take k lines))) is seen

roots_push : (xs : List (Option Branch)) (x : Option Branch) → nodes_of (held (xs ++ (x ∷ []))) ≡ nodes_of (held xs) ++ nodes_of (held (x ∷ []))
roots_push [] x = refl
roots_push (None ∷ xs) x = roots_push xs x
roots_push (Some (end c) ∷ xs) x = roots_push xs x
roots_push (Some (node i) ∷ xs) x = ap (λ z. i ∷ z) (roots_push xs x)

module _ (lines : List (Option Branch)) (k : ℕ) (less : k < length lines) (size : ℕ) (is seen : List ℕ) where
  one_more : (l : Option Branch) → get_or lines k None ≡ l → nodes_of (held (take (k + 1) lines)) ≡ nodes_of (held (take k lines)) ++ nodes_of (held (l ∷ []))
  one_more l e = ap (λ ls. nodes_of (held ls)) (take_more lines k None less) ∙ (roots_push (take k lines) (get_or lines k None) ∙ ap (λ x. nodes_of (held (take k lines)) ++ nodes_of (held (x ∷ []))) e)

  pub line_passed : get_or lines k None ≡ None → LinesSoFar lines k size is seen → LinesSoFar lines (k + 1) size is seen
  line_passed e far wide small = subst (λ (xs : List ℕ). Grown size [] xs is seen) (sym (one_more None e ∙ append-nil (nodes_of (held (take k lines))))) (far wide small)

  pub line_met : (b : Branch) → get_or lines k None ≡ Some b → (size₁ : ℕ) → size₁ ≡ size → (is' seen' : List ℕ) → length seen' ≡ length seen
      → Meets size₁ is seen b is' seen' → LinesSoFar lines k size is seen → LinesSoFar lines (k + 1) size is' seen'
  line_met b e size₁ same is' seen' same_seen meets far wide small =
      let g = far (sym same_seen ∙ wide) small in
      let meets' = subst (λ (x : ℕ). Meets x is seen b is' seen') same meets in
      let h = meets' g.front (small b (root_held lines k b less e)) in
      subst (λ (xs : List ℕ). Grown size [] xs is' seen') (sym (one_more (Some b) e)) (grown_more size [] (nodes_of (held (take k lines))) (nodes_of (b ∷ [])) is seen is' seen' g h)
