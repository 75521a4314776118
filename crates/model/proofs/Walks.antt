-- Reading a diagram: by its tree, and from node to node.
use Rattle.std.proofs.Common.{◌≡◌, ℕ, suc, ◌+◌, ◌<◌, ◌≤◌, Bool, true, false, cond, eqb, ◌↔◌, List, [], ◌∷◌, length, get_or, sym, refl, ap, ◌∙◌, subst, ap₂, inl, inr, add-zero, zero-add, arith}
use Rattle.std.proofs.lemmas.Bool.{eqb-true}
use Rattle.model.specs.Lists.{In, Apart}
use Rattle.model.specs.Trees.{leaf, fork}
use Rattle.model.specs.Parts.{count}
use Rattle.model.specs.Selections.{Selection, Setting, all_low, put, address, pin, view, view_of, code_at, Agrees}
use Rattle.model.specs.Orders.{Order}
use Rattle.model.specs.Diagrams.{Table, side, next, code, tree, walk, meant, Ends, ended, sent, From, Ordered, Branch, end, node}
use Rattle.model.specs.Theorems.{ReadingFollows, ReadingEnds, TreeMeans, NoRivalFewer}
use Rattle.model.proofs.Settings.{address_small, pin_address, put_same, put_other}
use Rattle.model.proofs.Views.{tree_reads}
use Rattle.model.proofs.Least.{from_next, no_node, least}

-- the walk by a setting
abbrev steer : Table → List ℕ → ℕ → Branch → Setting → ℕ
steer T [] d b x = code b
steer T (p ∷ ps) d b x = steer T ps (suc d) (next T d (x p) b) x

walk_steer : (n : ℕ) (T : Table) (ps : List ℕ) (d : ℕ) (b : Branch) (x : Setting) → ((p : ℕ) → In p ps → p < n) → walk n T ps d b (address n x) ≡ steer T ps d b x
walk_steer n T [] d b x l = refl
walk_steer n T (p ∷ ps) d b x l =
    ap (λ v. walk n T ps (suc d) (next T d v b) (address n x)) (pin_address n x p (l p (inl refl)))
    ∙ walk_steer n T ps (suc d) (next T d (x p) b) x (λ q m. l q (inr m))

view_is : (n : ℕ) (f : ℕ → ℕ) (T : Table) (ps : List ℕ) (d : ℕ) (b : Branch) (s : Setting) → Apart ps
    → ((x : Setting) → ((q : ℕ) → (In q ps → ⊥) → x q ≡ s q) → steer T ps d b x ≡ f (address n x)) → view n f ps s ≡ tree T (length ps) d b
view_is n f T [] d b s a w = ap leaf (sym (w s (λ q z. refl)))
view_is n f T (p ∷ ps) d b s a w = ap₂ fork (half false (view_is n f T ps (suc d) (next T d false b) (put s p false) a.1)) (half true (view_is n f T ps (suc d) (next T d true b) (put s p true) a.1))
  where
    half : (v : Bool)
        → (((x : Setting) → ((q : ℕ) → (In q ps → ⊥) → x q ≡ put s p v q) → steer T ps (suc d) (next T d v b) x ≡ f (address n x)) → view n f ps (put s p v) ≡ tree T (length ps) (suc d) (next T d v b))
        → view n f ps (put s p v) ≡ tree T (length ps) (suc d) (next T d v b)
    half v ih =
        ih (λ x g.
        let e : x p ≡ v = g p a.0 ∙ put_same s p v in
        ap (λ u. steer T ps (suc d) (next T d u b) x) (sym e) ∙ w x (λ q no. g q (λ m. no (inr m)) ∙ put_other s p v q (λ z. no (inl z))))

-- a branch that means a selection has its tree
means : (n : ℕ) (order : List ℕ) → Order n order → (f : Selection) (T : Table) (b : Branch) → Agrees n (meant n T order b) f → view_of n order f ≡ tree T n 0 b
means n order o f T b h =
    view_is n f T order 0 b all_low o.once (λ x g. sym (walk_steer n T order 0 b x o.small) ∙ h (address n x) (address_small n x))
    ∙ ap (λ k. tree T k 0 b) o.full

walk_tree : (n : ℕ) (T : Table) (ps : List ℕ) (d : ℕ) (b : Branch) (a : ℕ) → walk n T ps d b a ≡ code_at (tree T (length ps) d b) ps (pin n a)
walk_tree n T [] d b a = refl
walk_tree n T (p ∷ ps) d b a = pick (pin n a p) (walk_tree n T ps (suc d) (next T d false b) a) (walk_tree n T ps (suc d) (next T d true b) a)
  where
    at : Bool → ℕ
    at v = code_at (tree T (length ps) (suc d) (next T d v b)) ps (pin n a)

    pick : (v : Bool) → walk n T ps (suc d) (next T d false b) a ≡ at false → walk n T ps (suc d) (next T d true b) a ≡ at true
        → walk n T ps (suc d) (next T d v b) a ≡ cond v (at true) (at false)
    pick false e g = e
    pick true e g = g

pub reading_follows : ReadingFollows
reading_follows n order l T b a = walk_tree n T order 0 b a ∙ ap (λ k. code_at (tree T k 0 b) order (pin n a)) l

pub tree_means : TreeMeans
tree_means n order o T b f = (
  λ e a l. reading_follows n order o.full T b a ∙ (ap (λ t. code_at t order (pin n a)) e ∙ tree_reads n order o f a l),
  λ h. sym (means n order o f T b h),
)

-- where an address that ends was before
abbrev Last : ℕ → Table → List ℕ → ℕ → Branch → ℕ → Type 0
Last n T order a (end e) c = e ≡ c
Last n T order a (node i) c = Ends n T order a (side (pin n a (get_or order (T i).place 0)) (T i)) c

last : {n : ℕ} {T : Table} {order : List ℕ} {a : ℕ} {b : Branch} {c : ℕ} → Ends n T order a b c → Last n T order a b c
last ended = refl
last (sent e) = e

module _ (n : ℕ) (T : Table) (order : List ℕ) (a : ℕ) where
  step : (d : ℕ) (b : Branch) (c : ℕ) → Ends n T order a b c ↔ Ends n T order a (next T d (pin n a (get_or order d 0)) b) c
  step d (end e) c = (λ x. x, λ x. x)
  step d (node i) c = go (eqb (T i).place d) refl
    where
      to : ℕ → Type 0
      to k = Ends n T order a (side (pin n a (get_or order k 0)) (T i)) c

      go : (q : Bool) → eqb (T i).place d ≡ q → Ends n T order a (node i) c ↔ Ends n T order a (cond q (side (pin n a (get_or order d 0)) (T i)) (node i)) c
      go true e = (λ x. subst to (eqb-true (T i).place d e) (last x), λ x. sent (subst to (sym (eqb-true (T i).place d e)) x))
      go false e = (λ x. x, λ x. x)

  walk_ends : (U : ℕ → Type 0) → Ordered n T U → (ps : List ℕ) (d : ℕ) (b : Branch) (c : ℕ) → d + length ps ≡ n → ((k : ℕ) → get_or ps k 0 ≡ get_or order (d + k) 0) → From U T d b
      → Ends n T order a b c ↔ (walk n T ps d b a ≡ c)
  walk_ends U o [] d (end e) c l h f = (λ x. last x, λ i. subst (Ends n T order a (end e)) i ended)
  walk_ends U o [] d (node i) c l h f = absurd (no_node n T U o d i l f)
  walk_ends U o (p ∷ ps) d b c l h f =
      let e : p ≡ get_or order d 0 = h 0 ∙ ap (λ k. get_or order k 0) (add-zero d) in
      let s = step d b c in
      let to : ℕ → Type 0 = λ q. Ends n T order a (next T d (pin n a q) b) c in
      let ih = walk_ends U o ps (suc d) (next T d (pin n a p) b) c (omega arith)
      (λ k. let z : d + suc k ≡ suc d + k = omega arith in h (suc k) ∙ ap (λ j. get_or order j 0) z)
      (from_next n T U o d (pin n a p) b f) in
      (λ x. ih.0 (subst to (sym e) (s.0 x)), λ y. s.1 (subst to e (ih.1 y)))

pub reading_ends : ReadingEnds
reading_ends n order l T us o b f a c =
    walk_ends n T order a (λ i. In i us) o order 0 b c (zero-add (length order) ∙ l) (λ k. ap (λ j. get_or order j 0) (sym (zero-add k))) f

pub no_rival_fewer : NoRivalFewer
no_rival_fewer n order o f T us b r =
    subst (λ t. count n t ≤ length us)
    ((tree_means n order o T b f).1 (λ a l. (reading_ends n order o.full T us r.ordered b r.entered a (f a)).0 (r.selects a l)))
    (least n T us b r.ordered r.entered)
