-- Whether every code of a diagram passes.
use Rattle.std.proofs.Common.{◌≡◌, ℕ, zero, suc, ◌+◌, ◌-◌, ◌^◌, ◌<◌, Bool, true, false, cond, ◌&&◌, eqb, List, [], ◌∷◌, length, Some, IsTrue, EachIndex, ◌↔◌, sym, refl, ap, ◌∙◌, subst, inl, inr, arith}
use Rattle.std.proofs.lemmas.Bool.{and_parts, and_from, both_ways, eqb-true, eqb-false}
use Rattle.model.specs.declared.Branch.{Branch}
use Rattle.model.specs.declared.Branch.TheVariants.{End as end, Node as node}
use Rattle.model.specs.declared.Node.{Node}
use Rattle.model.specs.Lists.{In}
use Rattle.model.specs.Trees.{Tree}
use Rattle.model.specs.Selections.{Selection, Setting, all_low, put, address, pin, view, code_at}
use Rattle.model.specs.Diagrams.{Table, listed, side, next, follow, From, Ordered, tree}
use Rattle.model.proofs.Settings.{address_small}
use Rattle.model.proofs.Views.{tree_reads}
use Rattle.model.proofs.Least.{from_next, no_node}
use Rattle.tables.specs.States.{Live}
use Rattle.tables.specs.Markings.{Diagram, MarkedFrom, MarksRoots}
use Rattle.tables.proofs.Marks.{live_inside, roots_marked}
use Rattle.growths.specs.Codes.{all_codes, end_passes, node_passes, Passes, EveryAddressPasses}

module _ (p : ℕ → Bool) (n : ℕ) (T : Table) (U : ℕ → Type 0) (o : Ordered n T U) where
  end_codes : (h d c : ℕ) → all_codes p (tree T h d (end c)) ≡ p c
  end_codes zero d c = refl
  end_codes (suc h) d c = ap (λ x. x && x) (end_codes h (suc d) c) ∙ twice (p c)
    where
      twice : (x : Bool) → (x && x) ≡ x
      twice true = refl
      twice false = refl

  next_passes : ((i : ℕ) → U i → (v : Bool) → end_passes p (side v (T i)) ≡ true) → (d : ℕ) (v : Bool) (b : Branch) → From U T d b → end_passes p b ≡ true → end_passes p (next T d v b) ≡ true
  next_passes all d v (end c) f e = e
  next_passes all d v (node i) f e = go (eqb (T i).place d)
    where
      go : (q : Bool) → end_passes p (cond q (side v (T i)) (node i)) ≡ true
      go true = all i f.0 v
      go false = refl

  -- where the sides of all nodes pass, the codes of every tree do
  pub codes_from_ends : ((i : ℕ) → U i → (v : Bool) → end_passes p (side v (T i)) ≡ true)
      → (h d : ℕ) (b : Branch) → d + h ≡ n → From U T d b → end_passes p b ≡ true → all_codes p (tree T h d b) ≡ true
  codes_from_ends all zero d (end c) e f q = q
  codes_from_ends all zero d (node i) e f q = absurd (no_node n T U o d i e f)
  codes_from_ends all (suc h) d b e f q =
      and_from (all_codes p (tree T h (suc d) (next T d false b))) (all_codes p (tree T h (suc d) (next T d true b)))
      (codes_from_ends all h (suc d) (next T d false b) (omega arith) (from_next n T U o d false b f) (next_passes all d false b f q))
      (codes_from_ends all h (suc d) (next T d true b) (omega arith) (from_next n T U o d true b f) (next_passes all d true b f q))

  end_from_codes : (h d : ℕ) (b : Branch) → all_codes p (tree T h d b) ≡ true → end_passes p b ≡ true
  end_from_codes h d (end c) e = sym (end_codes h d c) ∙ e
  end_from_codes h d (node i) e = refl

  -- the codes of a node's tree are those of its sides
  side_codes : (h d k : ℕ) → d + h ≡ n → From U T d (node k) → all_codes p (tree T h d (node k)) ≡ true
      → (v : Bool) → all_codes p (tree T (n - suc (T k).place) (suc (T k).place) (side v (T k))) ≡ true
  side_codes zero d k e f q v = absurd (no_node n T U o d k e f)
  side_codes (suc h) d k e f q v = go (eqb (T k).place d) refl q (side_codes h (suc d) k (omega arith))
    where
      pick : (l r : Tree) (v : Bool) → (all_codes p l && all_codes p r) ≡ true → all_codes p (cond v r l) ≡ true
      pick l r true w = (and_parts (all_codes p l) (all_codes p r) w).1
      pick l r false w = (and_parts (all_codes p l) (all_codes p r) w).0

      side_is : (v : Bool) (j : ℕ) → cond v (tree T h j (T k).high) (tree T h j (T k).low) ≡ tree T h j (side v (T k))
      side_is true j = refl
      side_is false j = refl

      go : (z : Bool) → eqb (T k).place d ≡ z
          → (all_codes p (tree T h (suc d) (cond z (T k).low (node k))) && all_codes p (tree T h (suc d) (cond z (T k).high (node k)))) ≡ true
          → (From U T (suc d) (node k) → all_codes p (tree T h (suc d) (node k)) ≡ true → (v : Bool) → all_codes p (tree T (n - suc (T k).place) (suc (T k).place) (side v (T k))) ≡ true)
          → all_codes p (tree T (n - suc (T k).place) (suc (T k).place) (side v (T k))) ≡ true
      go true here w ih =
          let same : (T k).place ≡ d = eqb-true (T k).place d here in
          let left : h ≡ n - suc (T k).place = omega arith in
          subst (λ j. all_codes p (tree T j (suc (T k).place) (side v (T k))) ≡ true) left
          (subst (λ j. all_codes p (tree T h (suc j) (side v (T k))) ≡ true) (sym same)
          (ap (all_codes p) (sym (side_is v (suc d))) ∙ pick (tree T h (suc d) (T k).low) (tree T h (suc d) (T k).high) v w))
      go false other w ih =
          ih (f.0, let ne = eqb-false (T k).place d other in let l = f.1 in omega arith) (and_parts (all_codes p (tree T h (suc d) (node k))) (all_codes p (tree T h (suc d) (node k))) w).0 v

  -- the codes of a root are those of every node that is reached from it
  pub ends_from_codes : (vs : List Bool) (h d : ℕ) (b : Branch) (i : ℕ) → d + h ≡ n → From U T d b → all_codes p (tree T h d b) ≡ true → follow T vs b ≡ node i
      → (v : Bool) → end_passes p (side v (T i)) ≡ true
  ends_from_codes [] h d b i e f q w v =
      end_from_codes (n - suc (T i).place) (suc (T i).place) (side v (T i))
      (side_codes h d i e (subst (From U T d) w f) (subst (λ x. all_codes p (tree T h d x) ≡ true) w q) v)
  ends_from_codes (u ∷ vs) h d (end c) i e f q w v = absurd (let z : ◌≡◌ {A = ℕ} 0 1 = cc in omega arith)
  ends_from_codes (u ∷ vs) h d (node k) i e f q w v =
      let l = o.within k f.0 in
      ends_from_codes vs (n - suc (T k).place) (suc (T k).place) (side u (T k)) i (omega arith) (o.rising k f.0 u) (side_codes h d k e f q u) w v

not_true_false : (x : Bool) → (x ≡ true → ⊥) → false ≡ x
not_true_false true h = absurd (h refl)
not_true_false false h = refl

module _ (p : ℕ → Bool) (n : ℕ) (nodes : List Node) (size : List ℕ) (root : Branch) where
  pub fails_length : (length size ≡ length nodes → ⊥) → Passes p n nodes size root false
  fails_length ne us dg long f = absurd (ne long)

  pub fails_root : end_passes p root ≡ false → Passes p n nodes size root false
  fails_root bad us dg long f =
      not_true_false _ (λ e. both_ways (end_passes p root) bad (end_from_codes p n (listed nodes) (λ i. In i us) dg.ordered n 0 root e))

  -- the marks are on what is reached from the root
  module _ (marks : List ℕ) (same : length marks ≡ length size) (reached : MarksRoots n nodes (Some root ∷ []) marks) where
    marked : (us : List ℕ) → Diagram n nodes us → length size ≡ length nodes → From (λ i. In i us) (listed nodes) 0 root → MarkedFrom n nodes (root ∷ []) marks
    marked us dg long f = reached us dg (same ∙ long) (λ b m. elim m [ inl e ↦ subst (From (λ i. In i us) (listed nodes) 0) (sym e) f | inr z ↦ absurd z ])

    -- the root passes, and r says whether each marked node does
    pub passes_marked : end_passes p root ≡ true → (r : Bool) → IsTrue r ↔ EachIndex nodes (λ i. Live marks i → node_passes p (listed nodes i) ≡ true) → Passes p n nodes size root r
    passes_marked good true is us dg long f =
        let m = marked us dg long f in
        let ends : (i : ℕ) → Live marks i → (v : Bool) → end_passes p (side v (listed nodes i)) ≡ true = λ i l v.
        a_side (listed nodes i) v (is.0 refl i (let b = live_inside marks i l in omega arith) l) in
        sym (codes_from_ends p n (listed nodes) (Live marks) m.ordered ends n 0 root (omega arith) (roots_marked n nodes (root ∷ []) marks m root (inl refl)) good)
      where
        a_side : (k : Node) (v : Bool) → node_passes p k ≡ true → end_passes p (side v k) ≡ true
        a_side k true e = (and_parts (end_passes p k.low) (end_passes p k.high) e).1
        a_side k false e = (and_parts (end_passes p k.low) (end_passes p k.high) e).0
    passes_marked good false is us dg long f =
        not_true_false _ (λ q.
        both_ways false refl (is.1 (λ i b l.
        let r = ((marked us dg long f).exact i).0 l in
        let e : r.0 ≡ root = elim r.1 [ inl q ↦ q | inr z ↦ absurd z ] in
        let ends = ends_from_codes p n (listed nodes) (λ i. In i us) dg.ordered r.2.0 n 0 root i (omega arith) f q (subst (λ b. follow (listed nodes) r.2.0 b ≡ node i) e r.2.1) in
        and_from (end_passes p (listed nodes i).low) (end_passes p (listed nodes i).high) (ends false) (ends true))))

-- all codes of a view pass where the codes at all addresses do
view_passes : (n : ℕ) (p : ℕ → Bool) (f : Selection) → ((a : ℕ) → a < 2 ^ n → p (f a) ≡ true) → (ps : List ℕ) (s : Setting) → all_codes p (view n f ps s) ≡ true
view_passes n p f h [] s = h (address n s) (address_small n s)
view_passes n p f h (q ∷ ps) s =
    and_from (all_codes p (view n f ps (put s q false))) (all_codes p (view n f ps (put s q true))) (view_passes n p f h ps (put s q false)) (view_passes n p f h ps (put s q true))

-- each code that is read from a view passes where all its codes do
read_passes : (n : ℕ) (p : ℕ → Bool) (f : Selection) (ps : List ℕ) (s x : Setting) → all_codes p (view n f ps s) ≡ true → p (code_at (view n f ps s) ps x) ≡ true
read_passes n p f [] s x e = e
read_passes n p f (q ∷ ps) s x e =
    let w = and_parts (all_codes p (view n f ps (put s q false))) (all_codes p (view n f ps (put s q true))) e in
    go (x q) (read_passes n p f ps (put s q false) x w.0) (read_passes n p f ps (put s q true) x w.1)
  where
    go : (z : Bool) → p (code_at (view n f ps (put s q false)) ps x) ≡ true → p (code_at (view n f ps (put s q true)) ps x) ≡ true
        → p (cond z (code_at (view n f ps (put s q true)) ps x) (code_at (view n f ps (put s q false)) ps x)) ≡ true
    go true l r = r
    go false l r = l

pub every_address_passes : EveryAddressPasses
every_address_passes n order o p f = (
  λ e a l. ap p (sym (tree_reads n order o f a l)) ∙ read_passes n p f order all_low (pin n a) e,
  λ h. view_passes n p f h order all_low,
)
