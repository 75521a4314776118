-- Among reduced nodes a branch is told by its tree.
use Rattle.std.proofs.Common.{◌≡◌, ℕ, zero, suc, ◌+◌, ◌-◌, Bool, true, false, cond, eqb, ◌⊎◌, sym, refl, ap, ◌∙◌, subst, inl, inr, arith}
use Rattle.std.proofs.lemmas.Bool.{eqb-true, not_from_false}
use Rattle.model.specs.Trees.{matters}
use Rattle.model.specs.Parts.{Part}
use Rattle.model.specs.Diagrams.{Table, side, next, tree, key, From, Ordered, Reduced, Branch, end, node}
use Rattle.model.proofs.Trees.{same_ne, fork_left, fork_right, leaf_told}
use Rattle.model.proofs.Least.{from_next, no_node}

-- a branch passes over the pin at place d
pub record Passes (T : Table) (d : ℕ) (b : Branch) : Type 0 where
  pub stays : (s : Bool) → next T d s b ≡ b

-- a branch is a node that asks the pin at place d
pub record Asks (T : Table) (U : ℕ → Type 0) (d : ℕ) (b : Branch) : Type 0 where
  pub i : ℕ
  pub used : U i
  pub is : b ≡ node i
  pub here : (T i).place ≡ d
  pub goes : (s : Bool) → next T d s b ≡ side s (T i)

pub asks : (T : Table) (U : ℕ → Type 0) (d : ℕ) (b : Branch) → From U T d b → Passes T d b ⊎ Asks T U d b
asks T U d (end c) f = inl (record { stays = λ s. refl })
asks T U d (node i) f = go (eqb (T i).place d) refl
  where
    go : (q : Bool) → eqb (T i).place d ≡ q → Passes T d (node i) ⊎ Asks T U d (node i)
    go true e =
        inr (record { i = i; used = f.0; is = refl; here = eqb-true (T i).place d e; goes = λ s. ap (λ q. cond q (side s (T i)) (node i)) e })
    go false e = inl (record { stays = λ s. ap (λ q. cond q (side s (T i)) (node i)) e })

abbrev index : Branch → ℕ
index (end c) = c
index (node i) = i

pub node_inj : (i k : ℕ) → node i ≡ node k → i ≡ k
node_inj i k e = ap index e

-- no node has both branches to one branch
forks : (T : Table) (U : ℕ → Type 0) (d : ℕ) → Reduced T U → (b e : Branch) → Asks T U d b → (next T d false b ≡ e) → (next T d true b ≡ e) → ⊥
forks T U d r b e a p q = r.tested a.i a.used ((sym (a.goes false) ∙ p) ∙ (sym q ∙ a.goes true))

same_next : (T : Table) (U : ℕ → Type 0) (d : ℕ) → Reduced T U → (b e : Branch) → Passes T d b ⊎ Asks T U d b → Passes T d e ⊎ Asks T U d e
    → next T d false b ≡ next T d false e → next T d true b ≡ next T d true e → b ≡ e
same_next T U d r b e (inl x) (inl y) p q = sym (x.stays false) ∙ (p ∙ y.stays false)
same_next T U d r b e (inl x) (inr y) p q = absurd (forks T U d r e b y (sym p ∙ x.stays false) (sym q ∙ x.stays true))
same_next T U d r b e (inr x) (inl y) p q = absurd (forks T U d r b e x (p ∙ y.stays false) (q ∙ y.stays true))
same_next T U d r b e (inr x) (inr y) p q =
    let places : (T x.i).place ≡ (T y.i).place = x.here ∙ sym y.here in
    let lows : (T x.i).low ≡ (T y.i).low = sym (x.goes false) ∙ (p ∙ y.goes false) in
    let highs : (T x.i).high ≡ (T y.i).high = sym (x.goes true) ∙ (q ∙ y.goes true) in
    let alike : T x.i ≡ T y.i = λ j. record { place = places j; low = lows j; high = highs j } in
    x.is ∙ (ap node (r.shared x.i y.i x.used y.used alike) ∙ sym y.is)

-- two branches of one tree are one
pub told : (n : ℕ) (T : Table) (U : ℕ → Type 0) → Ordered n T U → Reduced T U → (h d : ℕ) (b e : Branch) → d + h ≡ n
    → From U T d b → From U T d e → tree T h d b ≡ tree T h d e → b ≡ e
told n T U o r zero d (end a) (end c) eq f g t = ap end (leaf_told t)
told n T U o r zero d (end a) (node i) eq f g t = absurd (no_node n T U o d i eq g)
told n T U o r zero d (node i) e eq f g t = absurd (no_node n T U o d i eq f)
told n T U o r (suc h) d b e eq f g t =
    same_next T U d r b e (asks T U d b f) (asks T U d e g)
    (told n T U o r h (suc d) (next T d false b) (next T d false e) (omega arith) (from_next n T U o d false b f) (from_next n T U o d false e g) (fork_left t))
    (told n T U o r h (suc d) (next T d true b) (next T d true e) (omega arith) (from_next n T U o d true b f) (from_next n T U o d true e g) (fork_right t))

-- a node that asks has a tree that matters
pub asks_matters : (n : ℕ) (T : Table) (U : ℕ → Type 0) → Ordered n T U → Reduced T U → (h d : ℕ) (b : Branch) → d + suc h ≡ n → From U T d b → Asks T U d b
    → matters (tree T (suc h) d b) ≡ true
asks_matters n T U o r h d b e f a =
    not_from_false _
    (same_ne _ _ (λ t. r.tested a.i a.used
    (sym (a.goes false) ∙ (told n T U o r h (suc d) (next T d false b) (next T d true b) (omega arith) (from_next n T U o d false b f) (from_next n T U o d true b f) t ∙ a.goes true))))

-- two nodes of one place and tree are one
pub key_told : (n : ℕ) (T : Table) (U : ℕ → Type 0) → Ordered n T U → Reduced T U → (i k : ℕ) → U i → U k → key n T i ≡ key n T k → i ≡ k
key_told n T U o r i k u v e =
    let p : (T i).place ≡ (T k).place = ap (λ (w : Part). w.0) e in
    let q = o.within i u in
    let t : tree T (n - (T i).place) (T i).place (node i) ≡ tree T (n - (T i).place) (T i).place (node k) =
    subst (λ w. tree T (n - (T i).place) (T i).place (node i) ≡ tree T (n - w) w (node k)) (sym p) (ap (λ (w : Part). w.1) e) in
    node_inj i k (told n T U o r (n - (T i).place) (T i).place (node i) (node k) (omega arith) (u, omega arith) (v, omega arith) t)
