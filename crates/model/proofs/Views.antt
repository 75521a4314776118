-- Views: a selection is told by its tree, and the trees of joined and of strapped selections.
use Rattle.std.proofs.Common.{◌≡◌, ℕ, suc, ◌^◌, ◌<◌, Bool, true, false, cond, eqb, List, [], ◌∷◌, length, drop, sym, refl, ap, ◌∙◌, subst, ap₂, inl, inr, arith}
use Rattle.std.proofs.lemmas.Bool.{eqb-true, eqb-false}
use Rattle.model.specs.Lists.{In, Apart}
use Rattle.model.specs.Trees.{Tree, leaf, fork, Full, remains}
use Rattle.model.specs.Selections.{Selection, Setting, all_low, put, fix, address, pin, view, code_at}
use Rattle.model.specs.Orders.{place_in}
use Rattle.model.specs.Joins.{joined, strapped, join, strap}
use Rattle.model.specs.Theorems.{OneTree, OnePart, TreeReads, Joins, Straps}
use Rattle.model.proofs.Trees.{fork_left, fork_right, leaf_told, remains_leaf}
use Rattle.model.proofs.Settings.{address_small, pin_address, put_agree, put_put, put_swap, address_agree, address_pin, order_has, mix, mix_in}

pub view_agree : (n : ℕ) (f g : ℕ → ℕ) (ps : List ℕ) (s : Setting) → ((a : ℕ) → a < 2 ^ n → f a ≡ g a) → view n f ps s ≡ view n g ps s
view_agree n f g [] s h = ap leaf (h (address n s) (address_small n s))
view_agree n f g (p ∷ ps) s h = ap₂ fork (view_agree n f g ps (put s p false) h) (view_agree n f g ps (put s p true) h)

pub code_view : (n : ℕ) (f : ℕ → ℕ) (ps : List ℕ) (s x : Setting) → code_at (view n f ps s) ps x ≡ f (address n (mix ps s x))
code_view n f [] s x = refl
code_view n f (p ∷ ps) s x = go (x p) (code_view n f ps (put s p false) x) (code_view n f ps (put s p true) x)
  where
    go : (v : Bool) → code_at (view n f ps (put s p false)) ps x ≡ f (address n (mix ps (put s p false) x))
        → code_at (view n f ps (put s p true)) ps x ≡ f (address n (mix ps (put s p true) x))
        → cond v (code_at (view n f ps (put s p true)) ps x) (code_at (view n f ps (put s p false)) ps x) ≡ f (address n (mix ps (put s p v) x))
    go false a b = a
    go true a b = b

view_join : (n : ℕ) (ps : List ℕ) (s : Setting) (g : ℕ → ℕ → ℕ) (f h : ℕ → ℕ) → view n (joined g f h) ps s ≡ join g (view n f ps s) (view n h ps s)
view_join n [] s g f h = refl
view_join n (p ∷ ps) s g f h = ap₂ fork (view_join n ps (put s p false) g f h) (view_join n ps (put s p true) g f h)

view_setting : (n : ℕ) (f : ℕ → ℕ) (ps : List ℕ) (s t : Setting) → ((q : ℕ) → q < n → s q ≡ t q) → view n f ps s ≡ view n f ps t
view_setting n f [] s t h = ap (λ a. leaf (f a)) (address_agree n s t h)
view_setting n f (p ∷ ps) s t h =
    ap₂ fork
    (view_setting n f ps (put s p false) (put t p false) (λ q l. put_agree s t p false q (h q l)))
    (view_setting n f ps (put s p true) (put t p true) (λ q l. put_agree s t p true q (h q l)))

-- past its own place a strapped pin is put in the setting
past : (n p : ℕ) (v : Bool) (f : ℕ → ℕ) (ps : List ℕ) (s : Setting) → (In p ps → ⊥) → view n (strapped n p v f) ps s ≡ view n f ps (put s p v)
past n p v f [] s out =
    ap (λ a. leaf (f a)) (address_agree n (put (pin n (address n s)) p v) (put s p v) (λ q l. put_agree (pin n (address n s)) s p v q (pin_address n s q l)))
past n p v f (q ∷ qs) s out =
    ap₂ fork
    (past n p v f qs (put s q false) (λ m. out (inr m)) ∙ one false)
    (past n p v f qs (put s q true) (λ m. out (inr m)) ∙ one true)
  where
    one : (u : Bool) → view n f qs (put (put s q u) p v) ≡ view n f qs (put (put s p v) q u)
    one u = view_setting n f qs (put (put s q u) p v) (put (put s p v) q u) (λ j l. put_swap s q u p v (λ e. out (inl (sym e))) j)

pub view_strap : (n p : ℕ) (v : Bool) (f : ℕ → ℕ) (ps : List ℕ) (s : Setting) → Apart ps → In p ps → view n (strapped n p v f) ps s ≡ strap (place_in ps p) v (view n f ps s)
view_strap n p v f [] s a m = absurd m
view_strap n p v f (q ∷ qs) s a m = go (eqb p q) refl m (λ k. ap₂ fork (view_strap n p v f qs (put s q false) a.1 k) (view_strap n p v f qs (put s q true) a.1 k))
  where
    w : Bool → Tree
    w u = view n f qs (put s q u)

    pick : (u : Bool) → cond u (w true) (w false) ≡ w u
    pick false = refl
    pick true = refl

    here : p ≡ q → (u : Bool) → view n (strapped n p v f) qs (put s q u) ≡ cond v (w true) (w false)
    here e u =
        past n p v f qs (put s q u) (λ k. a.0 (subst (λ z. In z qs) e k))
        ∙ (view_setting n f qs (put (put s q u) p v) (put s q v) (λ j l. ap (λ z. put (put s q u) z v j) e ∙ put_put s q u v j) ∙ sym (pick v))

    go : (b : Bool) → eqb p q ≡ b → In p (q ∷ qs)
        → (In p qs → view n (strapped n p v f) (q ∷ qs) s ≡ fork (strap (place_in qs p) v (w false)) (strap (place_in qs p) v (w true)))
        → view n (strapped n p v f) (q ∷ qs) s ≡ strap (cond b 0 (suc (place_in qs p))) v (view n f (q ∷ qs) s)
    go true e k ih = ap₂ fork (here (eqb-true p q e) false) (here (eqb-true p q e) true)
    go false e (inl x) ih = absurd (eqb-false p q e x)
    go false e (inr k) ih = ih k

pub joins : Joins
joins n order g f h = view_join n order all_low g f h

pub straps : Straps
straps n order o p v f l = view_strap n p v f order all_low o.once (order_has n order o p l)

pub tree_reads : TreeReads
tree_reads n order o f a l =
    let x = pin n a in
    code_view n f order all_low x
    ∙ ap f (address_agree n (mix order all_low x) x (λ p k. mix_in order all_low x p (inr (order_has n order o p k))) ∙ address_pin n a l)

pub one_tree : OneTree
one_tree n order o f g = (
  λ e a l. sym (tree_reads n order o f a l) ∙ (ap (λ t. code_at t order (pin n a)) e ∙ tree_reads n order o g a l),
  λ h. view_agree n f g order all_low h,
)

pub one_part : OnePart
one_part n f g [] s t = (λ e vs l. leaf_told e, λ h. ap leaf (h [] refl))
one_part n f g (p ∷ ps) s t =
    let lo = one_part n f g ps (put s p false) (put t p false) in
    let hi = one_part n f g ps (put s p true) (put t p true) in (
      λ e vs l. there (lo.0 (fork_left e)) (hi.0 (fork_right e)) vs l,
      λ h. ap₂ fork (lo.1 (λ vs l. h (false ∷ vs) (ap suc l))) (hi.1 (λ vs l. h (true ∷ vs) (ap suc l))),
    )
  where
    there : ((vs : List Bool) → length vs ≡ length ps → f (address n (fix ps vs (put s p false))) ≡ g (address n (fix ps vs (put t p false))))
        → ((vs : List Bool) → length vs ≡ length ps → f (address n (fix ps vs (put s p true))) ≡ g (address n (fix ps vs (put t p true))))
        → (vs : List Bool) → length vs ≡ suc (length ps) → f (address n (fix (p ∷ ps) vs s)) ≡ g (address n (fix (p ∷ ps) vs t))
    there a b [] l = absurd (omega arith)
    there a b (false ∷ vs) l = a vs (omega arith)
    there a b (true ∷ vs) l = b vs (omega arith)

-- fixing the first pins of a view
pub remains_view : (n : ℕ) (f : Selection) (ps : List ℕ) (vs : List Bool) (s : Setting) → remains vs (view n f ps s) ≡ view n f (drop (length vs) ps) (fix ps vs s)
remains_view n f [] [] s = refl
remains_view n f [] (v ∷ vs) s = remains_leaf vs (f (address n s))
remains_view n f (p ∷ ps) [] s = refl
remains_view n f (p ∷ ps) (false ∷ vs) s = remains_view n f ps vs (put s p false)
remains_view n f (p ∷ ps) (true ∷ vs) s = remains_view n f ps vs (put s p true)

pub view_full : (n : ℕ) (f : Selection) (ps : List ℕ) (s : Setting) → Full (length ps) (view n f ps s)
view_full n f [] s = tt
view_full n f (p ∷ ps) s = (view_full n f ps (put s p false), view_full n f ps (put s p true))
