-- Marking what is reached.
use Rattle.std.proofs.Common.{None, Some, Option, ◌≡◌, ℕ, zero, suc, ◌+◌, ◌<◌, ◌≤◌, Bool, true, false, ◌⊎◌, List, [], ◌∷◌, ◌++◌, length, get_or, take, set, sym, refl, ap, ◌∙◌, subst, inl, inr, add-one, arith, get_or-set_other, get_or-set_same}
use Rattle.std.proofs.lemmas.Bool.{cases_lt, cases_eq}
use Rattle.std.proofs.lemmas.List.{get_or_past, take_more, take_all}
use Rattle.model.specs.declared.Branch.{Branch}
use Rattle.model.specs.declared.Branch.TheVariants.{End as end, Node as node}
use Rattle.model.specs.declared.Node.{Node}
use Rattle.model.specs.Lists.{In, held}
use Rattle.model.specs.Diagrams.{Table, blank, listed, side, follow, From, Reduced, Reached}
use Rattle.model.proofs.Lists.{in-++, in-++-left, in-++-right}
use Rattle.model.proofs.Reach.{follow_in}
use Rattle.tables.specs.States.{Live}
use Rattle.tables.specs.Markings.{Marked, Marking, Diagram, Marks, MarkedFrom}

pub live_inside : (marks : List ℕ) (i : ℕ) → Live marks i → i < length marks
live_inside marks i h = elim (cases_lt i (length marks)) [ inl l ↦ l | inr g ↦ (let e : get_or marks i 0 ≡ 0 = get_or_past marks i 0 g in absurd (omega arith)) ]

-- a positive entry stays positive when an entry is made positive
pub live_set : (marks : List ℕ) (p v i : ℕ) → 0 < v → Live marks i → Live (set marks p v) i
live_set marks p v i hv h =
    elim (cases_eq i p) [
      | inl e ↦
          (let l : p < length marks = subst (λ z. z < length marks) e (live_inside marks i h) in
          subst (Live (set marks p v)) (sym e) (subst (λ z. 0 < z) (sym (get_or-set_same marks p v 0 l)) hv))
      | inr ne ↦ subst (λ z. 0 < z) (sym (get_or-set_other marks p i v 0 ne)) h
    ]

pub set_live : (marks : List ℕ) (i : ℕ) → i < length marks → Live (set marks i 1) i
set_live marks i l = subst (λ z. 0 < z) (sym (get_or-set_same marks i 1 0 l)) (omega arith)

pub live_or : (marks : List ℕ) (i k : ℕ) → Live (set marks i 1) k → (k ≡ i) ⊎ Live marks k
live_or marks i k h = elim (cases_eq k i) [ inl e ↦ inl e | inr ne ↦ inr (subst (λ z. 0 < z) (get_or-set_other marks i k 1 0 ne) h) ]

-- the nodes of a reduced diagram stand in the table
pub in_table : (T : List Node) (U : ℕ → Type 0) → Reduced (listed T) U → (i : ℕ) → U i → i < length T
in_table nodes U r i u =
    elim (cases_lt i (length nodes)) [
      | inl l ↦ l
      | inr g ↦ (let e : listed nodes i ≡ blank = get_or_past nodes i blank g in absurd (r.tested i u (ap (λ (k : Node). k.low) e ∙ sym (ap (λ (k : Node). k.high) e))))
    ]

marked_wider : (marks marks' : List ℕ) → ((i : ℕ) → Live marks i → Live marks' i) → (b : Branch) → Marked marks b → Marked marks' b
marked_wider marks marks' w (end c) m = tt
marked_wider marks marks' w (node i) m = w i m

pub marking_done : (T : Table) (marks : List ℕ) (b : Branch) → Marked marks b → Marking T marks b marks
marking_done T marks b m = record { grows = λ i l. l; entered = m; closed = λ i l. inl l; reached = λ i l. inl l }

marking_node : (T : Table) (m : List ℕ) (i : ℕ) → i < length m → (m₂ m₃ : List ℕ) → Marking T (set m i 1) (T i).low m₂ → Marking T m₂ (T i).high m₃ → Marking T m (node i) m₃
marking_node T m i fits m₂ m₃ lo hi =
    record {
      grows = λ j l. hi.grows j (lo.grows j (live_set m i 1 j (omega arith) l));
      entered = hi.grows i (lo.grows i (set_live m i fits));
      closed = λ j l.
          elim (hi.closed j l) [
            | inr q ↦ inr q
            | inl l₂ ↦ elim (lo.closed j l₂) [
              | inr q ↦ inr (λ v. marked_wider m₂ m₃ hi.grows (side v (T j)) (q v))
              | inl l₁ ↦ elim (live_or m i j l₁) [ inr g ↦ inl g | inl e ↦ inr (λ v. subst (λ z. Marked m₃ (side v (T z))) (sym e) (both v)) ]
            ]
          ];
      reached = λ j l.
          elim (hi.reached j l) [
            | inr q ↦ inr (true ∷ q.0, q.1)
            | inl l₂ ↦ elim (lo.reached j l₂) [
              | inr q ↦ inr (false ∷ q.0, q.1)
              | inl l₁ ↦ elim (live_or m i j l₁) [ inr g ↦ inl g | inl e ↦ inr ([], ap node (sym e)) ]
            ]
          ];
    }
  where
    both : (v : Bool) → Marked m₃ (side v (T i))
    both false = marked_wider m₂ m₃ hi.grows (T i).low lo.entered
    both true = hi.entered

-- the branch b is node i, which was read as w
module _ (n : ℕ) (nodes : List Node) (m : List ℕ) (d i : ℕ) (w : Node) (b : Branch) (is : b ≡ node i) (read : w ≡ listed nodes i) where
  entered_at : (us : List ℕ) → From (λ i. In i us) (listed nodes) d b → In i us × (d ≤ (listed nodes i).place)
  entered_at us f = subst (From (λ i. In i us) (listed nodes) d) is f

  pub mark_marked : Live m i → Marks n nodes m d b m
  mark_marked l us dg long f = marking_done (listed nodes) m b (subst (Marked m) (sym is) l)

  pub mark_old : ((i < length m) × (get_or m i 0 ≡ 0) → ⊥) → Marks n nodes m d b m
  mark_old old us dg long f =
      let l : i < length m = let l = in_table nodes (λ i. In i us) dg.reduced i (entered_at us f).0 in omega arith in
      mark_marked (let z : get_or m i 0 ≡ 0 → ⊥ = λ z. old (l, z) in omega arith) us dg long f

  pub mark_astray : (d ≤ w.place → w.place < n → ⊥) → Marks n nodes m d b m
  mark_astray out us dg long f =
      absurd (let p : w.place ≡ (listed nodes i).place = ap (λ (k : Node). k.place) read in
      let q = (entered_at us f).1 in
      let r = dg.ordered.within i (entered_at us f).0 in
      out (omega arith) (omega arith))

  pub mark_node : (m₂ m₃ : List ℕ) → i < length m → length (set m i 1) ≡ length m → length m₂ ≡ length m
      → Marks n nodes (set m i 1) (w.place + 1) w.low m₂ → Marks n nodes m₂ (w.place + 1) w.high m₃ → Marks n nodes m d b m₃
  mark_node m₂ m₃ fits e₁ e₂ lo hi us dg long f =
      let rise : (v : Bool) → From (λ i. In i us) (listed nodes) (w.place + 1) (side v w) = λ v.
      subst (λ (k : Node). From (λ i. In i us) (listed nodes) (k.place + 1) (side v k)) (sym read)
      (subst (λ j. From (λ i. In i us) (listed nodes) j (side v (listed nodes i))) (sym (add-one (listed nodes i).place)) (dg.ordered.rising i (entered_at us f).0 v)) in
      let l = lo us dg (e₁ ∙ long) (rise false) in
      let h = hi us dg (e₂ ∙ long) (rise true) in
      subst (λ z. Marking (listed nodes) m z m₃) (sym is)
      (marking_node (listed nodes) m i fits m₂ m₃
      (subst (λ (k : Node). Marking (listed nodes) (set m i 1) k.low m₂) read l)
      (subst (λ (k : Node). Marking (listed nodes) m₂ k.high m₃) read h))

-- what is marked from some roots
pub record SoFar (T : Table) (rs : List Branch) (marks : List ℕ) : Type 0 where
  pub entered : (b : Branch) → In b rs → Marked marks b
  pub closed : (i : ℕ) → Live marks i → (v : Bool) → Marked marks (side v (T i))
  pub reached : (i : ℕ) → Live marks i → Reached T rs i

pub none_so_far : (T : Table) (marks : List ℕ) → ((i : ℕ) → get_or marks i 0 ≡ 0) → SoFar T [] marks
none_so_far T marks z = record { entered = λ b m. absurd m; closed = λ i l. absurd (no i l); reached = λ i l. absurd (no i l) }
  where
    no : (i : ℕ) → Live marks i → ⊥
    no i l = let e = z i in omega arith

more_so_far : (T : Table) (rs : List Branch) (marks marks' : List ℕ) (b : Branch) → Marking T marks b marks' → SoFar T rs marks → SoFar T (rs ++ (b ∷ [])) marks'
more_so_far T rs marks marks' b g h =
    record {
      entered = λ e m. elim (in-++ e rs (b ∷ []) m) [
        | inl p ↦ marked_wider marks marks' g.grows e (h.entered e p)
        | inr p ↦ elim p [ inl q ↦ subst (Marked marks') (sym q) g.entered | inr z ↦ absurd z ]
      ];
      closed = λ i l. elim (g.closed i l) [ inr q ↦ q | inl o ↦ (λ v. marked_wider marks marks' g.grows (side v (T i)) (h.closed i o v)) ];
      reached = λ i l. elim (g.reached i l) [
        | inl o ↦ (let r = h.reached i o in (r.0, in-++-left r.0 rs (b ∷ []) r.1, r.2))
        | inr q ↦ (b, in-++-right b rs (b ∷ []) (inl refl), q)
      ];
    }

-- the k-th root was marked from
pub root_next : (T : Table) (all : List Branch) (k j : ℕ) (marks marks' : List ℕ) (b : Branch) → k < length all → b ≡ get_or all k b → j ≡ k + 1 → Marking T marks b marks'
    → SoFar T (take k all) marks → SoFar T (take j all) marks'
root_next T all k j marks marks' b lt here next g h =
    let e : take j all ≡ take k all ++ (b ∷ []) = ap (λ z. take z all) next ∙ (take_more all k b lt ∙ ap (λ z. take k all ++ (z ∷ [])) (sym here)) in
    subst (λ z. SoFar T z marks') (sym e) (more_so_far T (take k all) marks marks' b g h)

pub root_in : (all : List Branch) (k : ℕ) (b : Branch) → k < length all → b ≡ get_or all k b → In b all
root_in [] k b lt e = absurd (omega arith)
root_in (x ∷ xs) zero b lt e = inl e
root_in (x ∷ xs) (suc k) b lt e = inr (root_in xs k b (omega arith) e)

-- the root of a held line is one of the roots
pub root_held : (ls : List (Option Branch)) (c : ℕ) (b : Branch) → c < length ls → get_or ls c None ≡ Some b → In b (held ls)
root_held [] c b lt e = absurd (omega arith)
root_held (l ∷ ls) c b lt e = go l c lt e (root_held ls)
  where
    go : (l : Option Branch) (c : ℕ) → c < length (l ∷ ls) → get_or (l ∷ ls) c None ≡ Some b → ((c : ℕ) (b : Branch) → c < length ls → get_or ls c None ≡ Some b → In b (held ls))
        → In b (held ((l ∷ ls)))
    go None zero lt e ih = absurd (let z : ◌≡◌ {A = ℕ} 0 1 = cc in omega arith)
    go None (suc c) lt e ih = ih c b (omega arith) e
    go (Some r) zero lt e ih = let q : b ≡ r = cc in inl q
    go (Some r) (suc c) lt e ih = inr (ih c b (omega arith) e)

follow_marked : (T : Table) (marks : List ℕ) → ((i : ℕ) → Live marks i → (v : Bool) → Marked marks (side v (T i))) → (vs : List Bool) (b : Branch) (i : ℕ) → Marked marks b → follow T vs b ≡ node i → Live marks i
follow_marked T marks cl [] b i m e = subst (Marked marks) e m
follow_marked T marks cl (v ∷ vs) (end c) i m e = absurd (let z : ◌≡◌ {A = ℕ} 0 1 = cc in omega arith)
follow_marked T marks cl (v ∷ vs) (node k) i m e = follow_marked T marks cl vs (side v (T k)) i (cl k m v) e

marked_from : (n : ℕ) (nodes : List Node) (us : List ℕ) (rs : List Branch) (marks : List ℕ) → Diagram n nodes us → ((b : Branch) → In b rs → From (λ i. In i us) (listed nodes) 0 b)
    → SoFar (listed nodes) rs marks → MarkedFrom n nodes rs marks
marked_from n nodes us rs marks dg f h =
    record {
      exact = λ i. (h.reached i, λ r. follow_marked T marks h.closed r.2.0 r.0 i (h.entered r.0 r.1) r.2.1);
      ordered = record { within = λ i l. dg.ordered.within i (inside i l); rising = λ i l v. rise (suc (T i).place) (side v (T i)) (dg.ordered.rising i (inside i l) v) (h.closed i l v) };
      reduced = record { tested = λ i l. dg.reduced.tested i (inside i l); shared = λ i k l p. dg.reduced.shared i k (inside i l) (inside k p) };
    }
  where
    T : Table
    T = listed nodes

    inside : (i : ℕ) → Live marks i → In i us
    inside i l = let r = h.reached i l in follow_in n T (λ i. In i us) dg.ordered r.2.0 0 r.0 i (f r.0 r.1) r.2.1

    rise : (d : ℕ) (b : Branch) → From (λ i. In i us) T d b → Marked marks b → From (Live marks) T d b
    rise d (end c) g m = tt
    rise d (node k) g m = (m, g.1)

pub lines_done : (n : ℕ) (nodes : List Node) (us : List ℕ) (ls : List (Option Branch)) (k : ℕ) (marks : List ℕ) → length (held ls) ≤ k → Diagram n nodes us
    → ((b : Branch) → In b (held ls) → From (λ i. In i us) (listed nodes) 0 b)
    → SoFar (listed nodes) (take k (held ls)) marks → MarkedFrom n nodes (held ls) marks
lines_done n nodes us ls k marks l dg f h = marked_from n nodes us (held ls) marks dg f (subst (λ z. SoFar (listed nodes) z marks) (take_all k (held ls) l) h)

-- the roots lead to marked nodes
pub roots_marked : (n : ℕ) (nodes : List Node) (rs : List Branch) (marks : List ℕ) → MarkedFrom n nodes rs marks → (b : Branch) → In b rs → From (Live marks) (listed nodes) 0 b
roots_marked n nodes rs marks m (end c) p = tt
roots_marked n nodes rs marks m (node i) p = ((m.exact i).1 (node i, p, ([], refl)), omega arith)

-- the same of the table alone
pub passed_over : (n : ℕ) (nodes : List Node) (m : List ℕ) (d i : ℕ) (b : Branch) → b ≡ node i → ((i < length m) × (get_or m i 0 ≡ 0) → ⊥) → Marks n nodes m d b m
passed_over n nodes m d i b is old = mark_old n nodes m d i (listed nodes i) b is refl old
