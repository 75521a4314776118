-- Entering nodes into the index.
use Rattle.std.proofs.Common.{◌≡◌, ℕ, ◌+◌, ◌-◌, ◌<◌, ◌≤◌, ◌⊎◌, List, length, take, get_or, set, sym, refl, ap, ◌∙◌, subst, inl, inr, arith, length-set, get_or-set_other, get_or-set_same}
use Rattle.std.proofs.lemmas.Bool.{cases_eq, cases_order}
use Rattle.std.proofs.lemmas.List.{take_all}
use Rattle.model.specs.declared.Node.{Node}
use Rattle.model.specs.Diagrams.{listed, Ordered, Reduced}
use Rattle.tables.specs.Indexes.{probe, nonzero, filled, Leads}
use Rattle.tables.specs.States.{Live, State}
use Rattle.tables.specs.declared.indexing.Found.{Found}
use Rattle.tables.specs.declared.indexing.Found.TheVariants.{At, Vacant, Full}
use Rattle.tables.specs.Probes.{Missed, Vacancy, Probed, Enters, entered_at}
use Rattle.tables.proofs.Marks.{live_inside, live_set}
use Rattle.tables.proofs.Counts.{filled_set, filled_le, filled_more, filled_take_le, nonzero_is, none_filled}
use Rattle.tables.proofs.Rounds.{some_empty}

-- the index leads to the nodes of U and to no other
pub record Entered (nodes : List Node) (U : ℕ → Type 0) (index : List ℕ) : Type 0 where
  pub entries : (p : ℕ) → 0 < get_or index p 0 → U (get_or index p 0 - 1)
  pub found : (i : ℕ) → U i → Leads (length index) index (listed nodes i) i

-- the index leads to the live nodes below c
pub record Entering (nodes : List Node) (marks index : List ℕ) (c : ℕ) : Type 0 where
  pub entered : Entered nodes (λ i. (i < c) × Live marks i) index
  pub counted : filled index ≡ filled (take c marks)

-- one more entry, for the node k in the slot s, at the vacant place p
module _ (nodes nodes' : List Node) (U U' : ℕ → Type 0) (index : List ℕ) (k : Node) (s p : ℕ) (h : Entered nodes U index) (v : Vacancy nodes index k p)
    (kept : (i : ℕ) → U i → listed nodes' i ≡ listed nodes i) (holds : listed nodes' s ≡ k)
    (new : U' s) (more : (i : ℕ) → U i → U' i) (only : (i : ℕ) → U' i → (i ≡ s) ⊎ U i) where
  entries_of : (q : ℕ) → 0 < get_or (set index p (s + 1)) q 0 → (q ≡ p) ⊎ (q ≡ p → ⊥) → U' (get_or (set index p (s + 1)) q 0 - 1)
  entries_of q g (inl e) =
      let w : get_or (set index p (s + 1)) q 0 ≡ s + 1 = ap (λ z. get_or (set index p (s + 1)) z 0) e ∙ get_or-set_same index p (s + 1) 0 v.inside in
      let u : get_or (set index p (s + 1)) q 0 - 1 ≡ s = omega arith in
      subst U' (sym u) new
  entries_of q g (inr ne) =
      let w : get_or (set index p (s + 1)) q 0 ≡ get_or index q 0 = get_or-set_other index p q (s + 1) 0 ne in
      subst (λ z. U' (z - 1)) (sym w) (more _ (h.entries q (subst (λ z. 0 < z) w g)))

  passes : (q : ℕ) → 0 < get_or index q 0 → 0 < get_or (set index p (s + 1)) q 0
  passes q l = live_set index p (s + 1) q (omega arith) l

  found_of : (i : ℕ) → (i ≡ s) ⊎ U i → Leads (length index) (set index p (s + 1)) (listed nodes' i) i
  found_of i (inl e) =
      subst (λ j. Leads (length index) (set index p (s + 1)) (listed nodes' j) j) (sym e)
      (subst (λ (w : Node). Leads (length index) (set index p (s + 1)) w s) (sym holds)
      (record {
        far = v.far;
        near = v.near;
        entry = subst (λ q. get_or (set index p (s + 1)) q 0 ≡ s + 1) v.here (get_or-set_same index p (s + 1) 0 v.inside);
        passed = λ e l. passes _ (v.missed e l).0;
      }))
  found_of i (inr g) =
      subst (λ (w : Node). Leads (length index) (set index p (s + 1)) w i) (sym (kept i g))
      (let r = h.found i g in
      record {
        far = r.far;
        near = r.near;
        entry = get_or-set_other index p _ (s + 1) 0 (λ q. let z : get_or index (probe (length index) (listed nodes i) r.far) 0 ≡ 0 = ap (λ j. get_or index j 0) q ∙ v.empty in omega (arith, r.entry)) ∙ r.entry;
        passed = λ e l. passes _ (r.passed e l);
      })

  pub entered_more : Entered nodes' U' (set index p (s + 1))
  entered_more =
      record {
        entries = λ q g. entries_of q g (cases_eq q p);
        found = λ i g. subst (λ l. Leads l (set index p (s + 1)) (listed nodes' i) i) (sym (length-set index p (s + 1))) (found_of i (only i g));
      }

abbrev Below : List ℕ → ℕ → ℕ → Type 0
Below marks c i = (i < c) × Live marks i

below_or : (marks : List ℕ) (c i : ℕ) → Below marks (c + 1) i → (i ≡ c) ⊎ Below marks c i
below_or marks c i h = elim (cases_eq i c) [ inl e ↦ inl e | inr ne ↦ inr (omega (arith, h.0), h.1) ]

pub enter_none : (nodes : List Node) (marks index : List ℕ) → ((p : ℕ) → get_or index p 0 ≡ 0) → Entering nodes marks index 0
enter_none nodes marks index z =
    record {
      entered = record { entries = λ p g. absurd (omega (arith, z p)); found = λ i g. absurd (omega (arith, g.0)) };
      counted = none_filled index z;
    }

module _ (nodes : List Node) (marks index : List ℕ) (c : ℕ) (h : Entering nodes marks index c) where
  pub enter_skip : c < length marks → get_or marks c 0 ≡ 0 → Entering nodes marks index (c + 1)
  enter_skip lt z =
      record {
        entered = record {
          entries = λ p g. let e = h.entered.entries p g in (omega (arith, e.0), e.1);
          found = λ i g. elim (below_or marks c i g) [ inl e ↦ absurd (omega (arith, g.1, ap (λ j. get_or marks j 0) e)) | inr l ↦ h.entered.found i l ];
        };
        counted = h.counted ∙ (let f = filled_more marks c lt in let u : nonzero (get_or marks c 0) ≡ 0 = ap nonzero z in omega arith);
      }

  -- another node that is alike was not entered before
  pub enter_there : (s p : ℕ) → Reduced (listed nodes) (Live marks) → (get_or marks c 0 ≡ 0 → ⊥) → listed nodes s ≡ listed nodes c → get_or index p 0 ≡ s + 1 → ⊥
  enter_there s p r live e q =
      let g = h.entered.entries p (omega arith) in
      let u : get_or index p 0 - 1 ≡ s = omega arith in
      let g' : Below marks c s = subst (Below marks c) u g in
      omega (arith, g'.0, r.shared s c g'.1 (omega arith) e)

  pub enter_full : (k : Node) → length marks ≡ length nodes → length nodes < length index → Missed nodes index k (length index) → ⊥
  enter_full k long room miss = some_empty nodes index k (omega (arith, h.counted, filled_take_le marks c)) miss

  pub enter_new : (p : ℕ) (k : Node) → k ≡ listed nodes c → c < length marks → (get_or marks c 0 ≡ 0 → ⊥) → Vacancy nodes index k p → Entering nodes marks (set index p (c + 1)) (c + 1)
  enter_new p k is lt live v =
      record {
        entered = entered_more nodes nodes (Below marks c) (Below marks (c + 1)) index k c p h.entered v (λ i g. refl) (sym is) (omega arith, omega arith) (λ i g. (omega (arith, g.0), g.1)) (below_or marks c);
        counted = filled_set index p c v.inside v.empty ∙ (let f = filled_more marks c lt in let u : nonzero (get_or marks c 0) ≡ 1 = nonzero_is _ live in let w = h.counted in omega arith);
      }

-- the node of slot c, live, was looked up and entered
pub enter_live : (nodes : List Node) (marks index index' : List ℕ) (c : ℕ) → c < length marks → length marks ≡ length nodes → length nodes < length index → Reduced (listed nodes) (Live marks) → (get_or marks c 0 ≡ 0 → ⊥)
    → Enters nodes index c index' → Entering nodes marks index c → Entering nodes marks index' (c + 1)
enter_live nodes marks index index' c lt long room r live e h =
    subst (λ x. Entering nodes marks x (c + 1)) (sym e.entered) (go e.found e.probed)
  where
    go : (f : Found) → Probed nodes index (listed nodes c) f → Entering nodes marks (entered_at f index c) (c + 1)
    go (At i) p = absurd (enter_there nodes marks index c h _ p.2.0 r live p.1 p.2.1)
    go (Vacant q) p = enter_new nodes marks index c h q _ refl lt live p
    go Full p = absurd (enter_full nodes marks index c h _ long room p)

pub enter_done : (n : ℕ) (nodes : List Node) (marks index : List ℕ) (c : ℕ) → length marks ≤ c → length marks ≡ length nodes → length nodes ≤ 4096 → length nodes < length index
    → Ordered n (listed nodes) (Live marks) → Reduced (listed nodes) (Live marks) → Entering nodes marks index c → State n nodes marks index
enter_done n nodes marks index c l long few room o r h =
    record {
      long = long;
      few = few;
      ordered = o;
      reduced = r;
      indexed = record {
        room = room;
        counted = h.counted ∙ ap filled (take_all c marks l);
        entries = λ p g. (h.entered.entries p g).1;
        found = λ i g. h.entered.found i (let b = live_inside marks i g in omega arith, g);
      };
    }

-- the index of tables in order: no node is missed in it
module _ (n : ℕ) (nodes : List Node) (marks index : List ℕ) (k : Node) (st : State n nodes marks index) where
  pub not_full : Missed nodes index k (length index) → ⊥
  not_full miss = some_empty nodes index k (let c = st.indexed.counted in let r = st.indexed.room in let l = st.long in omega (arith, filled_le marks)) miss

  pub not_there : (p : ℕ) → Vacancy nodes index k p → (i : ℕ) → Live marks i → listed nodes i ≡ k → ⊥
  not_there p v i live q =
      let r : Leads (length index) index k i = subst (λ (w : Node). Leads (length index) index w i) q (st.indexed.found i live) in
      let there : i < length nodes = subst (λ z. i < z) st.long (live_inside marks i live) in
      let none : get_or index (probe (length index) k v.far) 0 ≡ 0 = subst (λ z. get_or index z 0 ≡ 0) v.here v.empty in
      elim (cases_order r.far v.far) [
        | inl same ↦ (let z : get_or index (probe (length index) k v.far) 0 ≡ i + 1 = subst (λ j. get_or index (probe (length index) k j) 0 ≡ i + 1) same r.entry in omega arith)
        | inr o ↦ elim o [
          | inl less ↦
              (let j : get_or index (probe (length index) k r.far) 0 - 1 ≡ i = omega (arith, r.entry) in
              (v.missed r.far less).1 (subst (λ z. z < length nodes) (sym j) there) (ap (listed nodes) j ∙ q))
          | inr more ↦ omega (arith, r.passed v.far more)
        ]
      ]
