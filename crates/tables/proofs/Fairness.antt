-- What a node of a place with two branches comes to.
use Rattle.std.proofs.Common.{◌≡◌, ℕ, suc, ◌+◌, ◌-◌, ◌<◌, Bool, true, false, List, length, get_or, set, Some, None, sym, refl, ap, ◌∙◌, subst, ap₂, inl, inr, zero-add, arith, length-set, get_or-set_other, get_or-set_same}
use Rattle.std.proofs.lemmas.Bool.{not_from_false}
use Rattle.model.specs.declared.Branch.{Branch}
use Rattle.model.specs.declared.Branch.TheVariants.{Node as node}
use Rattle.model.specs.declared.Node.{Node}
use Rattle.model.specs.Lists.{In}
use Rattle.model.specs.Trees.{Tree, fork, same, matters}
use Rattle.model.specs.Parts.{Part, parts, level, used}
use Rattle.model.specs.Diagrams.{Table, blank, listed, side, key, From, tree}
use Rattle.model.proofs.Lists.{in_cast}
use Rattle.model.proofs.Trees.{same_ne, fork_left, fork_right}
use Rattle.model.proofs.Parts.{level_part}
use Rattle.model.proofs.Least.{key_is}
use Rattle.model.proofs.Canon.{told}
use Rattle.model.proofs.Grow.{Agree, More, tree_kept, ordered_more, reduced_more, made, passed, one_part_more}
use Rattle.tables.specs.States.{Live, State, Parted, Outcome}
use Rattle.tables.specs.Probes.{Vacancy}
use Rattle.tables.proofs.Marks.{live_set, set_live, live_or}
use Rattle.tables.proofs.Counts.{filled_set, live_list, in_live, from_live, apart_live, all_live}
use Rattle.tables.proofs.Entries.{entered_more, not_there}
use Rattle.tables.proofs.Growing.{grown_same, from_weaker, ordered_iff, reduced_iff}

module _ (n d : ℕ) (low high : Branch) (nodes : List Node) (marks index : List ℕ) (st : State n nodes marks index) (small : d < n)
    (fl : From (Live marks) (listed nodes) (suc d) low) (fh : From (Live marks) (listed nodes) (suc d) high) where
  abbrev T : Table
  T = listed nodes

  abbrev want : Node
  want = record { place = d; low = low; high = high }

  abbrev h : ℕ
  h = n - suc d

  abbrev t : Tree
  t = fork (tree T h (suc d) low) (tree T h (suc d) high)

  left : n - d ≡ suc h
  left = omega arith

  -- both branches are one
  pub added_one : low ≡ high → Outcome n d t nodes marks nodes marks index (Some low)
  added_one e =
      record {
        state = st;
        grown = grown_same nodes marks;
        holds = (
          from_weaker (Live marks) T d low fl,
          ap (λ k. tree T k d low) left ∙ (passed T (Live marks) h d low fl ∙ ap (λ b. fork (tree T h (suc d) low) (tree T h (suc d) b)) e),
        );
        fair = λ ts pa m. pa;
      }

  -- a live node is alike
  pub added_there : (i : ℕ) → Live marks i → T i ≡ want → Outcome n d t nodes marks nodes marks index (Some (node i))
  added_there i l e =
      let p : (T i).place ≡ d = ap (λ (k : Node). k.place) e in
      record {
        state = st;
        grown = grown_same nodes marks;
        holds = (
          (l, omega arith),
          ap (λ k. tree T k d (node i)) left ∙ (made T h d i p ∙ ap (λ (k : Node). fork (tree T h (suc d) k.low) (tree T h (suc d) k.high)) e),
        );
        fair = λ ts pa m. pa;
      }

  module _ (ne : low ≡ high → ⊥) (p : ℕ) (v : Vacancy nodes index want p) where
    whole : suc d + h ≡ n
    whole = omega arith

    t_matters : matters t ≡ true
    t_matters =
        not_from_false (same (tree T h (suc d) low) (tree T h (suc d) high))
        (same_ne (tree T h (suc d) low) (tree T h (suc d) high) (λ e. ne (told n T (Live marks) st.ordered st.reduced h (suc d) low high whole fl fh e)))

    t_part : (ts : List Tree) → In t (level d ts) → In (d, t) (parts n 0 ts)
    t_part ts m = in_cast (0 + d, t) (d, t) (parts n 0 ts) (ap (λ k. (k, t)) (zero-add d)) (level_part d n 0 ts t m small t_matters)

    -- a live node with the key of the node that is asked for is alike
    t_told : (i : ℕ) → Live marks i → ◌≡◌ {A = Part} (d, t) (key n T i) → T i ≡ want
    t_told i l e =
        let p : (T i).place ≡ d = sym (ap (λ (k : Part). k.0) e) in
        let q : n - (T i).place ≡ suc h = omega arith in
        let w : t ≡ fork (tree T h (suc d) (T i).low) (tree T h (suc d) (T i).high) =
        ap (λ (k : Part). k.1) e ∙ (ap₂ (λ a b. tree T a b (node i)) q p ∙ made T h d i p) in
        let f : (b : Bool) → From (Live marks) T (suc d) (side b (T i)) = λ b. subst (λ k. From (Live marks) T (suc k) (side b (T i))) p (st.ordered.rising i l b) in
        let a = told n T (Live marks) st.ordered st.reduced h (suc d) low (T i).low whole fl (f false) (fork_left w) in
        let b = told n T (Live marks) st.ordered st.reduced h (suc d) high (T i).high whole fh (f true) (fork_right w) in
        λ j. record { place = p j; low = sym a j; high = sym b j }

    -- every slot is live
    pub added_none : ((i : ℕ) → i < length marks → Live marks i) → Outcome n d t nodes marks nodes marks index None
    added_none full = record { state = st; grown = grown_same nodes marks; holds = tt; fair = more_parts }
      where
        more_parts : (ts : List Tree) → Parted n nodes marks ts → In t (level d ts) → length nodes < used n ts
        more_parts ts pa m =
            let us = live_list marks in
            let U = λ (i : ℕ). In i us in
            let to = from_live marks in
            let o = one_part_more n T us ts (apart_live marks) (ordered_iff n T (Live marks) U to (in_live marks) st.ordered) (reduced_iff T (Live marks) U to st.reduced)
            (λ i k. pa i (to i k)) (d, t) (t_part ts m) (λ i k e. not_there n nodes marks index want st p v i (to i k) (t_told i (to i k) e)) in
            let a = all_live marks full in
            let b = st.long in
            omega arith

    -- a new node in the slot s, which is not live
    module _ (s : ℕ) (lt : s < length marks) (free : get_or marks s 0 ≡ 0) where
      abbrev nodes' : List Node
      nodes' = set nodes s want

      abbrev marks' : List ℕ
      marks' = set marks s 1

      abbrev T' : Table
      T' = listed nodes'

      at_s : T' s ≡ want
      at_s = get_or-set_same nodes s want blank (let e = st.long in omega arith)

      kept : (i : ℕ) → Live marks i → T' i ≡ T i
      kept i l = get_or-set_other nodes s i want blank (λ e. let z : get_or marks i 0 ≡ 0 = ap (λ k. get_or marks k 0) e ∙ free in omega arith)

      agree : Agree (Live marks) T T'
      agree i l = sym (kept i l)

      forth : (i : ℕ) → More (Live marks) s i → Live marks' i
      forth i (inl l) = live_set marks s 1 i (omega arith) l
      forth i (inr e) = subst (Live marks') (sym e) (set_live marks s lt)

      back : (i : ℕ) → Live marks' i → More (Live marks) s i
      back i l = elim (live_or marks s i l) [ inl e ↦ inr e | inr g ↦ inl g ]

      from_side : (q : Bool) → From (Live marks) T (suc d) (side q want)
      from_side false = fl
      from_side true = fh

      state' : State n nodes' marks' (set index p (s + 1))
      state' =
          let o = ordered_more n T T' (Live marks) st.ordered agree s (subst (λ (k : Node). k.place < n) (sym at_s) small)
          (λ q. subst (λ (k : Node). From (Live marks) T (suc k.place) (side q k)) (sym at_s) (from_side q)) in
          let r = reduced_more T T' (Live marks) st.reduced agree s (λ e. ne (subst (λ (k : Node). k.low ≡ k.high) at_s e))
          (λ i u e. absurd (not_there n nodes marks index want st p v i u (e ∙ at_s))) in
          let x = entered_more nodes nodes' (Live marks) (Live marks') index want s p (record { entries = st.indexed.entries; found = st.indexed.found }) v kept at_s
          (forth s (inr refl)) (λ i l. forth i (inl l)) (live_or marks s) in
          record {
            long = length-set marks s 1 ∙ (st.long ∙ sym (length-set nodes s want));
            few = (let l = st.few in let e = length-set nodes s want in omega arith);
            ordered = ordered_iff n T' (More (Live marks) s) (Live marks') back forth o;
            reduced = reduced_iff T' (More (Live marks) s) (Live marks') back r;
            indexed = record {
              room = (let l = st.indexed.room in let e = length-set nodes s want in let f = length-set index p (s + 1) in omega arith);
              counted = filled_set index p s v.inside v.empty ∙ (ap (λ z. z + 1) st.indexed.counted ∙ sym (filled_set marks s 0 lt free));
              entries = x.entries;
              found = x.found;
            };
          }

      means : tree T' (n - d) d (node s) ≡ t
      means =
          ap (λ k. tree T' k d (node s)) left
          ∙ (made T' h d s (ap (λ (k : Node). k.place) at_s)
          ∙ (ap (λ (k : Node). fork (tree T' h (suc d) k.low) (tree T' h (suc d) k.high)) at_s
          ∙ ap₂ fork (sym (tree_kept n T T' (Live marks) st.ordered agree h (suc d) low fl)) (sym (tree_kept n T T' (Live marks) st.ordered agree h (suc d) high fh))))

      key_old : (i : ℕ) → Live marks i → key n T i ≡ key n T' i
      key_old i u =
          let a : (T i).place ≡ (T' i).place = ap (λ (k : Node). k.place) (agree i u) in
          let b : tree T (n - (T i).place) (T i).place (node i) ≡ tree T' (n - (T' i).place) (T' i).place (node i) =
          tree_kept n T T' (Live marks) st.ordered agree (n - (T i).place) (T i).place (node i) (u, omega arith) ∙ ap (λ q. tree T' (n - q) q (node i)) a in
          λ j. (a j, b j)

      key_new : ◌≡◌ {A = Part} (d, t) (key n T' s)
      key_new = ap (λ z. (d, z)) (sym means) ∙ key_is n T' (n - d) d s (node s) (omega arith) refl (ap (λ (k : Node). k.place) at_s)

      parted : (ts : List Tree) → Parted n nodes marks ts → In t (level d ts) → Parted n nodes' marks' ts
      parted ts pa m i l =
          elim (live_or marks s i l) [
            | inr u ↦ in_cast (key n T i) (key n T' i) (parts n 0 ts) (key_old i u) (pa i u)
            | inl e ↦ in_cast (d, t) (key n T' i) (parts n 0 ts) (key_new ∙ ap (key n T') (sym e)) (t_part ts m)
          ]

      added_new : Outcome n d t nodes marks nodes' marks' (set index p (s + 1)) (Some (node s))
      added_new =
          record {
            state = state';
            grown = record { size = length-set nodes s want; kept = kept; live = λ i l. forth i (inl l) };
            holds = ((set_live marks s lt, let e = ap (λ (k : Node). k.place) at_s in omega arith), means);
            fair = parted;
          }

      pub added_put : (nodes₁ : List Node) (marks₁ index₁ : List ℕ) → nodes₁ ≡ nodes' → marks₁ ≡ marks' → index₁ ≡ set index p (s + 1) → Outcome n d t nodes marks nodes₁ marks₁ index₁ (Some (node s))
      added_put nodes₁ marks₁ index₁ en em ei =
          subst (λ x. Outcome n d t nodes marks x marks₁ index₁ (Some (node s))) (sym en)
          (subst (λ x. Outcome n d t nodes marks nodes' x index₁ (Some (node s))) (sym em) (subst (λ x. Outcome n d t nodes marks nodes' marks' x (Some (node s))) (sym ei) added_new))
