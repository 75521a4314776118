-- A front that meets one more branch.
use Rattle.std.proofs.Common.{◌≡◌, ℕ, ◌<◌, ◌≤◌, true, cond, not, eqb, List, [], ◌∷◌, ◌++◌, length, get_or, set, sym, refl, ap, ◌∙◌, subst, ap₂, inl, inr, arith, length-set}
use Rattle.std.proofs.lemmas.List.{append-nil}
use Rattle.std.proofs.lemmas.Bool.{eq-eqb, not_from_false}
use Rattle.model.specs.Lists.{In, Apart, without, once}
use Rattle.model.proofs.Lists.{in-++, in-++-left, in-++-right, apart-++, pigeonhole, in_cast}
use Rattle.model.proofs.Onces.{tells_eqb, tells_ne, keep-++, once_apart, keep_all}
use Rattle.model.proofs.Marks.{marked, in_marked, length_marked}
use Rattle.tables.proofs.Marks.{live_inside, live_set, set_live, live_or}
use Rattle.model.specs.declared.Branch.{Branch}
use Rattle.model.specs.declared.Branch.TheVariants.{End as end, Node as node}
use Rattle.listings.specs.Fronts.{Front, Grown, Meets}

without_absent : (x : ℕ) (xs : List ℕ) → (In x xs → ⊥) → without eqb x xs ≡ xs
without_absent x xs n = keep_all (λ y. not (eqb x y)) xs (λ y m. not_from_false (eqb x y) (tells_ne eqb tells_eqb x y (λ e. n (in_cast y x xs (sym e) m))))

apart_push : (xs : List ℕ) (i : ℕ) → Apart xs → (In i xs → ⊥) → Apart (xs ++ (i ∷ []))
apart_push xs i a n = apart-++ xs (i ∷ []) a ((λ m. m), tt) (λ x m k. elim k [ inl e ↦ n (in_cast x i xs e m) | inr z ↦ z ])

once_known : (xs : List ℕ) (i : ℕ) → Apart xs → In i xs → once eqb (xs ++ (i ∷ [])) ≡ xs
once_known [] i a m = absurd m
once_known (x ∷ xs) i a (inl e) =
    let n : In i xs → ⊥ = λ m. a.0 (in_cast i x xs e m) in
    ap (λ z. x ∷ z)
    (ap (without eqb x) (once_apart eqb tells_eqb (xs ++ (i ∷ [])) (apart_push xs i a.1 n))
    ∙ (keep-++ (λ y. not (eqb x y)) xs (i ∷ [])
    ∙ (ap₂ ◌++◌ (without_absent x xs a.0) (ap (λ q. cond (not q) (i ∷ []) []) (eq-eqb x i (sym e))) ∙ append-nil xs)))
once_known (x ∷ xs) i a (inr m) = ap (λ z. x ∷ z) (ap (without eqb x) (once_known xs i a.1 m) ∙ without_absent x xs a.0)

module _ (size : ℕ) (is seen : List ℕ) (f : Front size is seen) where
  -- an end adds nothing
  met_end : Grown size is [] is seen
  met_end = record { front = f; holds = sym (ap (once eqb) (append-nil is) ∙ once_apart eqb tells_eqb is f.apart) }

  module _ (i : ℕ) where
    -- a node that was seen is there
    met_known : 0 < get_or seen i 0 → Grown size is (i ∷ []) is seen
    met_known l = record { front = f; holds = sym (once_known is i f.apart ((f.marked i).1 l)) }

    module _ (small : i < size) (free : get_or seen i 0 ≡ 0) where
      absent : In i is → ⊥
      absent m = let l = (f.marked i).0 m in omega arith

      -- there is room for it, since a front has each node of the table at most once
      met_room : length is < size
      met_room =
          let in_size : (x : ℕ) → In x (i ∷ is) → In x (marked (λ _. true) size) = λ x m. in_marked (λ _. true) size x (below x m) refl in
          let few = pigeonhole (i ∷ is) (marked (λ _. true) size) (absent, f.apart) in_size in
          let whole = length_marked (λ _. true) size (λ _ _. refl) in
          omega arith
        where
          below : (x : ℕ) → In x (i ∷ is) → x < size
          below x (inl e) = subst (λ (y : ℕ). y < size) (sym e) small
          below x (inr m) = let l = live_inside seen x ((f.marked x).0 m) in let w = f.wide in omega arith

      met_new : Grown size is (i ∷ []) (is ++ (i ∷ [])) (set seen i 1)
      met_new = record {
        front = record {
          wide = length-set seen i 1 ∙ f.wide;
          apart = apart_push is i f.apart absent;
          marked = λ j. (into j, back j);
        };
        holds = sym (once_apart eqb tells_eqb (is ++ (i ∷ [])) (apart_push is i f.apart absent));
      }
        where
          inside : i < length seen
          inside = let w = f.wide in omega arith

          into : (j : ℕ) → In j (is ++ (i ∷ [])) → 0 < get_or (set seen i 1) j 0
          into j m =
              elim (in-++ j is (i ∷ []) m) [
                | inl k ↦ live_set seen i 1 j (omega arith) ((f.marked j).0 k)
                | inr k ↦ elim k [ inl e ↦ subst (λ (x : ℕ). 0 < get_or (set seen i 1) x 0) (sym e) (set_live seen i inside) | inr z ↦ absurd z ]
              ]

          back : (j : ℕ) → 0 < get_or (set seen i 1) j 0 → In j (is ++ (i ∷ []))
          back j l = elim (live_or seen i j l) [ inl e ↦ in-++-right j is (i ∷ []) (inl e) | inr k ↦ in-++-left j is (i ∷ []) ((f.marked j).1 k) ]

-- The same of a branch.
module _ (size : ℕ) (is seen : List ℕ) (b : Branch) where
  pub meets_end : (c : ℕ) → b ≡ end c → Meets size is seen b is seen
  meets_end c e = subst (λ (y : Branch). Meets size is seen y is seen) (sym e) (λ f small. met_end size is seen f)

  module _ (i : ℕ) (e : b ≡ node i) where
    pub meets_outside : length seen ≤ i → Meets size is seen b is seen
    meets_outside l = subst (λ (y : Branch). Meets size is seen y is seen) (sym e) (λ f small. let w = f.wide in absurd (omega arith))

    pub meets_known : (get_or seen i 0 ≡ 0 → ⊥) → Meets size is seen b is seen
    meets_known l = subst (λ (y : Branch). Meets size is seen y is seen) (sym e) (λ f small. met_known size is seen f i (omega arith))

    pub meets_new : get_or seen i 0 ≡ 0 → (is' : List ℕ) → (length is < size → is' ≡ is ++ (i ∷ [])) → Meets size is seen b is' (set seen i 1)
    meets_new free is' pushed =
        subst (λ (y : Branch). Meets size is seen y is' (set seen i 1)) (sym e)
        (λ f small. subst (λ (xs : List ℕ). Grown size is (i ∷ []) xs (set seen i 1)) (sym (pushed (met_room size is seen f i small free))) (met_new size is seen f i small free))
