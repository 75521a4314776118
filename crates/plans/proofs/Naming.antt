-- Positions of an order, and its pins.
use Rattle.std.proofs.Common.{◌≡◌, ℕ, zero, suc, ◌<◌, ◌≤◌, Bool, true, false, cond, ◌||◌, ◌==◌, List, [], ◌∷◌, length, get_or, take, Some, None, Ok, Err, Option, Result, sym, refl, ap, ◌∙◌, subst, inl, inr, add-one, arith, le-ltb, ne_eqb}
use borrow.Author.Tests.{lt-leb}
use Rattle.std.specs.List.{list_any, AllWithin, HoldsAt}
use Rattle.std.proofs.lemmas.List.Folds.{list_any_more}
use Rattle.std.proofs.lemmas.Iterator.{index_from_first}
use Rattle.std.specs.Option.{MatchOption, option_map, unwrap_or}
use Rattle.std.proofs.lemmas.Bool.Decides.{eqb_tells, nat_tests}
use Rattle.faults.specs.declared.fault.Fault.{Fault}
use Rattle.faults.specs.declared.fault.Ground.TheVariants.{OrderPin}
use Rattle.faults.specs.Refusals.{at, refuse_if}
use Rattle.model.specs.Lists.{In, Apart}
use Rattle.model.specs.Orders.{Order, place_in}
use Rattle.plans.specs.Orders.{among, misplaced, misplaced_below, OrdersTold}
use Rattle.plans.specs.Plain.{make_told}
use Rattle.plans.specs.Results.{refusal}
use Rattle.faults.proofs.Refusing.{or_left, or_right}
use Rattle.model.proofs.Lists.{in_get_or}

-- what a search of the front tells
pub any_among : (order : List ℕ) (p k : ℕ) → k ≤ length order → list_any (λ q. q == p) (take k order) ≡ among order p k
any_among order p zero l = refl
any_among order p (suc k) l =
    let r = any_among order p k (omega arith) in
    let e = list_any_more (λ q. q == p) order k 0 l in
    ap (λ n. list_any (λ q. q == p) (take n order)) (sym (add-one k)) ∙ e ∙ ap (λ b. b || get_or order k 0 == p) r

among_found : (order : List ℕ) (p i : ℕ) → get_or order i 0 ≡ p → (k : ℕ) → i < k → among order p k ≡ true
among_found order p i e zero h = absurd (omega arith)
among_found order p i e (suc k) h =
    elim (eqb_tells i k) [
      | inl t ↦ (let f : get_or order k 0 ≡ p = ap (λ x. get_or order x 0) (sym t.1) ∙ e in grind (arith, nat_tests))
      | inr t ↦ (let r = among_found order p i e k (omega (arith, t.1)) in simp r)
    ]

below_found : (order : List ℕ) (i : ℕ) → misplaced_below order i ≡ None → misplaced order i ≡ true → (k : ℕ) → i < k → misplaced_below order k ≡ Some (at OrderPin i)
below_found order i e m zero h = absurd (omega arith)
below_found order i e m (suc k) h =
    elim (eqb_tells i k) [
      | inl t ↦ subst (λ (x : ℕ). misplaced_below order (suc x) ≡ Some (at OrderPin i)) t.1 (simp (e, m))
      | inr t ↦ (let r = below_found order i e m k (omega (arith, t.1)) in simp r)
    ]

pub make_accepted : (order : List ℕ) (size : ℕ) → 1 ≤ length order → length order ≤ 20 → misplaced_below order (length order) ≡ None → 1 ≤ size → size ≤ 4096 → make_told order size ≡ None
make_accepted order size a b m c d =
    simp (le-ltb (length order) 1 a, le-ltb 20 (length order) b, m, le-ltb size 1 c, le-ltb 4096 size d)

-- a refusal at a position, if there is one
pub told_at : (o : Option ℕ) (r : Result (Unit {0}) Fault) (P : ℕ → Type 0) → ((i : ℕ) → P i → r ≡ Err (at OrderPin i)) → MatchOption o (r ≡ Ok tt) P → refusal r ≡ option_map (at OrderPin) o
told_at (Some i) r P tells e = ap refusal (tells i e)
told_at None r P tells e = ap refusal e

-- where the elements of a list stand
in_at : (p : ℕ) (xs : List ℕ) → In p xs → (i : ℕ) × (i < length xs) × (get_or xs i 0 ≡ p)
in_at p [] m = absurd m
in_at p (x ∷ xs) (inl e) = (0, omega arith, sym e)
in_at p (x ∷ xs) (inr m) = let r = in_at p xs m in (suc r.0, (let l = r.1 in omega arith), r.2)

-- no element stands twice, by positions
Distinct : List ℕ → Type 0
Distinct xs = (i j : ℕ) → i < j → j < length xs → get_or xs i 0 ≡ get_or xs j 0 → ⊥

distinct_apart : (xs : List ℕ) → Distinct xs → Apart xs
unfolding Distinct
distinct_apart [] d = tt
distinct_apart (x ∷ xs) d =
    (λ m. let r = in_at x xs m in let l = r.1 in d 0 (suc r.0) (omega arith) (omega arith) (sym r.2), distinct_apart xs (λ i j h l. d (suc i) (suc j) (omega arith) (omega arith)))

apart_distinct : (xs : List ℕ) → Apart xs → Distinct xs
unfolding Distinct
apart_distinct [] a i j h l e = absurd (omega arith)
apart_distinct (x ∷ xs) a i zero h l e = absurd (omega arith)
apart_distinct (x ∷ xs) a zero (suc j) h l e = a.0 (subst (λ (y : ℕ). In y xs) (sym e) (in_get_or xs j (omega arith)))
apart_distinct (x ∷ xs) a (suc i) (suc j) h l e = apart_distinct xs a.1 i j (omega arith) (omega arith) e

among_none : (order : List ℕ) (p k : ℕ) → ((i : ℕ) → i < k → get_or order i 0 ≡ p → ⊥) → among order p k ≡ false
among_none order p zero h = refl
among_none order p (suc k) h = let r = among_none order p k (λ i l. h i (omega arith)) in let e = ne_eqb (get_or order k 0) p (h k (omega arith)) in simp (r, e)

passed : (b : Bool) (f : Fault) → refuse_if b f None ≡ None → b ≡ false
passed true f e = let z : ◌≡◌ {A = ℕ} 0 1 = cc in absurd (omega arith)
passed false f e = refl

none_each : (order : List ℕ) (n : ℕ) → misplaced_below order n ≡ None → (i : ℕ) → i < n → misplaced order i ≡ false
none_each order zero e i h = absurd (omega arith)
none_each order (suc n) e i h =
    elim (eqb_tells i n) [
      | inl t ↦ ap (misplaced order) t.1 ∙ passed (misplaced order n) (at OrderPin n) (or_right (misplaced_below order n) (refuse_if (misplaced order n) (at OrderPin n) None) e)
      | inr t ↦ none_each order n (or_left (misplaced_below order n) (refuse_if (misplaced order n) (at OrderPin n) None) e) i (omega (arith, t.1))
    ]

each_none : (order : List ℕ) (n : ℕ) → ((i : ℕ) → i < n → misplaced order i ≡ false) → misplaced_below order n ≡ None
each_none order zero h = refl
each_none order (suc n) h = let r = each_none order n (λ i l. h i (omega arith)) in let m = h n (omega arith) in simp (r, m)

-- what a position that is not misplaced says
small_at : (order : List ℕ) (i : ℕ) → misplaced order i ≡ false → get_or order i 0 < length order
small_at order i e = grind (arith, nat_tests)

new_at : (order : List ℕ) (i : ℕ) → misplaced order i ≡ false → among order (get_or order i 0) i ≡ false
new_at order i e = grind (arith, nat_tests)

placed_at : (order : List ℕ) (i : ℕ) → get_or order i 0 < length order → among order (get_or order i 0) i ≡ false → misplaced order i ≡ false
placed_at order i l a = simp (lt-leb (length order) (get_or order i 0) l, a)

pub is_order : (order : List ℕ) → misplaced_below order (length order) ≡ None → Order (length order) order
unfolding Distinct
is_order order e = record {
  full = refl;
  small = λ p m. let r = in_at p order m in subst (λ (x : ℕ). x < length order) r.2 (small_at order r.0 (none_each order (length order) e r.0 r.1));
  once = distinct_apart order (λ i j h l q. let f = among_found order (get_or order j 0) i q j h in let n = new_at order j (none_each order (length order) e j l) in let z : ◌≡◌ {A = ℕ} 0 1 = ap (λ (b : Bool). cond b 1 0) (sym n ∙ f) in omega arith);
}

pub orders_told : OrdersTold
unfolding Distinct
orders_told order =
    (is_order order, λ o. each_none order (length order) (λ i h. placed_at order i (o.small (get_or order i 0) (in_get_or order i h)) (among_none order (get_or order i 0) i (λ j l q. apart_distinct order o.once j i l h q))))

-- what a search over the positions tells
pub searched : (order : List ℕ) (a z : ℕ) → a ≡ 0 → z ≡ length order → (r : Option ℕ)
    → MatchOption r ((k : ℕ) → a ≤ k → k < z → misplaced order k ≡ false) (λ i. (a ≤ i) × (i < z) × (misplaced order i ≡ true) × ((k : ℕ) → a ≤ k → k < i → misplaced order k ≡ false))
    → misplaced_below order (length order) ≡ option_map (at OrderPin) r
searched order a z b e (Some i) m = let l = m.1 in below_found order i (each_none order i (λ k h. m.3 k (omega arith) h)) m.2 (length order) (omega arith)
searched order a z b e None m = each_none order (length order) (λ k h. m k (omega arith) (omega arith))

-- the place of a pin, from the first position that has it
pub place_found : (order : List ℕ) (p : ℕ) (r : Option ℕ)
    → MatchOption r (AllWithin (λ q. q ≡ p → ⊥) order 0 (length order)) (λ i. (i < length order) × HoldsAt (λ q. q ≡ p) order i × AllWithin (λ q. q ≡ p → ⊥) order 0 i) → place_in order p ≡ unwrap_or r (length order)
place_found order p r m = index_from_first (λ ps. place_in ps p) (λ q. q ≡ p) (λ q. q ≡ p → ⊥) refl (λ q qs e. grind (arith, nat_tests)) (λ q qs e. grind (arith, nat_tests)) order r m
