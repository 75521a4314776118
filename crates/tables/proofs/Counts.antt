-- Counting entries that are not 0.
use Rattle.std.proofs.Common.{◌≡◌, ℕ, zero, suc, ◌+◌, ◌<◌, ◌≤◌, Bool, cond, ltb, List, [], ◌∷◌, length, get_or, take, set, sym, refl, ap, ◌∙◌, subst, add-one, arith, length-take}
use Rattle.std.specs.List.{sum_by}
use Rattle.std.proofs.lemmas.Bool.{ltb-true, lt-ltb}
use Rattle.std.proofs.lemmas.List.{take_all}
use Rattle.std.proofs.lemmas.List.Sums.{sum_by-cons}
use Rattle.model.specs.Lists.{In, Apart}
use Rattle.model.proofs.Lists.{pigeonhole}
use Rattle.model.proofs.Marks.{marked, from_marked, in_marked, apart_marked, length_marked}
use Rattle.tables.specs.Indexes.{nonzero, filled}
use Rattle.tables.specs.States.{Live}
use Rattle.tables.specs.Markings.{Counts}
use Rattle.tables.proofs.Marks.{live_inside}

pub filled_set : (xs : List ℕ) (p v : ℕ) → p < length xs → get_or xs p 0 ≡ 0 → filled (set xs p (v + 1)) ≡ filled xs + 1
filled_set [] p v h e = absurd (omega arith)
filled_set (y ∷ ys) zero v h e = rw e (rw (add-one v) (omega arith))
filled_set (y ∷ ys) (suc p) v h e = ap (λ z. nonzero y + z) (filled_set ys p v (omega arith) e) ∙ omega arith

pub nonzero_le : (a : ℕ) → nonzero a ≤ 1
nonzero_le zero = omega arith
nonzero_le (suc a) = omega arith

pub nonzero_is : (a : ℕ) → (a ≡ 0 → ⊥) → nonzero a ≡ 1
nonzero_is zero h = absurd (h refl)
nonzero_is (suc a) h = refl

pub filled_summed : (xs : List ℕ) → filled xs ≡ sum_by nonzero xs
filled_summed [] = refl
filled_summed (x ∷ xs) = ap (λ s. nonzero x + s) (filled_summed xs) ∙ sym (sum_by-cons nonzero x xs)

pub filled_le : (xs : List ℕ) → filled xs ≤ length xs
filled_le [] = omega arith
filled_le (y ∷ ys) = omega (arith, filled_le ys, nonzero_le y)

pub all_filled : (xs : List ℕ) → ((p : ℕ) → p < length xs → 0 < get_or xs p 0) → filled xs ≡ length xs
all_filled [] h = refl
all_filled (zero ∷ ys) h = absurd (omega (arith, h 0 (omega arith)))
all_filled (suc y ∷ ys) h = omega (arith, all_filled ys (λ p l. h (suc p) (omega arith)))

pub none_filled : (xs : List ℕ) → ((p : ℕ) → get_or xs p 0 ≡ 0) → filled xs ≡ 0
none_filled [] z = refl
none_filled (y ∷ ys) z = let e : y ≡ 0 = z 0 in let f : nonzero y ≡ 0 = ap nonzero e in omega (arith, none_filled ys (λ p. z (suc p)))

pub filled_more : (xs : List ℕ) (i : ℕ) → i < length xs → filled (take (i + 1) xs) ≡ filled (take i xs) + nonzero (get_or xs i 0)
filled_more [] i h = absurd (omega arith)
filled_more (y ∷ ys) zero h = omega arith
filled_more (y ∷ ys) (suc i) h =
    rw (add-one (suc i)) (let e = filled_more ys i (omega arith) in let f : filled (take (suc i) ys) ≡ filled (take (i + 1) ys) = rw (add-one i) refl in omega arith)

pub filled_take_le : (xs : List ℕ) (i : ℕ) → filled (take i xs) ≤ length xs
filled_take_le xs i = omega (arith, filled_le (take i xs), length-take i xs)

abbrev test : List ℕ → ℕ → Bool
test xs i = ltb 0 (get_or xs i 0)

filled_marked : (xs : List ℕ) (c : ℕ) → c ≤ length xs → length (marked (test xs) c) ≡ filled (take c xs)
filled_marked xs zero l = refl
filled_marked xs (suc c) l =
    go (get_or xs c 0) ∙ (ap (λ z. z + nonzero (get_or xs c 0)) (filled_marked xs c (omega arith)) ∙ (sym (filled_more xs c (omega arith)) ∙ ap (λ z. filled (take z xs)) (add-one c)))
  where
    go : (x : ℕ) → length (cond (ltb 0 x) (c ∷ marked (test xs) c) (marked (test xs) c)) ≡ length (marked (test xs) c) + nonzero x
    go zero = omega arith
    go (suc x) = ap (λ q. length (cond q (c ∷ marked (test xs) c) (marked (test xs) c))) (lt-ltb 0 (suc x) (omega arith)) ∙ omega arith

-- the live nodes as a list
abbrev pub live_list : List ℕ → List ℕ
live_list marks = marked (test marks) (length marks)

pub in_live : (marks : List ℕ) (i : ℕ) → Live marks i → In i (live_list marks)
in_live marks i l = in_marked (test marks) (length marks) i (live_inside marks i l) (lt-ltb 0 (get_or marks i 0) l)

pub from_live : (marks : List ℕ) (i : ℕ) → In i (live_list marks) → Live marks i
from_live marks i m = ltb-true 0 (get_or marks i 0) (from_marked (test marks) (length marks) i m).1

pub apart_live : (marks : List ℕ) → Apart (live_list marks)
apart_live marks = apart_marked (test marks) (length marks)

-- every slot is live
pub all_live : (marks : List ℕ) → ((i : ℕ) → i < length marks → Live marks i) → length (live_list marks) ≡ length marks
all_live marks full = length_marked (test marks) (length marks) (λ i l. lt-ltb 0 (get_or marks i 0) (full i l))

-- the count is that of every list of the live nodes
pub counts_filled : (marks : List ℕ) → Counts marks (filled marks)
counts_filled marks us apart is =
    let a = pigeonhole us (live_list marks) apart (λ i m. in_live marks i ((is i).0 m)) in
    let b = pigeonhole (live_list marks) us (apart_live marks) (λ i m. (is i).1 (from_live marks i m)) in
    let c = filled_marked marks (length marks) (omega arith) in
    let d : filled (take (length marks) marks) ≡ filled marks = ap filled (take_all (length marks) marks (omega arith)) in
    omega arith

-- and so is a number that is as large
pub counts_told : (marks : List ℕ) (r : ℕ) → r ≡ filled marks → Counts marks r
counts_told marks r e = subst (Counts marks) (sym e) (counts_filled marks)
