-- What a borrowed option yields, and what the lines yield one after the other.
use Rattle.std.proofs.Common.{◌≡◌, Bool, true, false, cond, Some, None, Option, List, [], ◌∷◌, length, sym, refl, ap, ap₂, ◌∙◌, subst}
use Rattle.std.specs.Prelude.{MatchBool, option_to_list}
use Rattle.std.specs.List.{flat_map}
use Rattle.std.specs.Iterator.Adapters.{option_iter_item, option_iter_done, option_iter_steps}
use Rattle.std.proofs.lemmas.Iterator.{YieldsList}
use Rattle.std.proofs.lemmas.Iterator.Consumers.{YieldsList-from_shown}
use denote.Ref.{Bor}
use Rattle.model.specs.Lists.{held}

none_left : {A : Type 0} → (u t : _) → option_iter_steps {A = A} u None t → length (cond (option_iter_done u) [] (option_to_list (option_iter_item u))) ≡ 0
none_left {A} u t p = go (option_iter_done u) (option_iter_item u) p.1
  where
    go : (b : Bool) (o : Option A) → MatchBool b (◌≡◌ {A = Option (Bor A)} None None) (None ≡ o) → length (cond b [] (option_to_list o)) ≡ 0
    go true o e = refl
    go false o e = ap (λ k. length (option_to_list k)) (sym e)

one_left : {A : Type 0} → (u : _) (x : Bor A) (t : _) → option_iter_steps {A = A} u (Some x) t
    → cond (option_iter_done u) [] (option_to_list (option_iter_item u)) ≡ x.now ∷ cond (option_iter_done t) [] (option_to_list (option_iter_item t))
one_left {A} u x t p = go (option_iter_done u) (option_iter_item u) p.1 ∙ ap (λ b. x.now ∷ cond b [] (option_to_list (option_iter_item t))) (sym p.0)
  where
    go : (b : Bool) (o : Option A) → MatchBool b (Some x ≡ None) (Some x.now ≡ o) → cond b [] (option_to_list o) ≡ x.now ∷ []
    go true o e = absurd (let z : ⊥ = cc in z)
    go false o e = ap option_to_list (sym e)

pub option_yields : {A : Type 0} (o : Option A) → (s : _) → option_iter_item {T = A} s ≡ o → option_iter_done s ≡ false → YieldsList option_iter_steps (λ y. y.now) s (option_to_list o)
option_yields {A} o s item fresh =
    subst (YieldsList option_iter_steps (λ y. y.now) s) (ap₂ (λ b k. cond b [] (option_to_list k)) fresh item)
    (YieldsList-from_shown option_iter_steps (λ y. y.now) (λ u. cond (option_iter_done u) [] (option_to_list (option_iter_item u))) none_left one_left s)

pub held_flat : {A : Type 0} (ls : List (Option A)) → flat_map option_to_list ls ≡ held ls
held_flat [] = refl
held_flat (None ∷ ls) = held_flat ls
held_flat (Some x ∷ ls) = ap (λ k. x ∷ k) (held_flat ls)
