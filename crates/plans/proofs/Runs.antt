-- What each call of a run over numbers gave.
use Rattle.std.proofs.Common.{ℕ, zero, suc, ◌+◌, ◌<◌, ◌≤◌, List, get_or, sym, subst, inl, inr, arith}
use denote.Param.Members.{Mut, Called}
use Rattle.std.specs.Array.{IsFromFnResultFrom}
use Rattle.std.proofs.lemmas.Bool.Decides.{eqb_tells}

-- by what stays true of the state of the calls
module _ {F B : Type 0} (g : Mut F (ℕ × Unit {0}) B) (I : F → Type 0) (P : ℕ → B → Type 0) (step : (p : F) (i : ℕ) (y : B) (q : F) → I p → Called g p (i, tt) y q → P i y × I q) (d : B) where
  pub each_call : (f : F) (ys : List B) (a n : ℕ) → I f → IsFromFnResultFrom g f ys a n → (i : ℕ) → a ≤ i → i < a + n → P i (get_or ys i d)
  each_call f ys a zero inv run i l h = absurd (omega arith)
  each_call f ys a (suc n) inv run i l h =
      elim (eqb_tells a i) [
        | inl t ↦ subst (λ (k : ℕ). P k (get_or ys k d)) t.1 (subst (P a) (sym (run.2.1 d)) (step f a run.1 run.0 inv run.3).0)
        | inr t ↦ each_call run.0 ys (a + 1) n (step f a run.1 run.0 inv run.3).1 run.4 i (let ne = t.1 in omega arith) (omega arith)
      ]
