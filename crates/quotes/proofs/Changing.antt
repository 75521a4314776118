-- A map changes only where an entry of its file stands.
use Rattle.std.proofs.Common.{◌≡◌, ◌≢◌, ℕ, zero, suc, ◌-◌, ◌*◌, ◌<◌, ◌≤◌, List, [], ◌∷◌, length, Some, Option, sym, refl, ap, ◌∙◌, subst, inl, inr, arith}
use Rattle.std.proofs.lemmas.Bool.Decides.{eqb_tells, leb_tells}
use Rattle.files.specs.declared.format.Format.{Format}
use Rattle.files.specs.Formats.{pins_of, code_of, code_limit}
use Rattle.files.specs.Meaning.{last_at, meaning}
use Rattle.files.specs.Rules.{Obeys}
use Rattle.files.specs.Theorems.{Last}
use Rattle.files.proofs.Lasts.{last_told, told_last}
use Rattle.model.specs.Lists.{In}
use Rattle.readers.specs.Changes.{change_at, change_count}
use Rattle.readers.proofs.Rising.{Steps}
use Rattle.readers.proofs.Stepping.{steps_of, changes_mean}
use Rattle.readers.proofs.Ends.{own_code}
use Rattle.trees.specs.Mixed.{codes}
use Rattle.trees.specs.Records.{records}
use Rattle.trees.specs.Theorems.{ChangesIn}
use Rattle.trees.proofs.Few.{records_few}

-- the values of f at 1 to k
abbrev values : (ℕ → ℕ) → ℕ → List ℕ
values f zero = []
values f (suc k) = f (suc k) ∷ values f k

values_many : (f : ℕ → ℕ) (k : ℕ) → length (values f k) ≡ k
values_many f zero = refl
values_many f (suc k) = ap suc (values_many f k)

value_in : (f : ℕ → ℕ) (a i k : ℕ) → 0 < i → i ≤ k → a ≡ f i → In a (values f k)
value_in f a i zero l h e = absurd (omega arith)
value_in f a i (suc k) l h e =
    elim (eqb_tells i (suc k)) [
      | inl t ↦ inl (e ∙ ap f t.1)
      | inr t ↦ inr (value_in f a i k l (omega (arith, t.1)) e)
    ]

module _ (address code : ℕ → ℕ) (count : ℕ) (steps : Steps address code count) where
  listed : (a : ℕ) → 0 < a → (code (last_at address (a - 1) count) ≢ code (last_at address a count)) → In a (values address count)
  listed a some differ =
      let i = last_at address a count in
      let l : Last address a count i = last_told address steps.start a count in
      elim (leb_tells (address i) (a - 1)) [
        | inl t ↦ absurd (differ (ap code (told_last address steps.start (a - 1) count i (record { there = l.there; low = t.1; next = λ j u v. let w = l.next j u v in omega arith }))))
        | inr t ↦ elim (eqb_tells i 0) [
          | inl z ↦ absurd (let at : address i ≡ 0 = ap address z.1 ∙ steps.start in omega (arith, at, t.1, some))
          | inr n ↦ value_in address a i count (omega (arith, n.1)) l.there (omega (arith, t.1, l.low))
        ]
      ]

pub file_few : {E : Type 0} (code : E → ℕ) (decoded : ℕ → Option E) → ((n : ℕ) (e : E) → decoded n ≡ Some e → code e ≡ n) → (k : Format) (bs : List ℕ) → Obeys k bs → (end : ℕ → E) (selection : ℕ → E)
    → ((a : ℕ) → selection a ≡ end (meaning k bs a)) → ((c : ℕ) → c < code_limit k → decoded c ≡ Some (end c)) → length (records (pins_of k bs) (codes code selection)) ≤ pins_of k bs * change_count k bs
file_few code decoded only k bs o end selection means coded =
    let steps = steps_of k bs o.entries in
    let own = own_code code decoded only k bs o end selection means coded in
    let mean = changes_mean k bs o.entries in
    let all : ChangesIn (pins_of k bs) (codes code selection) (values (change_at k bs) (change_count k bs)) =
    λ a some top differ. listed (change_at k bs) (code_of k bs) (change_count k bs) steps a some (λ e. differ (own (a - 1) ∙ sym (mean (a - 1)) ∙ e ∙ mean a ∙ sym (own a))) in
    let few = records_few (pins_of k bs) (codes code selection) (values (change_at k bs) (change_count k bs)) all in
    subst (λ (m : ℕ). length (records (pins_of k bs) (codes code selection)) ≤ pins_of k bs * m) (values_many (change_at k bs) (change_count k bs)) few
