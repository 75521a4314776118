-- Probes that go round.
use Rattle.std.proofs.Common.{◌≡◌, ℕ, ◌+◌, ◌-◌, ◌*◌, ◌/◌, ◌%◌, ◌<◌, List, length, get_or, ap, ◌∙◌, subst, mod-lt, mod-eq_of_lt, mul-one, mul-add, arith}
use native.Mathlib.Nat.{add-mod-mod, mul-add-mod_self_left, mod-add-div}
use Rattle.model.specs.declared.Node.{Node}
use Rattle.tables.specs.Indexes.{spread, filled}
use Rattle.tables.specs.Probes.{Missed}
use Rattle.tables.proofs.Counts.{all_filled}

-- each place is met by one of the probes
met : (s n p : ℕ) → p < n → (s + ((p + (n - s % n)) % n)) % n ≡ p
met s n p h =
    add-mod-mod s (p + (n - s % n)) n
    ∙ (ap (λ z. z % n) e ∙ (mul-add-mod_self_left n (s / n + 1) p ∙ mod-eq_of_lt h))
  where
    e : s + (p + (n - s % n)) ≡ n * (s / n + 1) + p
    e =
        let pos : 0 < n = omega arith in
        let l : s % n < n = mod-lt s pos in
        let d : s % n + n * (s / n) ≡ s = mod-add-div s n in
        let u : n * (s / n + 1) ≡ n * (s / n) + n = mul-add n (s / n) 1 ∙ ap (λ z. n * (s / n) + z) (mul-one n) in
        omega arith

-- what holds at every probe holds everywhere
pub all_round : (P : ℕ → Type 0) (s n : ℕ) → ((e : ℕ) → e < n → P ((s + e) % n)) → (p : ℕ) → p < n → P p
all_round P s n h p l = subst P (met s n p l) (h ((p + (n - s % n)) % n) (let pos : 0 < n = omega arith in mod-lt _ pos))

-- an index that is not filled has an empty entry on the way
pub some_empty : (nodes : List Node) (index : List ℕ) (k : Node) → filled index < length index → Missed nodes index k (length index) → ⊥
some_empty nodes index k few h =
    let all = all_round (λ p. 0 < get_or index p 0) (spread k) (length index) (λ e l. (h e l).0) in
    omega (arith, all_filled index all)
