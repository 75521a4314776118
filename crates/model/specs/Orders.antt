-- Pin orders.
use Rattle.std.specs.Prelude.{◌≡◌, ℕ, suc, ◌<◌, cond, List, [], ◌∷◌, length, ◌==◌}
use Rattle.model.specs.Lists.{In, Apart}

-- an order of n pins names each of them once
pub record Order (n : ℕ) (order : List ℕ) : Type 0 where
  pub full : length order ≡ n
  pub small : (p : ℕ) → In p order → p < n
  pub once : Apart order

-- the place of pin p in an order
abbrev pub place_in : List ℕ → ℕ → ℕ
place_in [] p = 0
place_in (q ∷ qs) p = cond (p == q) 0 (suc (place_in qs p))
