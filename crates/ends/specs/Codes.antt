-- The codes of ends, and what joinings make of them.
use Rattle.std.specs.Prelude.{ℕ, ◌+◌, ◌*◌, ◌/◌, ◌%◌, ◌<◌, Bool, true, false, cond, not, Some, None, Option, ◌==◌, nat_lt}
use Rattle.std.proofs.Common.{lit<}
use Rattle.std.proofs.lemmas.Nat.{mod_below}
use Rattle.ends.specs.declared.setting.Setting.{Setting}

abbrev pub bit_code : Bool → ℕ
bit_code true = 1
bit_code false = 0

abbrev pub bit_of : ℕ → Option Bool
bit_of n = cond (n == 0) (Some false) (cond (n == 1) (Some true) None)

abbrev pub setting : (chip waits : ℕ) → chip < 16 → waits < 8 → Setting
setting c w known short = record { chip = c; waits = w; known = known; short = short }

abbrev pub setting_code : Setting → ℕ
setting_code s = s.chip * 8 + s.waits

-- the setting of a code below 128, and some setting for any other number
abbrev pub setting_at : ℕ → Setting
setting_at n = setting (n / 8 % 16) (n % 8) (mod_below (n / 8) 16 (lit< tt)) (mod_below n 8 (lit< tt))

abbrev pub setting_of : ℕ → Option Setting
setting_of n = cond (nat_lt n 128) (Some (setting_at n)) None

-- exclusive or
abbrev pub unlike : Bool → Bool → Bool
unlike true b = not b
unlike false b = b

-- one of the two settings has chip 0 and the other has not
abbrev pub one_idle : Setting → Setting → Bool
one_idle a b = unlike (a.chip == 0) (b.chip == 0)

-- a chip other than 0 beats chip 0; otherwise more waits win
abbrev pub beats : Setting → Setting → Bool
beats a b = cond (one_idle a b) (b.chip == 0) (nat_lt b.waits a.waits)

-- the left setting, unless the right one beats it
abbrev pub overlaid : Setting → Setting → Setting
overlaid l r = cond (beats r l) r l

abbrev pub bind : {A B : Type 0} → Option A → (A → Option B) → Option B
bind (Some x) f = f x
bind None f = None

-- the code of the joined ends of two codes, where both decode
abbrev pub joined_code : {E : Type 0} → (ℕ → Option E) → (E → ℕ) → (E → E → E) → ℕ → ℕ → Option ℕ
joined_code decoded code joined a b = bind (decoded a) (λ l. bind (decoded b) (λ r. Some (code (joined l r))))
