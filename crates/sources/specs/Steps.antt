-- How layers ask the source below: which block, and what is made of its answer.
use Rattle.std.specs.Prelude.{ℕ, ◌+◌, ◌-◌, ◌/◌, ◌%◌, ◌^◌, cond, ◌==◌, bit_xor, nat_lt}
use Rattle.sources.specs.declared.source.Answer.{Answer}
use Rattle.sources.specs.declared.source.Answer.TheVariants.{All, Mixed, Outside}
use Rattle.sources.specs.declared.overlap.Overlap.{Overlap}
use Rattle.sources.specs.declared.overlap.Overlap.TheVariants.{Apart, Within, Around}

-- block p of level j with the pins of the mask turned over, of n pins
abbrev pub turned : (n mask j p : ℕ) → ℕ
turned n mask j p = bit_xor p (mask / 2 ^ (n - j) % 2 ^ j)

-- how block p of level j of n pins meets a source of m pins at base b
abbrev pub overlap : (n m b j p : ℕ) → Overlap
overlap n m b j p = cond (nat_lt (j + m) n) (cond (b / 2 ^ (n - m - j) == p) Around Apart) (cond (p / 2 ^ (j + m - n) == b) (Within (record { level = j + m - n; number = p % 2 ^ (j + m - n) })) Apart)

-- the answer for what a first answer is of, and some addresses of the fill end
abbrev pub with_fill : {E : Type 0} → (E → ℕ) → Answer E → E → Answer E
with_fill code (All e) fill = cond (code e == code fill) (All e) Mixed
with_fill code Mixed fill = Mixed
with_fill code Outside fill = Outside
