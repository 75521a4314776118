-- When a layer cannot be made, and the refusal then.
use Rattle.std.specs.Prelude.{ℕ, ◌-◌, ◌^◌, ◌||◌, None, Option, nat_le, nat_lt}
use Rattle.faults.specs.declared.fault.Fault.{Fault}
use Rattle.faults.specs.declared.fault.Ground.TheVariants.{SourceLayer}
use Rattle.faults.specs.Refusals.{at, refuse_if}

-- a mask for n pins is below 2 ^ n
abbrev pub flip_fault : (n mask : ℕ) → Option Fault
flip_fault n mask = refuse_if (nat_le (2 ^ n) mask) (at SourceLayer mask) None

-- m pins stand in n pins, of at most 20, and then at a base of n - m bits
abbrev pub mount_fault : (n m base : ℕ) → Option Fault
mount_fault n m base = refuse_if (nat_lt n m || nat_lt 20 n) (at SourceLayer n) (refuse_if (nat_le (2 ^ (n - m)) base) (at SourceLayer base) None)
