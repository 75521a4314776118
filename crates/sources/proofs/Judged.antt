-- When a layer is refused, and on which ground.
use Rattle.std.proofs.Common.{◌≡◌, ℕ, ◌-◌, ◌^◌, ◌<◌, ◌≤◌, ◌⊎◌, Some, Decides, refl, arith}
use Rattle.std.proofs.lemmas.Bool.Decides.{nat_tests}
use Rattle.faults.specs.declared.fault.Ground.TheVariants.{SourceLayer}
use Rattle.faults.specs.Refusals.{at as refusal, is_none}
use Rattle.sources.specs.Grounds.{flip_fault, mount_fault}
use Rattle.sources.specs.Laws.{Stands, RefusalsExact}

mask_above : (n mask : ℕ) → 2 ^ n ≤ mask → flip_fault n mask ≡ Some (refusal SourceLayer mask)
mask_above n mask h = grind (arith, nat_tests)

pub flips : (n mask : ℕ) → Decides (is_none (flip_fault n mask)) (mask < 2 ^ n)
flips n mask = grind (arith, nat_tests)

pins_above : (n m base : ℕ) → (n < m) ⊎ (20 < n) → mount_fault n m base ≡ Some (refusal SourceLayer n)
pins_above n m base h = grind (arith, nat_tests)

base_above : (n m base : ℕ) → m ≤ n → n ≤ 20 → 2 ^ (n - m) ≤ base → mount_fault n m base ≡ Some (refusal SourceLayer base)
base_above n m base h k l = grind (arith, nat_tests)

pub mounts : (n m base : ℕ) → Decides (is_none (mount_fault n m base)) (Stands n m base)
mounts n m base = (
  λ e. record { fits = grind (arith, nat_tests); few = grind (arith, nat_tests); placed = grind (arith, nat_tests) },
  λ s. let h = s.fits in let k = s.few in let l = s.placed in grind (arith, nat_tests),
)

pub refusals_exact : RefusalsExact
refusals_exact = record {
  flips = flips;
  mask = mask_above;
  mounts = mounts;
  pins = pins_above;
  base = base_above;
  numbered = λ _. refl;
  layered = λ _. refl;
  placed = λ _. refl;
}
