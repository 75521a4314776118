-- What holds of answers, layers and their refusals, in the words of addresses and blocks.
use Rattle.std.specs.Prelude.{◌≡◌, ℕ, ◌-◌, ◌^◌, ◌<◌, ◌≤◌, ◌⊎◌, Some, Decides, ◌≢◌, bit_xor}
use Rattle.faults.specs.declared.fault.Ground.TheVariants.{SourceLayer}
use Rattle.faults.specs.declared.fault.Layer.TheVariants.{Plan}
use Rattle.faults.specs.Grounds.{number}
use Rattle.faults.specs.Refusals.{at as refusal, is_none}
use Rattle.sources.specs.declared.source.Answer.{Answer}
use Rattle.sources.specs.Blocks.{at, Says}
use Rattle.sources.specs.Layers.{flipped, mounted}
use Rattle.sources.specs.Grounds.{flip_fault, mount_fault}

-- of one block, one answer is true and no other
pub record JustOne {E : Type 0} (n : ℕ) (f : ℕ → E) (j p : ℕ) : Type 0 where
  pub answer : Answer E
  pub says : Says n f j p answer
  pub only : (other : Answer E) → Says n f j p other → other ≡ answer

abbrev pub AnswersDetermined : Type 0 → Type 0
AnswersDetermined E = (n : ℕ) (f : ℕ → E) (j p : ℕ) → JustOne n f j p

-- a mask of the pins turns over just these pins
abbrev pub FlipsByMask : Type 0 → Type 0
FlipsByMask E = (n mask : ℕ) (f : ℕ → E) (a : ℕ) → mask < 2 ^ n → flipped n mask f a ≡ f (bit_xor a mask)

-- of the blocks that are as large as the source below, the one at the base has its ends, and the others have the fill end
pub record MountsAtBase (E : Type 0) : Type 0 where
  pub base : (n m b : ℕ) (fill : E) (f : ℕ → E) (i : ℕ) → m ≤ n → i < 2 ^ m → mounted n m b fill f (at n (n - m) b i) ≡ f i
  pub others : (n m b : ℕ) (fill : E) (f : ℕ → E) (p i : ℕ) → m ≤ n → i < 2 ^ m → (p ≢ b) → mounted n m b fill f (at n (n - m) p i) ≡ fill

-- m pins stand in n pins at a base
pub record Stands (n m base : ℕ) : Type 0 where
  pub fits : m ≤ n
  pub few : n ≤ 20
  pub placed : base < 2 ^ (n - m)

-- a layer is refused just where it has no meaning, and the refusal says why
pub record RefusalsExact : Type 0 where
  pub flips : (n mask : ℕ) → Decides (is_none (flip_fault n mask)) (mask < 2 ^ n)
  pub mask : (n mask : ℕ) → 2 ^ n ≤ mask → flip_fault n mask ≡ Some (refusal SourceLayer mask)
  pub mounts : (n m base : ℕ) → Decides (is_none (mount_fault n m base)) (Stands n m base)
  pub pins : (n m base : ℕ) → (n < m) ⊎ (20 < n) → mount_fault n m base ≡ Some (refusal SourceLayer n)
  pub base : (n m base : ℕ) → m ≤ n → n ≤ 20 → 2 ^ (n - m) ≤ base → mount_fault n m base ≡ Some (refusal SourceLayer base)
  pub numbered : (place : ℕ) → number (refusal SourceLayer place).ground ≡ 20
  pub layered : (place : ℕ) → (refusal SourceLayer place).layer ≡ Plan
  pub placed : (place : ℕ) → (refusal SourceLayer place).place ≡ place
