-- Blocks of a source whose addresses are turned over by a mask.
use Rattle.std.proofs.Common.{◌≡◌, ℕ, ◌+◌, ◌-◌, ◌*◌, ◌/◌, ◌%◌, ◌^◌, ◌<◌, ◌≤◌, sym, ap, ◌∙◌, subst, mod-eq_of_lt, arith, pow_pos}
use lib.Bits.{bit_xor, xor_block, xor_lt, xor_assoc, xor_self, xor_zero_r}
use lib.Pow.{mod-pow-add}
use Rattle.std.proofs.lemmas.Nat.{mod_below}
use Rattle.sources.specs.declared.block.Block.{Block}
use Rattle.sources.specs.declared.source.Answer.{Answer}
use Rattle.sources.specs.Blocks.{at, Inside, Says}
use Rattle.sources.specs.Layers.{flipped}
use Rattle.sources.specs.Steps.{turned}
use Rattle.sources.proofs.Answering.{Among, carry}

-- the mask above and within a block of level j
abbrev above : (n j mask : ℕ) → ℕ
above n j mask = mask / 2 ^ (n - j) % 2 ^ j

abbrev within : (n j mask : ℕ) → ℕ
within n j mask = mask % 2 ^ (n - j)

within_lt : (n j mask : ℕ) → within n j mask < 2 ^ (n - j)
within_lt n j mask = mod_below mask (2 ^ (n - j)) (pow_pos (n - j))

flip_at : (n j p i mask : ℕ) → j ≤ n → i < 2 ^ (n - j) → bit_xor (at n j p i) (mask % 2 ^ n) ≡ at n j (turned n mask j p) (bit_xor i (within n j mask))
flip_at n j p i mask h k =
    let e : n ≡ j + (n - j) = omega arith in
    let s : mask % 2 ^ n ≡ above n j mask * 2 ^ (n - j) + within n j mask = ap (λ x. mask % 2 ^ x) e ∙ mod-pow-add mask j (n - j) in
    ap (bit_xor (at n j p i)) s ∙ xor_block (n - j) p (above n j mask) i (within n j mask) k (within_lt n j mask)

twice : (a b : ℕ) → bit_xor (bit_xor a b) b ≡ a
twice a b = xor_assoc a b b ∙ ap (bit_xor a) (xor_self b) ∙ xor_zero_r a

module _ {E : Type 0} (n : ℕ) (f : ℕ → E) (j p mask : ℕ) (here : Inside n j p) where
  abbrev asked : ℕ
  asked = turned n mask j p

  there : Inside n j asked
  there = record { level = here.level; block = xor_lt j p (above n j mask) here.block (mod_below (mask / 2 ^ (n - j)) (2 ^ j) (pow_pos j)) }

  to : Among n (flipped n mask f) j p n f j asked
  to i k = (bit_xor i (within n j mask), xor_lt (n - j) i (within n j mask) k (within_lt n j mask), ap f (flip_at n j p i mask here.level k))

  back : Among n f j asked n (flipped n mask f) j p
  back i k =
      let w = within n j mask in
      let l = xor_lt (n - j) i w k (within_lt n j mask) in
      (bit_xor i w, l, sym (ap f (flip_at n j p (bit_xor i w) mask here.level l ∙ ap (at n j asked) (twice i w))))

  flip_says : (r : Answer E) → Says n f j asked r → Says n (flipped n mask f) j p r
  flip_says = carry n (flipped n mask f) j p here n f j asked there to back

-- the same, as code has it, by the pins that the source below tells
pub flip_follows : {E : Type 0} (n : ℕ) (f : ℕ → E) (pins mask j p : ℕ) (b : Block) → pins ≡ n → Inside pins j p → (b.level ≡ j) × (b.number ≡ turned pins mask j p) → (r : Answer E) → Says n f b.level b.number r → Says n (flipped n mask f) j p r
flip_follows n f pins mask j p b e h a r s =
    let asked : b.number ≡ turned n mask j p = a.1 ∙ ap (λ x. turned x mask j p) e in
    flip_says n f j p mask (subst (λ (x : ℕ). Inside x j p) e h) r (subst (λ (x : ℕ). Says n f j x r) asked (subst (λ (x : ℕ). Says n f x b.number r) a.0 s))

-- a mask for n pins is wholly used
pub flip_whole : {E : Type 0} (n mask : ℕ) (f : ℕ → E) (a : ℕ) → mask < 2 ^ n → flipped n mask f a ≡ f (bit_xor a mask)
flip_whole n mask f a h = ap (λ x. f (bit_xor a x)) (mod-eq_of_lt h)
