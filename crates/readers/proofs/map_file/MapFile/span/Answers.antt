use Rattle.std.proofs.Common.{◌≡◌, ℕ, ◌+◌, ◌-◌, ◌*◌, ◌%◌, ◌^◌, ◌<◌, ◌≤◌, ap, arith, pow_pos, pow_mono, pow-add}
use Rattle.std.proofs.lemmas.Nat.{one_shl, mul-add-lt}
use Rattle.sources.specs.Blocks.{Inside}
use Rattle.readers.proofs.map_file.MapFile.span.Goals as goal

-- the end of a block is within the pins
ends_within : (n j p : ℕ) → Inside n j p → n ≤ 20 → p * 2 ^ (n - j) + (2 ^ (n - j) - 1) < 2 ^ 20
ends_within n j p h few =
    let s : 2 ^ (n - j) - 1 < 2 ^ (n - j) = omega (arith, pow_pos (n - j)) in
    let e : 2 ^ ((n - j) + j) ≡ 2 ^ (n - j) * 2 ^ j = pow-add 2 (n - j) j in
    let f : 2 ^ ((n - j) + j) ≡ 2 ^ n = ap (λ x. 2 ^ x) (omega (arith, h.level)) in
    omega (arith, mul-add-lt p (2 ^ (n - j)) (2 ^ (n - j) - 1) (2 ^ j) h.block s, e, f, pow_mono few)

shift : (n j : ℕ) → n ≤ 20 → 1 * 2 ^ (n - j) % 4294967296 ≡ 2 ^ (n - j)
shift n j few = one_shl (n - j) 32 (omega arith)

pub overflow_mul-first : goal.overflow_mul-first
overflow_mul-first g c =
    let few = c.args.self.now.few in
    simp (c.pin_count.ensures, shift _ c.args.block.level few) (omega (arith, ends_within _ c.args.block.level c.args.block.number c.requires few))

pub overflow_add-result : goal.overflow_add-result
overflow_add-result g c =
    let few = c.args.self.now.few in
    simp (c.pin_count.ensures, shift _ c.args.block.level few) (omega (arith, ends_within _ c.args.block.level c.args.block.number c.requires few))
