-- Blocks of a source that stands in more pins.
use Rattle.std.proofs.Common.{◌≡◌, ℕ, suc, ◌+◌, ◌-◌, ◌*◌, ◌/◌, ◌%◌, ◌^◌, ◌<◌, ◌≤◌, sym, ap, ◌∙◌, subst, inl, inr, mul_assoc, add-mul, zero-mul, arith, pow_pos, pow_mono, pow-add, shr-shr, eq-eqb, ne_eqb}
use lib.Pow.{pow-lt, high, low, split}
use Rattle.std.proofs.lemmas.Nat.{mod_below, mul-add-lt}
use Rattle.std.proofs.lemmas.Bool.Decides.{eqb_tells, leb_tells}
use Rattle.sources.specs.declared.source.Answer.{Answer}
use Rattle.sources.specs.declared.source.Answer.TheVariants.{All, Mixed, Outside}
use Rattle.sources.specs.declared.block.Block.{Block}
use Rattle.sources.specs.declared.overlap.Overlap.{Overlap}
use Rattle.sources.specs.declared.overlap.Overlap.TheVariants.{Apart, Within, Around}
use Rattle.sources.specs.Blocks.{at, Inside, Uniform, Differing, Says, whole as whole_block}
use Rattle.sources.specs.Layers.{top, mounted}
use Rattle.sources.specs.Steps.{overlap, with_fill}
use Rattle.sources.proofs.Numbers.{none_left, block_of, rest_of}
use Rattle.sources.proofs.Answering.{carry, carry_differing}

top_is : (n m a : ℕ) → m ≤ n → top n (n - m) a ≡ a / 2 ^ m
top_is n m a h = let z : n - (n - m) ≡ m = omega arith in ap (λ x. a / 2 ^ x) z

module _ {E : Type 0} (n m b : ℕ) (fill : E) (f : ℕ → E) where
  abbrev whole : ℕ → E
  whole = mounted n m b fill f

  on : (a : ℕ) → top n (n - m) a ≡ b → whole a ≡ f (a % 2 ^ m)
  on a e = simp (eq-eqb (top n (n - m) a) b e)

  off : (a : ℕ) → (top n (n - m) a ≡ b → ⊥) → whole a ≡ fill
  off a e = simp (ne_eqb (top n (n - m) a) b e)

  -- the source below, as one block
  root_at : (x : ℕ) → at m 0 0 x ≡ x
  root_at x = omega (arith, zero-mul (2 ^ (m - 0)))

  root_size : (x : ℕ) → x < 2 ^ (m - 0) → x < 2 ^ m
  root_size x k = let z : m - 0 ≡ m = omega arith in subst (λ (y : ℕ). x < 2 ^ y) z k

  root : (e : E) → Uniform m f 0 0 e → (x : ℕ) → x < 2 ^ m → f x ≡ e
  root e s x k = let z : m ≡ m - 0 = omega arith in ap f (sym (root_at x)) ∙ s.same x (subst (λ (y : ℕ). x < 2 ^ y) z k)

  module _ (j p : ℕ) (here : Inside n j p) where
    -- a block not larger than the source below
    module _ (d : ℕ) (deep : d + n ≡ j + m) where
      deep_top : (i : ℕ) → i < 2 ^ (n - j) → top n (n - m) (at n j p i) ≡ p / 2 ^ d
      deep_top i k =
          elim (leb_tells m n) [
            | inl t ↦
                let e : n - (n - m) ≡ (n - j) + d = omega (arith, t.1, here.level) in
                ap (λ x. at n j p i / 2 ^ x) e ∙ block_of (n - j) d p i k
            | inr t ↦
                let e : n - (n - m) ≡ (n - j) + j = omega (arith, t.1, here.level) in
                let l : 2 ^ j ≤ 2 ^ d = let z : j ≤ d = omega (arith, t.1, here.level) in pow_mono z in
                ap (λ x. at n j p i / 2 ^ x) e ∙ block_of (n - j) j p i k ∙ none_left p j here.block ∙ sym (none_left p d (omega (arith, here.block)))
          ]

      deep_rest : (i : ℕ) → i < 2 ^ (n - j) → at n j p i % 2 ^ m ≡ at m d (p % 2 ^ d) i
      deep_rest i k =
          let e : m ≡ d + (n - j) = omega (arith, here.level) in
          let z : n - j ≡ m - d = omega (arith, here.level) in
          ap (λ x. at n j p i % 2 ^ x) e ∙ rest_of (n - j) d p i k ∙ ap (λ x. p % 2 ^ d * 2 ^ x + i) z

      deep_off : (p / 2 ^ d ≡ b → ⊥) → Uniform n whole j p fill
      deep_off ne = record { inside = here; same = λ i k. off (at n j p i) (λ e. ne (sym (deep_top i k) ∙ e)) }

      module _ (base : p / 2 ^ d ≡ b) where
        size : 2 ^ (n - j) ≡ 2 ^ (m - d)
        size = let z : n - j ≡ m - d = omega (arith, here.level) in ap (λ x. 2 ^ x) z

        deep_at : (i : ℕ) → i < 2 ^ (n - j) → whole (at n j p i) ≡ f (at m d (p % 2 ^ d) i)
        deep_at i k = on (at n j p i) (deep_top i k ∙ base) ∙ ap f (deep_rest i k)

        there : Inside m d (p % 2 ^ d)
        there = record { level = omega (arith, here.level); block = mod_below p (2 ^ d) (pow_pos d) }

        deep_on : (r : Answer E) → Says m f d (p % 2 ^ d) r → Says n whole j p r
        deep_on =
            carry n whole j p here m f d (p % 2 ^ d) there
            (λ i k. (i, subst (λ (x : ℕ). i < x) size k, deep_at i k))
            (λ i k. let l = subst (λ (x : ℕ). i < x) (sym size) k in (i, l, sym (deep_at i l)))

    -- a block larger than the source below, of 2 ^ u places for it
    module _ (u : ℕ) (shallow : u + j + m ≡ n) where
      places : n - j ≡ m + u
      places = omega arith

      less : m ≤ n
      less = omega arith

      shallow_top : (i : ℕ) → i < 2 ^ (n - j) → top n (n - m) (at n j p i) / 2 ^ u ≡ p
      shallow_top i k =
          ap (λ x. x / 2 ^ u) (top_is n m (at n j p i) less) ∙ shr-shr (at n j p i) m u ∙ ap (λ x. at n j p i / 2 ^ x) (sym places) ∙ high p (n - j) k

      shallow_off : (b / 2 ^ u ≡ p → ⊥) → Uniform n whole j p fill
      shallow_off ne = record { inside = here; same = λ i k. off (at n j p i) (λ e. ne (ap (λ x. x / 2 ^ u) (sym e) ∙ shallow_top i k)) }

      -- address x of place r of the block
      slot_at : (r x : ℕ) → at n j p (r * 2 ^ m + x) ≡ (p * 2 ^ u + r) * 2 ^ m + x
      slot_at r x =
          let e : n - j ≡ u + m = omega arith in
          let w : p * 2 ^ (n - j) ≡ p * 2 ^ u * 2 ^ m = ap (λ y. p * 2 ^ y) e ∙ ap (λ y. p * y) (pow-add 2 u m) ∙ sym (mul_assoc p (2 ^ u) (2 ^ m)) in
          omega (arith, w, add-mul (p * 2 ^ u) r (2 ^ m))

      slot_in : (r x : ℕ) → r < 2 ^ u → x < 2 ^ m → r * 2 ^ m + x < 2 ^ (n - j)
      slot_in r x hr hx = subst (λ (y : ℕ). r * 2 ^ m + x < y) (sym (ap (λ y. 2 ^ y) places ∙ pow-add 2 m u)) (mul-add-lt r (2 ^ m) x (2 ^ u) hr hx)

      slot_top : (r x : ℕ) → x < 2 ^ m → top n (n - m) (at n j p (r * 2 ^ m + x)) ≡ p * 2 ^ u + r
      slot_top r x hx = top_is n m (at n j p (r * 2 ^ m + x)) less ∙ ap (λ y. y / 2 ^ m) (slot_at r x) ∙ high (p * 2 ^ u + r) m hx

      slot_on : (r x : ℕ) → p * 2 ^ u + r ≡ b → x < 2 ^ m → whole (at n j p (r * 2 ^ m + x)) ≡ f x
      slot_on r x e hx = on (at n j p (r * 2 ^ m + x)) (slot_top r x hx ∙ e) ∙ ap f (ap (λ y. y % 2 ^ m) (slot_at r x) ∙ low (p * 2 ^ u + r) m hx)

      slot_off : (r x : ℕ) → (p * 2 ^ u + r ≡ b → ⊥) → x < 2 ^ m → whole (at n j p (r * 2 ^ m + x)) ≡ fill
      slot_off r x ne hx = off (at n j p (r * 2 ^ m + x)) (λ q. ne (sym (slot_top r x hx) ∙ q))

      shallow_same : (e : E) → e ≡ fill → Uniform m f 0 0 e → Uniform n whole j p e
      shallow_same e q s = record {
        inside = here;
        same = λ i k. let a = at n j p i in elim (eqb_tells (top n (n - m) a) b) [ inl t ↦ on a t.1 ∙ root e s (a % 2 ^ m) (mod_below a (2 ^ m) (pow_pos m)) | inr t ↦ off a t.1 ∙ sym q ];
      }

      -- all of the source below stands in the block, at place b % 2 ^ u
      module _ (base : b / 2 ^ u ≡ p) where
        place : p * 2 ^ u + b % 2 ^ u ≡ b
        place = ap (λ y. y * 2 ^ u + b % 2 ^ u) (sym base) ∙ split b u

        place_in : b % 2 ^ u < 2 ^ u
        place_in = mod_below b (2 ^ u) (pow_pos u)

        shallow_mixed : Differing m f 0 0 → Differing n whole j p
        shallow_mixed =
            carry_differing n whole j p here m f 0 0 (λ x k. let l = root_size x k in (b % 2 ^ u * 2 ^ m + x, slot_in (b % 2 ^ u) x place_in l, ap f (root_at x) ∙ sym (slot_on (b % 2 ^ u) x place l)))

        -- some other place r has the fill end
        apart : (e : E) → (e ≡ fill → ⊥) → Uniform m f 0 0 e → (r : ℕ) → r < 2 ^ u → (r ≡ b % 2 ^ u → ⊥) → Differing n whole j p
        apart e ne s r hr other = record {
          inside = here;
          left = b % 2 ^ u * 2 ^ m + 0;
          right = r * 2 ^ m + 0;
          left_in = slot_in (b % 2 ^ u) 0 place_in (pow_pos m);
          right_in = slot_in r 0 hr (pow_pos m);
          differ = λ q. ne (sym (slot_on (b % 2 ^ u) 0 place (pow_pos m) ∙ root e s 0 (pow_pos m)) ∙ q ∙ slot_off r 0 (λ z. other (omega (arith, place))) (pow_pos m));
        }

        shallow_apart : (e : E) → (e ≡ fill → ⊥) → 0 < u → Uniform m f 0 0 e → Differing n whole j p
        shallow_apart e ne more s =
            elim (eqb_tells (b % 2 ^ u) 0) [ inl t ↦ apart e ne s 1 (pow-lt more) (λ z. omega (arith, t.1)) | inr t ↦ apart e ne s 0 (pow_pos u) (λ z. t.1 (sym z)) ]

-- the answer of a block, by the answers of the source below
module _ {E : Type 0} (code : E → ℕ) (same_end : (x y : E) → code x ≡ code y → x ≡ y) (n m b : ℕ) (fill : E) (f : ℕ → E) (j p : ℕ) (here : Inside n j p) where
  abbrev Follows : Overlap → Type 0
  Follows Apart = Uniform n (mounted n m b fill f) j p fill
  Follows (Within w) = (a : Answer E) → Says m f w.level w.number a → Says n (mounted n m b fill f) j p a
  Follows Around = (w : Block) (a r : Answer E) → w ≡ whole_block → r ≡ with_fill code a fill → Says m f w.level w.number a → Says n (mounted n m b fill f) j p r

  around : (u : ℕ) → u + j + m ≡ n → 0 < u → b / 2 ^ u ≡ p → (a : Answer E) → Says m f 0 0 a → Says n (mounted n m b fill f) j p (with_fill code a fill)
  around u e more base (All x) s =
      elim (eqb_tells (code x) (code fill)) [
        | inl t ↦ rw t.0 (shallow_same n m b fill f j p here u e x (same_end x fill t.1) s)
        | inr t ↦ rw t.0 (shallow_apart n m b fill f j p here u e base x (λ q. t.1 (ap code q)) more s)
      ]
  around u e more base Mixed s = shallow_mixed n m b fill f j p here u e base s
  around u e more base Outside s = λ _. s (record { level = omega arith; block = pow_pos 0 })

  follows : Follows (overlap n m b j p)
  follows =
      elim (leb_tells (suc (j + m)) n) [
        | inl t ↦
            let u = n - m - j in
            elim (eqb_tells (b / 2 ^ u) p) [
              | inl q ↦ rw (t.0, q.0) (λ w a r y z s. subst (Says n (mounted n m b fill f) j p) (sym z) (around u (omega (arith, t.1)) (omega (arith, t.1)) q.1 a (subst (λ (x : Block). Says m f x.level x.number a) y s)))
              | inr q ↦ rw (t.0, q.0) (shallow_off n m b fill f j p here u (omega (arith, t.1)) q.1)
            ]
        | inr t ↦
            let d = j + m - n in
            elim (eqb_tells (p / 2 ^ d) b) [
              | inl q ↦ rw (t.0, q.0) (deep_on n m b fill f j p here d (omega (arith, t.1)) q.1)
              | inr q ↦ rw (t.0, q.0) (deep_off n m b fill f j p here d (omega (arith, t.1)) q.1)
            ]
      ]

  -- the same, as code has the overlap, by the pins that the source below tells
  pub mount_follows : (own : ℕ) (o : Overlap) → own ≡ m → o ≡ overlap n own b j p → Follows o
  mount_follows own o e q = let z : o ≡ overlap n m b j p = q ∙ ap (λ x. overlap n x b j p) e in subst Follows (sym z) follows

-- addresses of block p of the blocks that are as large as the source below
block_at : (n m p i : ℕ) → m ≤ n → at n (n - m) p i ≡ p * 2 ^ m + i
block_at n m p i h = let z : n - (n - m) ≡ m = omega arith in ap (λ x. p * 2 ^ x + i) z

block_top : (n m p i : ℕ) → m ≤ n → i < 2 ^ m → top n (n - m) (at n (n - m) p i) ≡ p
block_top n m p i h k = top_is n m (at n (n - m) p i) h ∙ ap (λ x. x / 2 ^ m) (block_at n m p i h) ∙ high p m k

pub at_base : {E : Type 0} (n m b : ℕ) (fill : E) (f : ℕ → E) (i : ℕ) → m ≤ n → i < 2 ^ m → mounted n m b fill f (at n (n - m) b i) ≡ f i
at_base n m b fill f i h k =
    on n m b fill f (at n (n - m) b i) (block_top n m b i h k) ∙ ap f (ap (λ x. x % 2 ^ m) (block_at n m b i h) ∙ low b m k)

pub at_others : {E : Type 0} (n m b : ℕ) (fill : E) (f : ℕ → E) (p i : ℕ) → m ≤ n → i < 2 ^ m → (p ≡ b → ⊥) → mounted n m b fill f (at n (n - m) p i) ≡ fill
at_others n m b fill f p i h k ne = off n m b fill f (at n (n - m) p i) (λ e. ne (sym (block_top n m p i h k) ∙ e))
