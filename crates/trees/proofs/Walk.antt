-- A walk down the tree comes to the half that stands for the block.
use Rattle.std.proofs.Common.{◌≡◌, ℕ, ◌+◌, ◌-◌, ◌*◌, ◌%◌, ◌^◌, ◌<◌, ◌≤◌, Bool, true, false, cond, eqb, List, length, get_or, take, Some, None, Option, sym, refl, ap, ◌∙◌, subst, inl, inr, mul_assoc, mul_comm, add-mul, zero-mul, arith}
use Rattle.std.proofs.lemmas.Nat.{pow_pos, pow-add, mod_below, one_shl}
use Rattle.std.proofs.lemmas.List.{length-take, length-map, get_or-take, get_or-map}
use Rattle.std.proofs.lemmas.Bool.{cases_Bool, cond-true, cond-false}
use Rattle.std.proofs.lemmas.Bool.Decides.{eqb_tells}
use Rattle.trees.specs.declared.tree.Half.{Half}
use Rattle.trees.specs.declared.tree.Half.TheVariants.{Code, Split}
use Rattle.trees.specs.declared.tree.Record.{Record}
use Rattle.trees.specs.declared.tree.Tree.{Tree}
use Rattle.trees.specs.Mixed.{differs, mixed, mixed_blocks}
use Rattle.model.specs.Selections.{pin}
use Rattle.trees.specs.Left.{TwoLeft, Left}
use Rattle.trees.specs.Records.{blank, place, half, divided, records, Built}
use Rattle.trees.specs.Growth.{record_at}
use Rattle.trees.specs.Walk.{Stands, agreed, bit, fixed, side}
use Rattle.trees.proofs.Differ.{differs_tells, same_tells, mixed_level}
use Rattle.trees.proofs.Order.{ordered, at_place, mixed_listed}
use Rattle.trees.proofs.Agree.{pin_top, free_agrees, put, put_below, put_whole, half_codes, fixed_up, free_two, free_one, free_differ}

module _ (n : ℕ) (c : ℕ → ℕ) (j p : ℕ) where
  pub half_mixed : mixed n c j p ≡ true → half n c j p ≡ Split (place (j, p) (mixed_blocks n c))
  unfolding half
  half_mixed m = cond-true (mixed n c j p) (Split (place (j, p) (mixed_blocks n c))) (Code (c (p * 2 ^ (n - j)))) m

  pub half_whole : mixed n c j p ≡ false → half n c j p ≡ Code (c (p * 2 ^ (n - j)))
  unfolding half
  half_whole m = cond-false (mixed n c j p) (Split (place (j, p) (mixed_blocks n c))) (Code (c (p * 2 ^ (n - j)))) m

  code_tells : (e : ℕ) → Code e ≡ half n c j p → (mixed n c j p ≡ false) × (e ≡ c (p * 2 ^ (n - j)))
  code_tells e h =
      elim (cases_Bool (mixed n c j p)) [
        | inl m ↦ let q = half_mixed m in let z : ◌≡◌ {A = ℕ} 0 1 = cc in absurd (omega arith)
        | inr m ↦ let q = half_whole m in (m, cc)
      ]

  split_tells : (i : ℕ) → Split i ≡ half n c j p → (mixed n c j p ≡ true) × (i ≡ place (j, p) (mixed_blocks n c))
  split_tells i h =
      elim (cases_Bool (mixed n c j p)) [
        | inl m ↦ let q = half_mixed m in (m, cc)
        | inr m ↦ let q = half_whole m in let z : ◌≡◌ {A = ℕ} 0 1 = cc in absurd (omega arith)
      ]

-- the high half is block 2 p + 1, the low half block 2 p
pub sub_block : ℕ → Bool → ℕ
sub_block p b = cond b (2 * p + 1) (2 * p)

sub_below : (j p : ℕ) (b : Bool) → p < 2 ^ j → sub_block p b < 2 ^ (j + 1)
unfolding sub_block
sub_below j p true h = omega (arith, pow-add 2 j 1)
sub_below j p false h = omega (arith, pow-add 2 j 1)

-- address a of the half is address put m b a of the block
sub_at : (p m a : ℕ) (b : Bool) → p * 2 ^ (m + 1) + put m b a ≡ sub_block p b * 2 ^ m + a
unfolding sub_block
sub_at p m a b = go b
  where
    two : 2 * p * 2 ^ m ≡ p * 2 ^ (m + 1)
    two = ap (λ x. x * 2 ^ m) (mul_comm 2 p) ∙ mul_assoc p 2 (2 ^ m) ∙ ap (λ x. p * x) (let z : 2 * 2 ^ m ≡ 2 ^ (m + 1) = omega (arith, pow-add 2 m 1) in z)

    go : (d : Bool) → p * 2 ^ (m + 1) + put m d a ≡ cond d (2 * p + 1) (2 * p) * 2 ^ m + a
    go true = let f = add-mul (2 * p) 1 (2 ^ m) in let e = two in omega (arith, e, f)
    go false = let e = two in omega (arith, e)

module _ (n : ℕ) (c : ℕ → ℕ) (t : List Record) (j p k : ℕ) (h : Half) (f : ℕ → ℕ) (s : Stands n c t j p k h f) where
  size : n - j ≡ k
  size = omega (arith, s.level)

  -- a code is that of each address
  pub code_all : (e : ℕ) → h ≡ Code e → (i : ℕ) → i < 2 ^ k → f i ≡ e
  unfolding mixed
  code_all e q i l =
      let w = code_tells n c j p e (sym q ∙ s.half_is) in
      let P : ℕ → Type 0 = λ x. differs c (p * 2 ^ x) (2 ^ x) ≡ false in
      s.codes_are i l ∙ same_tells c (p * 2 ^ k) (2 ^ k) (subst P size w.0) i l ∙ ap (λ x. c (p * 2 ^ x)) (sym size) ∙ sym w.1

  module _ (i : ℕ) (q : h ≡ Split i) where
    two_codes : mixed n c j p ≡ true
    two_codes = (split_tells n c j p i (sym q ∙ s.half_is)).0

    pub some_left : 0 < k
    some_left = omega (arith, s.level, mixed_level n c j p two_codes)

    placed : (i < length (mixed_blocks n c)) × (get_or (mixed_blocks n c) i (0, 0) ≡ (j, p))
    placed =
        let l : j < n = mixed_level n c j p two_codes in
        let a = at_place (j, p) (mixed_blocks n c) (0, 0) (ordered n c) (mixed_listed n c j p l s.block two_codes) in
        let e : i ≡ place (j, p) (mixed_blocks n c) = (split_tells n c j p i (sym q ∙ s.half_is)).1 in
        (omega (arith, e, a.0), ap (λ x. get_or (mixed_blocks n c) x (0, 0)) e ∙ a.1)

    pub index_in : i < length t
    unfolding records
    index_in = omega (arith, placed.0, length-take (length (mixed_blocks n c)) t, ap length s.listed, length-map (mixed_blocks n c) (divided n c))

    record_is : record_at t i ≡ divided n c (j, p)
    unfolding records
    record_is =
        sym (get_or-take (length (mixed_blocks n c)) t i blank placed.0) ∙ ap (λ (x : List Record). get_or x i blank) s.listed ∙ get_or-map (divided n c) (mixed_blocks n c) i (0, 0) blank placed.0 ∙ ap (divided n c) placed.1

    -- a record's halves stand for the block's halves
    pub down : (m : ℕ) → k ≡ m + 1 → (b : Bool) → Stands n c t (j + 1) (sub_block p b) m (side (record_at t i) b) (half_codes f m b)
    unfolding divided sub_block
    down m e b = record {
      listed = s.listed;
      level = omega (arith, s.level);
      block = sub_below j p b s.block;
      half_is = ap (λ (r : Record). side r b) record_is ∙ (elim b as (λ (d : Bool). side (divided n c (j, p)) d ≡ half n c (j + 1) (sub_block p d)) [ true ↦ refl | false ↦ refl ]);
      codes_are = λ a l. s.codes_are (put m b a) (subst (λ (x : ℕ). put m b a < 2 ^ x) (sym e) (put_below m a b l)) ∙ ap (λ x. c (p * 2 ^ x + put m b a)) e ∙ ap c (sub_at p m a b);
    }

    -- two codes are left where no pin is fixed
    pub mixed_left : (mask value : ℕ) → mask % 2 ^ k ≡ 0 → TwoLeft k f mask value
    unfolding mixed
    mixed_left mask value z =
        let P : ℕ → Type 0 = λ x. differs c (p * 2 ^ x) (2 ^ x) ≡ true in
        let r = differs_tells c (p * 2 ^ k) (2 ^ k) (subst P size two_codes) in
        let o : p * 2 ^ k + 0 ≡ p * 2 ^ k = omega arith in
        record {
          one = r.0;
          other = 0;
          one_in = r.1;
          other_in = pow_pos k;
          one_agrees = free_agrees k mask value r.0 z;
          other_agrees = free_agrees k mask value 0 z;
          differ = λ e. r.2 (sym (s.codes_are r.0 r.1) ∙ e ∙ s.codes_are 0 (pow_pos k) ∙ ap c o);
        }

-- a pin is fixed or free
some_fixed : (mask value place : ℕ) (v : Bool) → Some v ≡ fixed mask value place → (bit mask place ≡ true) × (v ≡ bit value place)
some_fixed mask value place v e =
    elim (cases_Bool (bit mask place)) [
      | inl t ↦ let q = cond-true (bit mask place) (Some (bit value place)) None t in (t, cc)
      | inr t ↦ let q = cond-false (bit mask place) (Some (bit value place)) None t in let z : ◌≡◌ {A = ℕ} 0 1 = cc in absurd (omega arith)
    ]

none_fixed : (mask value place : ℕ) → None ≡ fixed mask value place → bit mask place ≡ false
none_fixed mask value place e =
    elim (cases_Bool (bit mask place)) [
      | inl t ↦ let q = cond-true (bit mask place) (Some (bit value place)) None t in let z : ◌≡◌ {A = ℕ} 0 1 = cc in absurd (omega arith)
      | inr t ↦ t
    ]

-- what a read promises of the block that h stands for
abbrev pub CodeBelow : (t : List Record) (h : Half) (k address r : ℕ) → Type 0
CodeBelow t h k address r = (n : ℕ) (c : ℕ → ℕ) (j p : ℕ) (f : ℕ → ℕ) → Stands n c t j p k h f → r ≡ f (address % 2 ^ k)

abbrev pub LeftBelow : (t : List Record) (h : Half) (k mask value : ℕ) → Option ℕ → Type 0
LeftBelow t h k mask value r = (n : ℕ) (c : ℕ → ℕ) (j p : ℕ) (f : ℕ → ℕ) → Stands n c t j p k h f → Left k f mask value r

module _ (t : List Record) (h : Half) (k address : ℕ) where
  pub code_at_leaf : (e : ℕ) → h ≡ Code e → CodeBelow t h k address e
  code_at_leaf e q n c j p f s = sym (code_all n c t j p k h f s e q (address % 2 ^ k) (mod_below address (2 ^ k) (pow_pos k)))

  module _ (i r : ℕ) (q : h ≡ Split i) where
    pub code_at_none : k ≡ 0 → CodeBelow t h k address r
    code_at_none z n c j p f s = absurd (omega (arith, some_left n c t j p k h f s i q))

    pub code_at_past : length t ≤ i → CodeBelow t h k address r
    code_at_past z n c j p f s = absurd (omega (arith, index_in n c t j p k h f s i q))

    pub code_at_half : (s : Record) (d : ℕ) (b : Bool) (g : Half) → s ≡ record_at t i → (1 ≤ k) × (d ≡ k - 1) → b ≡ bit address d → g ≡ side s b → CodeBelow t g d address r → CodeBelow t h k address r
    code_at_half s d b g se de be ge below n c j p f st =
        let e : d + 1 ≡ k = omega (arith, de) in
        below n c (j + 1) (sub_block p b) (half_codes f d b) (subst (λ (x : Half). Stands n c t (j + 1) (sub_block p b) d x (half_codes f d b)) (sym (ge ∙ ap (λ (x : Record). side x b) se)) (down n c t j p k h f st i q d (sym e) b)) ∙ ap (λ (x : Bool). f (put d x (address % 2 ^ d))) be ∙ ap f (sym (put_whole d address)) ∙ ap (λ x. f (address % 2 ^ x)) e

module _ (t : List Record) (h : Half) (k mask value : ℕ) where
  pub left_at_leaf : (e : ℕ) → h ≡ Code e → LeftBelow t h k mask value (Some e)
  left_at_leaf e q n c j p f s = λ a l g. code_all n c t j p k h f s e q a l

  module _ (i : ℕ) (q : h ≡ Split i) where
    pub left_at_none : (r : Option ℕ) → k ≡ 0 → LeftBelow t h k mask value r
    left_at_none r z n c j p f s = absurd (omega (arith, some_left n c t j p k h f s i q))

    pub left_at_past : (r : Option ℕ) → length t ≤ i → LeftBelow t h k mask value r
    left_at_past r z n c j p f s = absurd (omega (arith, index_in n c t j p k h f s i q))

    pub left_at_mixed : k < 32 → mask % ((1 * 2 ^ k) % 2 ^ 32) ≡ 0 → LeftBelow t h k mask value None
    left_at_mixed l z n c j p f s = mixed_left n c t j p k h f s i q mask value (ap (λ x. mask % x) (sym (one_shl k 32 l)) ∙ z)

    module _ (s : Record) (d : ℕ) (se : s ≡ record_at t i) (de : (1 ≤ k) × (d ≡ k - 1)) where
      open_pins : d + 1 ≡ k
      open_pins = omega (arith, de)

      sub : (b : Bool) (r : Option ℕ) → LeftBelow t (side s b) d mask value r → (n : ℕ) (c : ℕ → ℕ) (j p : ℕ) (f : ℕ → ℕ) → Stands n c t j p k h f → Left d (half_codes f d b) mask value r
      sub b r below n c j p f st = subst (λ (x : Record). LeftBelow t (side x b) d mask value r) se below n c (j + 1) (sub_block p b) (half_codes f d b) (down n c t j p k h f st i q d (sym open_pins) b)

      whole : (r : Option ℕ) (f : ℕ → ℕ) → Left (d + 1) f mask value r → Left k f mask value r
      whole r f l = let P : ℕ → Type 0 = λ x. Left x f mask value r in subst P open_pins l

      pub left_at_fixed : (v : Bool) (g : Half) (r : Option ℕ) → Some v ≡ fixed mask value d → g ≡ side s v → LeftBelow t g d mask value r → LeftBelow t h k mask value r
      left_at_fixed v g r is ge below n c j p f st =
          whole r f (fixed_up f d mask value v (pin_top d mask ∙ (some_fixed mask value d v is).0) ((some_fixed mask value d v is).1 ∙ sym (pin_top d value)) r (sub v r (subst (λ (x : Half). LeftBelow t x d mask value r) ge below) n c j p f st))

      module _ (is : None ≡ fixed mask value d) where
        free : pin (d + 1) mask 0 ≡ false
        free = pin_top d mask ∙ none_fixed mask value d is

        pub left_at_low_two : LeftBelow t s.low d mask value None → LeftBelow t h k mask value None
        left_at_low_two lo n c j p f st = whole None f (free_two f d mask value free false (sub false None lo n c j p f st))

        pub left_at_high_two : LeftBelow t s.high d mask value None → LeftBelow t h k mask value None
        left_at_high_two hi n c j p f st = whole None f (free_two f d mask value free true (sub true None hi n c j p f st))

        pub left_at_both : (e e' : ℕ) (r : Option ℕ) → r ≡ agreed e e' → LeftBelow t s.low d mask value (Some e) → LeftBelow t s.high d mask value (Some e') → LeftBelow t h k mask value r
        left_at_both e e' r one lo hi n c j p f st =
            let a = sub false (Some e) lo n c j p f st in
            let b = sub true (Some e') hi n c j p f st in
            whole r f (subst (Left (d + 1) f mask value) (sym one) (elim (eqb_tells e e') [
              | inl w ↦ subst (Left (d + 1) f mask value) (sym (cond-true (eqb e e') (Some e) None w.0)) (free_one f d mask value free e e' a b w.1)
              | inr w ↦ subst (Left (d + 1) f mask value) (sym (cond-false (eqb e e') (Some e) None w.0)) (free_differ f d mask value free e e' a b w.1)
            ]))

-- the root stands for block 0 of level 0
pub root_stands : (n : ℕ) (c : ℕ → ℕ) (t : List Record) (tree : Tree) → Built n c t tree → Stands n c t 0 0 n tree.root c
root_stands n c t tree b = record {
  listed = ap (λ x. take x t) (sym b.len) ∙ b.listed;
  level = omega arith;
  block = omega arith;
  half_is = b.root;
  codes_are = λ i l. ap c (let z : i ≡ 0 * 2 ^ n + i = omega (arith, zero-mul (2 ^ n)) in z);
}
