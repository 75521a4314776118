-- The records of the tree mean its blocks.
use Rattle.std.proofs.Common.{◌≡◌, ℕ, ◌+◌, ◌*◌, ◌^◌, ◌<◌, true, List, [], ◌∷◌, map, length, get_or, sym, refl, ap, ◌∙◌, subst, inl, inr, arith}
use Rattle.std.proofs.ByRecursion.{All-get_or}
use Rattle.std.proofs.lemmas.List.{length-map, get_or-map}
use Rattle.std.proofs.lemmas.Bool.{cases_Bool}
use Rattle.sources.specs.Blocks.{Inside, Differing}
use Rattle.trees.specs.declared.tree.Record.{Record}
use Rattle.model.specs.Lists.{In}
use Rattle.trees.specs.Mixed.{mixed, Block, mixed_block, mixed_blocks}
use Rattle.trees.specs.Records.{blank, place, half, divided, records}
use Rattle.trees.specs.Growth.{record_at}
use Rattle.trees.specs.Theorems.{Recorded, Means, Divides, block_of}
use Rattle.trees.proofs.Differ.{mixed_so, mixed_level, uniform_of, differing_of, low_inside, high_inside}
use Rattle.trees.proofs.Order.{There, ordered, listed_there, listed_mixed, mixed_listed, all_in, at_place}
use Rattle.trees.proofs.Walk.{half_mixed, half_whole}

module _ (n : ℕ) (c : ℕ → ℕ) where
  pub sound : (j p : ℕ) → In (j, p) (mixed_blocks n c) → Differing n c j p
  sound j p h =
      let w = all_in (There n) (j, p) (mixed_blocks n c) (listed_there n c) h in
      differing_of n c j p (record { level = omega (arith, w.0); block = w.1 }) (all_in (λ b. mixed_block n c b ≡ true) (j, p) (mixed_blocks n c) (listed_mixed n c) h)

  pub complete : (j p : ℕ) → Differing n c j p → In (j, p) (mixed_blocks n c)
  complete j p d = let m = mixed_so n c j p d in mixed_listed n c j p (mixed_level n c j p m) d.inside.block m

  record_is : (i : ℕ) → i < length (mixed_blocks n c) → record_at (records n c) i ≡ divided n c (get_or (mixed_blocks n c) i (0, 0))
  unfolding records
  record_is i h = get_or-map (divided n c) (mixed_blocks n c) i (0, 0) blank h

  records_length : length (records n c) ≡ length (mixed_blocks n c)
  unfolding records
  records_length = length-map (mixed_blocks n c) (divided n c)

  recorded : (j p : ℕ) → Inside n j p → mixed n c j p ≡ true → Recorded (records n c) j p (place (j, p) (mixed_blocks n c))
  unfolding divided
  recorded j p w m =
      let a = at_place (j, p) (mixed_blocks n c) (0, 0) (ordered n c) (mixed_listed n c j p (mixed_level n c j p m) w.block m) in
      let r = record_is (place (j, p) (mixed_blocks n c)) a.0 in
      record {
        index = omega (arith, a.0, records_length);
        level = ap (λ (x : Record). x.block.level) r ∙ ap (λ (b : Block). b.0) a.1;
        block = ap (λ (x : Record). x.block.number) r ∙ ap (λ (b : Block). b.1) a.1;
      }

  pub half_means : (j p : ℕ) → Inside n j p → Means n c (records n c) j p (half n c j p)
  half_means j p w =
      elim (cases_Bool (mixed n c j p)) [
        | inl m ↦ subst (Means n c (records n c) j p) (sym (half_mixed n c j p m)) (recorded j p w m)
        | inr m ↦ subst (Means n c (records n c) j p) (sym (half_whole n c j p m)) (uniform_of n c j p w m)
      ]

  divided_divides : (b : Block) → b.0 < n → b.1 < 2 ^ b.0 → mixed_block n c b ≡ true → Divides n c (records n c) (divided n c b)
  unfolding divided
  divided_divides b l h m = record {
    two = differing_of n c b.0 b.1 (record { level = omega arith; block = h }) m;
    low = half_means (b.0 + 1) (2 * b.1) (low_inside n b.0 b.1 l h);
    high = half_means (b.0 + 1) (2 * b.1 + 1) (high_inside n b.0 b.1 l h);
  }

  pub each_divides : (i : ℕ) → i < length (records n c) → Divides n c (records n c) (record_at (records n c) i)
  each_divides i h =
      let l : i < length (mixed_blocks n c) = omega (arith, records_length) in
      let w = All-get_or (There n) (mixed_blocks n c) i (0, 0) l (listed_there n c) in
      subst (Divides n c (records n c)) (sym (record_is i l)) (divided_divides (get_or (mixed_blocks n c) i (0, 0)) w.0 w.1 (All-get_or (λ b. mixed_block n c b ≡ true) (mixed_blocks n c) i (0, 0) l (listed_mixed n c)))

  blocks_back : (bs : List Block) → map block_of (map (divided n c) bs) ≡ bs
  unfolding divided
  blocks_back [] = refl
  blocks_back (b ∷ bs) = ap (λ (x : List Block). b ∷ x) (blocks_back bs)

  pub keys_are : map block_of (records n c) ≡ mixed_blocks n c
  unfolding records
  keys_are = blocks_back (mixed_blocks n c)
