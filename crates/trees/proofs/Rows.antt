-- The mixed blocks row by row: a row's mixed halves are the next row.
use Rattle.std.proofs.Common.{◌≡◌, ℕ, zero, suc, ◌+◌, ◌-◌, ◌*◌, ◌^◌, ◌<◌, ◌≤◌, Bool, true, false, cond, List, [], ◌∷◌, ◌++◌, map, length, get_or, take, drop, filter, sym, refl, ap, ◌∙◌, subst, inl, inr, arith, length-append, take-append-drop, pow-add}
use Rattle.std.specs.List.{range_with_len, flat_map}
use Rattle.std.proofs.lemmas.List.FromFn.{map-range_with_len_more, filter_of_map_range_with_len_more}
use Rattle.std.proofs.lemmas.List.Elements.{filter-append}
use Rattle.std.proofs.lemmas.List.{append-nil, append_assoc, take_more, take_at, flat_map_more, map-id}
use Rattle.std.proofs.lemmas.Bool.{cases_Bool, both_ways}
use Rattle.trees.specs.Mixed.{mixed, Block, mixed_block, level, blocks, mixed_blocks}
use Rattle.trees.specs.Growth.{alone, halves, flat, opened}
use Rattle.trees.proofs.Differ.{single, mixed_level, low_mixed, high_mixed}

module _ (n : ℕ) (c : ℕ → ℕ) where
  pub alone_so : (j p : ℕ) → mixed n c j p ≡ true → alone n c j p ≡ (j, p) ∷ []
  unfolding alone
  alone_so j p e = ap (λ (b : Bool). cond b ((j, p) ∷ []) []) e

  pub alone_not : (j p : ℕ) → mixed n c j p ≡ false → alone n c j p ≡ []
  unfolding alone
  alone_not j p e = ap (λ (b : Bool). cond b ((j, p) ∷ []) []) e

  flat_append : (xs ys : List Block) → flat n c (xs ++ ys) ≡ flat n c xs ++ flat n c ys
  unfolding flat
  flat_append [] ys = refl
  flat_append (x ∷ xs) ys = ap (λ (r : List Block). halves n c x ++ r) (flat_append xs ys) ∙ sym (append_assoc (halves n c x) (flat n c xs) (flat n c ys))

  -- the mixed ones of the first k blocks of level j
  unfoldable pub upto : (j k : ℕ) → List Block
  upto j k = filter (mixed_block n c) (map (λ p. (j, p)) (range_with_len 0 k))

  pub upto_none : (j : ℕ) → upto j 0 ≡ []
  unfolding upto
  upto_none j = refl

  pub upto_more : (j k : ℕ) → upto j (k + 1) ≡ upto j k ++ alone n c j k
  unfolding upto alone
  upto_more j k = filter_of_map_range_with_len_more (mixed_block n c) (λ p. (j, p)) 0 k k (omega arith)

  flat_alone : (j p : ℕ) → flat n c (alone n c j p) ≡ halves n c (j, p)
  unfolding flat halves
  flat_alone j p =
      elim (cases_Bool (mixed n c j p)) [
        | inl t ↦ ap (flat n c) (alone_so j p t) ∙ append-nil (halves n c (j, p))
        | inr t ↦ ap (flat n c) (alone_not j p t) ∙ sym (ap (λ (r : List Block). r ++ alone n c (j + 1) (2 * p + 1)) (alone_not (j + 1) (2 * p) (low t)) ∙ alone_not (j + 1) (2 * p + 1) (high t))
      ]
    where
      none : (q : ℕ) → (j < n → mixed n c (j + 1) q ≡ true → mixed n c j p ≡ true) → mixed n c j p ≡ false → mixed n c (j + 1) q ≡ false
      none q up e =
          elim (cases_Bool (mixed n c (j + 1) q)) [
            | inl t ↦ absurd (both_ways (mixed n c j p) e (up (omega (arith, mixed_level n c (j + 1) q t)) t))
            | inr t ↦ t
          ]

      low : mixed n c j p ≡ false → mixed n c (j + 1) (2 * p) ≡ false
      low = none (2 * p) (λ h. low_mixed n c j p h)

      high : mixed n c j p ≡ false → mixed n c (j + 1) (2 * p + 1) ≡ false
      high = none (2 * p + 1) (λ h. high_mixed n c j p h)

  flat_upto : (j k : ℕ) → flat n c (upto j k) ≡ upto (j + 1) (2 * k)
  unfolding flat upto halves
  flat_upto j zero = refl
  flat_upto j (suc k) =
      let e : suc k ≡ k + 1 = omega arith in
      let f : 2 * (k + 1) ≡ 2 * k + 1 + 1 = omega arith in
      ap (λ x. flat n c (upto j x)) e ∙ ap (flat n c) (upto_more j k) ∙ flat_append (upto j k) (alone n c j k) ∙ ap (λ (r : List Block). r ++ flat n c (alone n c j k)) (flat_upto j k) ∙ two (2 * k) k refl ∙ ap (upto (j + 1)) (sym f) ∙ ap (λ x. upto (j + 1) (2 * x)) (sym e)
    where
      two : (m p : ℕ) → m ≡ 2 * p → upto (j + 1) m ++ flat n c (alone n c j p) ≡ upto (j + 1) (m + 1 + 1)
      two m p e =
          ap (λ (r : List Block). upto (j + 1) m ++ r) (flat_alone j p ∙ ap (λ x. alone n c (j + 1) x ++ alone n c (j + 1) (x + 1)) (sym e)) ∙ sym (append_assoc (upto (j + 1) m) (alone n c (j + 1) m) (alone n c (j + 1) (m + 1))) ∙ ap (λ (r : List Block). r ++ alone n c (j + 1) (m + 1)) (sym (upto_more (j + 1) m)) ∙ sym (upto_more (j + 1) (m + 1))

  -- the mixed blocks of level j, and of the levels below j
  unfoldable pub row : ℕ → List Block
  row j = filter (mixed_block n c) (level j)

  unfoldable pub rows : ℕ → List Block
  rows j = filter (mixed_block n c) (blocks j)

  pub row_upto : (j : ℕ) → row j ≡ upto j (2 ^ j)
  unfolding row level upto
  row_upto j = refl

  flat_row : (j : ℕ) → flat n c (row j) ≡ row (j + 1)
  flat_row j =
      let e : 2 * 2 ^ j ≡ 2 ^ (j + 1) = omega (arith, pow-add 2 j 1) in
      ap (flat n c) (row_upto j) ∙ flat_upto j (2 ^ j) ∙ ap (upto (j + 1)) e ∙ sym (row_upto (j + 1))

  blocks_more : (j : ℕ) → blocks (j + 1) ≡ blocks j ++ level j
  unfolding blocks
  blocks_more j = ap (flat_map level) (counted j) ∙ sym (flat_map_more level [] (range_with_len 0 j) j)
    where
      counted : (k : ℕ) → range_with_len 0 (k + 1) ≡ range_with_len 0 k ++ k ∷ []
      counted k = sym (map-id (range_with_len 0 (k + 1))) ∙ map-range_with_len_more (λ x. x) 0 k k (omega arith) ∙ ap (λ (r : List ℕ). r ++ k ∷ []) (map-id (range_with_len 0 k))

  pub rows_more : (j : ℕ) → rows (j + 1) ≡ rows j ++ row j
  unfolding rows row
  rows_more j = ap (filter (mixed_block n c)) (blocks_more j) ∙ filter-append (mixed_block n c) (blocks j) (level j)

  row_past : (j : ℕ) → n ≤ j → row j ≡ []
  unfolding upto
  row_past j h = row_upto j ∙ go (2 ^ j)
    where
      go : (k : ℕ) → upto j k ≡ []
      go zero = refl
      go (suc k) =
          let e : suc k ≡ k + 1 = omega arith in
          ap (upto j) e ∙ upto_more j k ∙ ap (λ (r : List Block). r ++ alone n c j k) (go k) ∙ alone_not j k (single n c j k h)

  rows_first : alone n c 0 0 ++ flat n c (rows 0) ≡ rows (0 + 1)
  unfolding alone flat rows blocks level
  rows_first = append-nil (alone n c 0 0) ∙ sym (ap (filter (mixed_block n c)) (append-nil (level 0)))

  rows_step : (j : ℕ) → alone n c 0 0 ++ flat n c (rows j) ≡ rows (j + 1)
  rows_step zero = rows_first
  rows_step (suc j) =
      let e : suc j ≡ j + 1 = omega arith in
      subst (λ (x : ℕ). alone n c 0 0 ++ flat n c (rows x) ≡ rows (x + 1)) (sym e)
      (ap (λ (r : List Block). alone n c 0 0 ++ flat n c r) (rows_more j) ∙ ap (λ (r : List Block). alone n c 0 0 ++ r) (flat_append (rows j) (row j)) ∙ sym (append_assoc (alone n c 0 0) (flat n c (rows j)) (flat n c (row j))) ∙ ap (λ (r : List Block). r ++ flat n c (row j)) (rows_step j) ∙ ap (λ (r : List Block). rows (j + 1) ++ r) (flat_row j) ∙ sym (rows_more (j + 1)))

  abbrev pub T : List Block
  T = mixed_blocks n c

  pub rows_all : rows n ≡ T
  unfolding rows mixed_blocks
  rows_all = refl

  pub rows_past : rows (n + 1) ≡ T
  rows_past = rows_more n ∙ ap (λ (r : List Block). rows n ++ r) (row_past n (omega arith)) ∙ append-nil (rows n) ∙ rows_all

  pub rows_none : rows 0 ≡ []
  unfolding rows blocks
  rows_none = refl

  pub opened_none : opened n c 0 ≡ alone n c 0 0
  unfolding opened flat
  opened_none = append-nil (alone n c 0 0)

  opened_split : (i : ℕ) → opened n c i ++ flat n c (drop i T) ≡ T
  unfolding opened
  opened_split i =
      append_assoc (alone n c 0 0) (flat n c (take i T)) (flat n c (drop i T)) ∙ ap (λ (r : List Block). alone n c 0 0 ++ r) (sym (flat_append (take i T) (drop i T)) ∙ ap (flat n c) (take-append-drop i T)) ∙ ap (λ (r : List Block). alone n c 0 0 ++ flat n c r) (sym rows_all) ∙ rows_step n ∙ rows_past

  pub opened_le : (i : ℕ) → length (opened n c i) ≤ length T
  opened_le i = omega (arith, length-append (opened n c i) (flat n c (drop i T)), ap length (opened_split i))

  pub opened_more : (i : ℕ) (d : Block) → i < length T → opened n c i ++ halves n c (get_or T i d) ≡ opened n c (i + 1)
  unfolding opened flat
  opened_more i d h =
      append_assoc (alone n c 0 0) (flat n c (take i T)) (halves n c (get_or T i d)) ∙ ap (λ (r : List Block). alone n c 0 0 ++ r) (ap (λ (r : List Block). flat n c (take i T) ++ r) (sym (append-nil (halves n c (get_or T i d)))) ∙ sym (flat_append (take i T) (get_or T i d ∷ [])) ∙ ap (flat n c) (sym (take_more T i d h)))

  -- the tree begins with the blocks in the table and the next block's mixed halves n c
  pub ahead : (i : ℕ) (d : Block) → i < length T → (r : List Block) × ((opened n c i ++ halves n c (get_or T i d)) ++ r ≡ T)
  ahead i d h = (flat n c (drop (i + 1) T), ap (λ (x : List Block). x ++ flat n c (drop (i + 1) T)) (opened_more i d h) ∙ opened_split (i + 1))

  pub begun : (r : List Block) × (alone n c 0 0 ++ r ≡ T)
  begun = (flat n c (drop 0 T), ap (λ (x : List Block). x ++ flat n c (drop 0 T)) (sym opened_none) ∙ opened_split 0)

  prefix : (j k : ℕ) → (r : List Block) × (rows j ++ r ≡ rows (k + j))
  prefix j zero = ([], append-nil (rows j) ∙ ap rows (let z : j ≡ 0 + j = omega arith in z))
  prefix j (suc k) =
      let p = prefix j k in
      (p.0 ++ row (k + j), sym (append_assoc (rows j) p.0 (row (k + j))) ∙ ap (λ (x : List Block). x ++ row (k + j)) p.1 ∙ sym (rows_more (k + j)) ∙ ap rows (let z : k + j + 1 ≡ suc k + j = omega arith in z))

  -- once the levels below j are divided, the table has the levels up to j
  pub opened_rows : (j : ℕ) → j ≤ n → opened n c (length (rows j)) ≡ rows (j + 1)
  unfolding opened
  opened_rows j h =
      let p = prefix j (n - j) in
      let w : rows j ++ p.0 ≡ T = p.1 ∙ ap rows (let z : n - j + j ≡ n = omega arith in z) ∙ rows_all in
      let t : take (length (rows j)) T ≡ rows j = ap (take (length (rows j))) (sym w) ∙ take_at (rows j) p.0 (length (rows j)) refl in
      ap (λ (x : List Block). alone n c 0 0 ++ flat n c x) t ∙ rows_step j
