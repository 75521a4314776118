-- The table of records as it grows, block by block.
use Rattle.std.proofs.Common.{◌≡◌, ℕ, ◌+◌, ◌-◌, ◌*◌, ◌^◌, ◌<◌, ◌≤◌, true, false, ◌≢◌, List, [], ◌∷◌, ◌++◌, map, length, get_or, take, drop, set, sym, refl, ap, ◌∙◌, subst, inl, inr, arith, w32, Fits}
use lib.Pow.{pow-lt}
use Rattle.std.proofs.ByRecursion.{All-get_or}
use Rattle.std.proofs.lemmas.List.{append_assoc, length-append, length-take-le, length-drop, length-map, get_or_at, get_or-set_same, get_or-set_other, get_or-take, get_or-drop, get_or-map, ext_get_or}
use Rattle.std.proofs.lemmas.Bool.{cond-true, cond-false}
use Rattle.std.proofs.lemmas.Bool.Decides.{eqb_tells}
use Rattle.faults.specs.declared.fault.Fault.{Fault}
use Rattle.faults.specs.declared.fault.Ground.TheVariants.{TreeTable}
use Rattle.faults.specs.Refusals.{at}
use Rattle.trees.specs.declared.tree.Half.{Half}
use Rattle.trees.specs.declared.tree.Half.TheVariants.{Code, Split}
use Rattle.trees.specs.declared.tree.Record.{Record}
use Rattle.trees.specs.Mixed.{mixed, Block, mixed_blocks}
use Rattle.trees.specs.Records.{blank, place, half, divided, records, Written, Refused}
use Rattle.trees.specs.Growth.{alone, halves, opened, fresh, with_halves, record_at, block_at, Grown, Full, Filed, Drafted, Untouched, Advanced}
use Rattle.trees.proofs.Differ.{none_mixed, some_whole}
use Rattle.trees.proofs.Order.{ordered, place_at, listed_there}
use Rattle.trees.proofs.Rows.{alone_so, alone_not, rows, rows_all, rows_past, rows_none, opened_none, opened_le, opened_more, ahead, begun, opened_rows}

set_same : (t : List Record) (i : ℕ) (r : Record) → i < length t → record_at (set t i r) i ≡ r
set_same t i r h = get_or-set_same t i r blank h

set_other : (t : List Record) (i k : ℕ) (r : Record) → k ≢ i → record_at (set t i r) k ≡ record_at t k
set_other t i k r h = get_or-set_other t i k r blank h

-- a table where one more block is looked at: those in it are front, and the tree goes on with this one if it is mixed
module _ (n : ℕ) (c : ℕ → ℕ) (j p : ℕ) (front rest : List Block) (whole : (front ++ alone n c j p) ++ rest ≡ mixed_blocks n c) where
  next_is : mixed n c j p ≡ true → (front ++ (j, p) ∷ rest) ≡ mixed_blocks n c
  next_is e = sym (append_assoc front ((j, p) ∷ []) rest) ∙ ap (λ (x : List Block). (front ++ x) ++ rest) (sym (alone_so n c j p e)) ∙ whole

  pub next_in : mixed n c j p ≡ true → length front < length (mixed_blocks n c)
  next_in e = omega (arith, length-append front ((j, p) ∷ rest), ap length (next_is e))

  next_at : mixed n c j p ≡ true → block_at n c (length front) ≡ (j, p)
  next_at e = ap (λ (x : List Block). get_or x (length front) (0, 0)) (sym (next_is e)) ∙ get_or_at front (j, p) rest (0, 0) (length front) refl

  half_code : (e : ℕ) → mixed n c j p ≡ false → e ≡ c (p * 2 ^ (n - j)) → Code e ≡ half n c j p
  unfolding half
  half_code e m q = ap Code q ∙ sym (cond-false (mixed n c j p) (Split (place (j, p) (mixed_blocks n c))) (Code (c (p * 2 ^ (n - j)))) m)

  half_split : mixed n c j p ≡ true → Split (length front) ≡ half n c j p
  unfolding half
  half_split m =
      let q : length front ≡ place (j, p) (mixed_blocks n c) = sym (place_at (mixed_blocks n c) (length front) (0, 0) (ordered n c) (next_in m)) ∙ ap (λ (b : Block). place b (mixed_blocks n c)) (next_at m) in
      ap Split q ∙ sym (cond-true (mixed n c j p) (Split (place (j, p) (mixed_blocks n c))) (Code (c (p * 2 ^ (n - j)))) m)

  module _ (t : List Record) (done len : ℕ) (f : Filed n c t done len) (count : len ≡ length front) where
    -- what a step gives
    pub record Step (h : Half) (u : List Record) (m : ℕ) : Type 0 where
      pub filed : Filed n c u done m
      pub half_is : h ≡ half n c j p
      pub counted : m ≡ length (front ++ alone n c j p)
      pub more : len ≤ m
      pub untouched : Untouched t u m

    module _ (room : len < length t) (m : mixed n c j p ≡ true) where
      abbrev pushed : List Record
      pushed = set t len (fresh j p)

      old_at : (k : ℕ) → k < len → record_at pushed k ≡ record_at t k
      old_at k h = set_other t len k (fresh j p) (λ e. omega arith)

      here_is : block_at n c len ≡ (j, p)
      here_is = ap (block_at n c) count ∙ next_at m

      push : (F : Record → ℕ) (G : Block → ℕ) → ((k : ℕ) → k < len → F (record_at t k) ≡ G (block_at n c k)) → F (fresh j p) ≡ G (j, p) → (k : ℕ) → k < len + 1 → F (record_at pushed k) ≡ G (block_at n c k)
      push F G below now k h =
          elim (eqb_tells k len) [
            | inl w ↦ ap (λ x. F (record_at pushed x)) w.1 ∙ ap F (set_same t len (fresh j p) room) ∙ now ∙ ap G (sym here_is) ∙ ap (λ x. G (block_at n c x)) (sym w.1)
            | inr w ↦ let l : k < len = omega (arith, w.1) in ap F (old_at k l) ∙ below k l
          ]

      pushed_step : Step (Split len) pushed (len + 1)
      pushed_step = record {
        filed = record {
          begun = omega (arith, f.begun);
          level_is = push (λ r. r.block.level) (λ b. b.0) f.level_is refl;
          block_is = push (λ r. r.block.number) (λ b. b.1) f.block_is refl;
          whole = λ k h. old_at k (omega (arith, f.begun)) ∙ f.whole k h;
        };
        half_is = ap Split count ∙ half_split m;
        counted = omega (arith, length-append front (alone n c j p), ap length (alone_so n c j p m));
        more = omega arith;
        untouched = λ k h. set_other t len k (fresh j p) (λ e. omega arith);
      }

    pub step : (h : Half) (u : List Record) (m : ℕ) → Grown n c j p t len h u m → Step h u m
    step (Code e) u m g =
        subst (λ (x : List Record). Step (Code e) x m) (sym g.same) (subst (λ (x : ℕ). Step (Code e) t x) (sym g.same_len)
        (record {
          filed = f;
          half_is = half_code e (some_whole n c j p e g.one_code).0 (some_whole n c j p e g.one_code).1;
          counted = omega (arith, length-append front (alone n c j p), ap length (alone_not n c j p (some_whole n c j p e g.one_code).0), count);
          more = omega arith;
          untouched = λ k h. refl;
        }))
    step (Split i) u m g =
        subst (λ (x : ℕ). Step (Split x) u m) (sym g.index_is) (subst (λ (x : List Record). Step (Split len) x m) (sym g.put) (subst (λ (x : ℕ). Step (Split len) (pushed g.room (none_mixed n c j p g.two_codes)) x) (sym g.more_len) (pushed_step g.room (none_mixed n c j p g.two_codes))))

-- record i gets its halves
module _ (n : ℕ) (c : ℕ → ℕ) (t : List Record) (i len : ℕ) (f : Filed n c t i len) (here : i < len) (within : len ≤ length t) (r : Record) (is : r ≡ divided n c (block_at n c i)) where
  abbrev filled : List Record
  filled = set t i r

  at_i : record_at filled i ≡ divided n c (block_at n c i)
  at_i = set_same t i r (omega (arith, within)) ∙ is

  keep : (F : Record → ℕ) (G : Block → ℕ) → ((k : ℕ) → k < len → F (record_at t k) ≡ G (block_at n c k)) → F (divided n c (block_at n c i)) ≡ G (block_at n c i) → (k : ℕ) → k < len → F (record_at filled k) ≡ G (block_at n c k)
  keep F G below now k h =
      elim (eqb_tells k i) [
        | inl w ↦ ap (λ x. F (record_at filled x)) w.1 ∙ ap F at_i ∙ now ∙ ap (λ x. G (block_at n c x)) (sym w.1)
        | inr w ↦ ap F (set_other t i k r w.1) ∙ below k h
      ]

  filled_whole : (k : ℕ) → k < i + 1 → record_at filled k ≡ divided n c (block_at n c k)
  filled_whole k h =
      elim (eqb_tells k i) [
        | inl w ↦ ap (record_at filled) w.1 ∙ at_i ∙ ap (λ x. divided n c (block_at n c x)) (sym w.1)
        | inr w ↦ set_other t i k r w.1 ∙ f.whole k (omega (arith, w.1))
      ]

  pub filled_filed : Filed n c filled (i + 1) len
  unfolding divided
  filled_filed = record {
    begun = omega arith;
    level_is = keep (λ x. x.block.level) (λ b. b.0) f.level_is refl;
    block_is = keep (λ x. x.block.number) (λ b. b.1) f.block_is refl;
    whole = filled_whole;
  }

-- record i of a table is divided
module _ (n : ℕ) (c : ℕ → ℕ) (t : List Record) (i len : ℕ) (d : Drafted n c t i len) (here : i < len) where
  abbrev level : ℕ
  level = (record_at t i).block.level

  abbrev block : ℕ
  block = (record_at t i).block.number

  in_tree : i < length (mixed_blocks n c)
  in_tree = omega (arith, d.counted, opened_le n c i)

  key : (level, block) ≡ block_at n c i
  key = ap (λ (x : ℕ). (x, block)) (d.filed.level_is i here) ∙ ap (λ (x : ℕ). ((block_at n c i).0, x)) (d.filed.block_is i here)

  pub level_below : level < n
  level_below = omega (arith, d.filed.level_is i here, (All-get_or (λ (b : Block). (b.0 < n) × (b.1 < 2 ^ b.0)) (mixed_blocks n c) i (0, 0) in_tree (listed_there n c)).0)

  pub block_below : block < 2 ^ level
  block_below =
      let P : Block → Type 0 = λ b. b.1 < 2 ^ b.0 in
      subst P (sym key) (All-get_or (λ (b : Block). (b.0 < n) × (b.1 < 2 ^ b.0)) (mixed_blocks n c) i (0, 0) in_tree (listed_there n c)).1

  block_small : n ≤ 20 → block < 2 ^ 20
  block_small few = let h : level < 20 = omega (arith, level_below) in let l = pow-lt h in omega (arith, l, block_below)

  -- the halves' numbers fit
  pub level_fits : n ≤ 20 → Fits w32 (level + 1)
  level_fits few = let h = level_below in omega arith

  pub low_fits : n ≤ 20 → Fits w32 (2 * block)
  low_fits few = let h = block_small few in omega arith

  pub high_fits : n ≤ 20 → Fits w32 (2 * block + 1)
  high_fits few = let h = block_small few in omega arith

  more : (r : List Block) × ((opened n c i ++ (alone n c (level + 1) (2 * block) ++ alone n c (level + 1) (2 * block + 1))) ++ r ≡ mixed_blocks n c)
  unfolding halves
  more = let a = ahead n c i (0, 0) in_tree in (a.0, ap (λ (b : Block). (opened n c i ++ halves n c b) ++ a.0) key ∙ a.1)

  low_rest : List Block
  low_rest = alone n c (level + 1) (2 * block + 1) ++ more.0

  front : List Block
  front = opened n c i ++ alone n c (level + 1) (2 * block)

  high_whole : (front ++ alone n c (level + 1) (2 * block + 1)) ++ more.0 ≡ mixed_blocks n c
  unfolding front
  high_whole = ap (λ (x : List Block). x ++ more.0) (append_assoc (opened n c i) (alone n c (level + 1) (2 * block)) (alone n c (level + 1) (2 * block + 1))) ∙ more.1

  low_whole : (opened n c i ++ alone n c (level + 1) (2 * block)) ++ low_rest ≡ mixed_blocks n c
  unfolding low_rest front
  low_whole = sym (append_assoc front (alone n c (level + 1) (2 * block + 1)) more.0) ∙ high_whole

  opened_next : front ++ alone n c (level + 1) (2 * block + 1) ≡ opened n c (i + 1)
  unfolding front halves
  opened_next = append_assoc (opened n c i) (alone n c (level + 1) (2 * block)) (alone n c (level + 1) (2 * block + 1)) ∙ ap (λ (b : Block). opened n c i ++ halves n c b) key ∙ opened_more n c i (0, 0) in_tree

  pub low_full : (fault : Fault) → Full n c (level + 1) (2 * block) t len fault → Refused n c t fault
  low_full fault f = record { told = f.told; over = omega (arith, f.no_room, d.counted, next_in n c (level + 1) (2 * block) (opened n c i) low_rest low_whole (none_mixed n c (level + 1) (2 * block) f.two_codes)) }

  module _ (u : List Record) (l : Half) (m : ℕ) (g : Grown n c (level + 1) (2 * block) t len l u m) where
    one : Step n c (level + 1) (2 * block) (opened n c i) low_rest low_whole t i len d.filed d.counted l u m
    one = step n c (level + 1) (2 * block) (opened n c i) low_rest low_whole t i len d.filed d.counted l u m g

    front_count : m ≡ length front
    unfolding front
    front_count = one.counted

    pub high_full : length u ≡ length t → (fault : Fault) → Full n c (level + 1) (2 * block + 1) u m fault → Refused n c t fault
    high_full same fault f = record {
      told = f.told ∙ ap (at TreeTable) same;
      over = omega (arith, same, f.no_room, front_count, next_in n c (level + 1) (2 * block + 1) front more.0 high_whole (none_mixed n c (level + 1) (2 * block + 1) f.two_codes));
    }

    pub divide_done : (v : List Record) (h : Half) (q : ℕ) (r : Record) → q ≤ length v → Grown n c (level + 1) (2 * block + 1) u m h v q → r ≡ with_halves (record_at t i) l h → Advanced n c t len (set v i r) (i + 1) q
    unfolding divided
    divide_done v h q r within g' e =
        let two = step n c (level + 1) (2 * block + 1) front more.0 high_whole u i m one.filed front_count h v q g' in
        let is : r ≡ divided n c (level, block) = e ∙ ap (λ (x : Half). with_halves (record_at t i) x h) one.half_is ∙ ap (with_halves (record_at t i) (half n c (level + 1) (2 * block))) two.half_is in
        let i_in : i < q = omega (arith, one.more, two.more) in
        record {
          drafted = record {
            filed = filled_filed n c v i q two.filed i_in within r (is ∙ ap (divided n c) key);
            counted = two.counted ∙ ap length opened_next;
          };
          more = omega (arith, one.more, two.more);
          untouched = λ k w. set_other v i k r (λ e. omega arith) ∙ two.untouched k w ∙ one.untouched k (omega (arith, two.more));
        }

-- one advance after another
pub advanced_on : (n : ℕ) (c : ℕ → ℕ) (t u v : List Record) (len m q done again : ℕ) → Advanced n c t len u done m → Advanced n c u m v again q → Advanced n c t len v again q
advanced_on n c t u v len m q done again a b = record {
  drafted = b.drafted;
  more = omega (arith, a.more, b.more);
  untouched = λ k w. b.untouched k w ∙ a.untouched k (omega (arith, b.more));
}

pub advanced_none : (n : ℕ) (c : ℕ → ℕ) (t : List Record) (done len : ℕ) → Drafted n c t done len → Advanced n c t len t done len
advanced_none n c t done len d = record { drafted = d; more = omega arith; untouched = λ k w. refl }

-- the root
module _ (n : ℕ) (c : ℕ → ℕ) (t : List Record) where
  empty : Filed n c t 0 0
  empty = record {
    begun = omega arith;
    level_is = λ k h. absurd (omega arith);
    block_is = λ k h. absurd (omega arith);
    whole = λ k h. absurd (omega arith);
  }

  pub root_full : (fault : Fault) → Full n c 0 0 t 0 fault → Refused n c t fault
  root_full fault f = record { told = f.told; over = omega (arith, f.no_room, next_in n c 0 0 [] (begun n c).0 (begun n c).1 (none_mixed n c 0 0 f.two_codes)) }

  module _ (u : List Record) (h : Half) (m : ℕ) (g : Grown n c 0 0 t 0 h u m) where
    root_step : Step n c 0 0 [] (begun n c).0 (begun n c).1 t 0 0 empty refl h u m
    root_step = step n c 0 0 [] (begun n c).0 (begun n c).1 t 0 0 empty refl h u m g

    pub root_is : h ≡ half n c 0 0
    root_is = root_step.half_is

    pub root_drafted : Drafted n c u 0 m
    root_drafted = record { filed = root_step.filed; counted = root_step.counted ∙ ap length (sym (opened_none n c)) }

    pub root_untouched : Untouched t u m
    root_untouched = root_step.untouched

-- a level's records end where the next level's begin
pub level_end : (n : ℕ) (c : ℕ → ℕ) (t : List Record) (done len j : ℕ) → Drafted n c t done len → done ≡ length (rows n c j) → j ≤ n → len ≡ length (rows n c (j + 1))
level_end n c t done len j d e h = d.counted ∙ ap (λ x. length (opened n c x)) e ∙ ap length (opened_rows n c j h)

pub no_rows : (n : ℕ) (c : ℕ → ℕ) → 0 ≡ length (rows n c 0)
no_rows n c = ap length (sym (rows_none n c))

-- all is divided
module _ (n : ℕ) (c : ℕ → ℕ) (t v : List Record) (done len : ℕ) (d : Drafted n c v done len) (e : done ≡ length (rows n c n)) (within : len ≤ length v) (same : length v ≡ length t) (past : Untouched t v len) where
  all_done : done ≡ length (mixed_blocks n c)
  all_done = e ∙ ap length (rows_all n c)

  all_len : len ≡ length (mixed_blocks n c)
  all_len = level_end n c v done len n d e (omega arith) ∙ ap length (rows_past n c)

  whole_records : take len v ≡ records n c
  unfolding records
  whole_records =
      ext_get_or blank (take len v) (map (divided n c) (mixed_blocks n c)) (length-take-le len v within ∙ all_len ∙ sym (length-map (mixed_blocks n c) (divided n c)))
      (λ k h. let l : k < len = omega (arith, h, length-take-le len v within) in get_or-take len v k blank l ∙ d.filed.whole k (omega (arith, all_done, all_len)) ∙ sym (get_or-map (divided n c) (mixed_blocks n c) k (0, 0) blank (omega (arith, all_len))))

  pub written : (pins : ℕ) (root : Half) → n ≤ 20 → pins ≡ n → root ≡ half n c 0 0 → Written n c t v (record { pins = pins; root = root; len = len })
  written pins root few p r = record {
    room = omega (arith, within, all_len, same);
    built = record { few = few; pins = p; root = r; len = all_len; listed = whole_records };
    past =
        ext_get_or blank (drop len v) (drop len t) (length-drop len v ∙ ap (λ x. x - len) same ∙ sym (length-drop len t))
        (λ k h. get_or-drop len v k blank ∙ past (len + k) (omega arith) ∙ sym (get_or-drop len t k blank));
  }
