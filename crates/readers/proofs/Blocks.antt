-- Blocks of an accepted file.
use Rattle.std.proofs.Common.{◌≡◌, ℕ, ◌+◌, ◌-◌, ◌*◌, ◌^◌, ◌<◌, ◌≤◌, List, sym, ap, ◌∙◌, arith}
use Rattle.sources.specs.Blocks.{at, Inside, Uniform, Differing}
use Rattle.files.specs.declared.format.Format.{Format}
use Rattle.files.specs.Formats.{pins_of, code_of}
use Rattle.files.specs.Rules.{Obeys}
use Rattle.files.specs.Meaning.{last_at, meaning}
use Rattle.readers.specs.Changes.{change_at, change_count}
use Rattle.readers.proofs.Rising.{uniform, differing}
use Rattle.readers.proofs.Stepping.{changed, steps_of, changes_mean}

module _ {n : ℕ} (f g : ℕ → ℕ) (same : (a : ℕ) → f a ≡ g a) (j p : ℕ) where
  uniform_like : (c : ℕ) → Uniform n f j p c → Uniform n g j p c
  uniform_like c u = record { inside = u.inside; same = λ i h. sym (same (at n j p i)) ∙ u.same i h }

  differing_like : Differing n f j p → Differing n g j p
  differing_like d = record {
    inside = d.inside;
    left = d.left;
    right = d.right;
    left_in = d.left_in;
    right_in = d.right_in;
    differ = λ e. d.differ (same (at n j p d.left) ∙ e ∙ sym (same (at n j p d.right)));
  }

module _ (k : Format) (bs : List ℕ) (o : Obeys k bs) where
  abbrev found : ℕ → ℕ
  found a = last_at (change_at k bs) a (change_count k bs)

  -- a block as the code has it: its first and last address, and the change that was found for the first
  module _ (j p first last i : ℕ) (h : Inside (pins_of k bs) j p) (f : first ≡ p * 2 ^ (pins_of k bs - j))
      (l : last ≡ p * 2 ^ (pins_of k bs - j) + (2 ^ (pins_of k bs - j) - 1)) (e : i ≡ found first) where
    pub block_uniform : (c : ℕ) → c ≡ code_of k bs i → (i < change_count k bs → last < change_at k bs (i + 1)) → Uniform (pins_of k bs) (meaning k bs) j p c
    block_uniform c q past =
        uniform_like (changed k bs) (meaning k bs) (changes_mean k bs o.entries) j p c
        (uniform (change_at k bs) (code_of k bs) (change_count k bs) (steps_of k bs o.entries) (pins_of k bs) j p h i (e ∙ ap found f) c q (λ m. omega (arith, past m, l)))

    pub block_differing : i < change_count k bs → change_at k bs (i + 1) ≤ last → Differing (pins_of k bs) (meaning k bs) j p
    block_differing more within =
        differing_like (changed k bs) (meaning k bs) (changes_mean k bs o.entries) j p
        (differing (change_at k bs) (code_of k bs) (change_count k bs) (steps_of k bs o.entries) (pins_of k bs) j p h i (e ∙ ap found f) more (omega (arith, within, l)))
