-- What the laws of the kinds cite.
use Rattle.std.proofs.Common.{◌≡◌, ℕ, zero, suc, ◌<◌, Bool, true, false, cond, List, Some, None, refl, ap, arith, ◌==◌, lt-ltb}
use Rattle.ends.specs.declared.setting.Setting.{Setting}
use Rattle.ends.specs.Codes.{bit_of, setting_at, setting_of}
use Rattle.files.specs.declared.format.Format.TheVariants.{Ranges}
use Rattle.files.specs.Formats.{count_of}
use Rattle.files.specs.Meaning.{covered, meaning}
use Rattle.readers.specs.Selections.{inside_at}

-- codes of one chip setting are one code
pub settings_apart : (c d : ℕ) → c < 128 → d < 128 → setting_at c ≡ setting_at d → c ≡ d
settings_apart c d p q e =
    let chip = ap (λ (s : Setting). s.chip) e in
    let waits = ap (λ (s : Setting). s.waits) e in
    omega (arith, chip, waits, p, q)

-- a code below the limit decodes, to the end that it stands for
pub bit_coded : (c : ℕ) → c < 2 → bit_of c ≡ Some (c == 1)
bit_coded zero l = refl
bit_coded (suc zero) l = refl
bit_coded (suc (suc c)) l = absurd (omega arith)

pub setting_coded : (c : ℕ) → c < 128 → setting_of c ≡ Some (setting_at c)
setting_coded c l = ap (λ b. cond b (Some (setting_at c)) None) (lt-ltb c 128 l)

pub inside_means : (bs : List ℕ) (a : ℕ) → inside_at bs a ≡ (meaning Ranges bs a == 1)
inside_means bs a = told (covered bs a (count_of Ranges bs))
  where
    told : (b : Bool) → b ≡ (cond b 1 0 == 1)
    told true = refl
    told false = refl
