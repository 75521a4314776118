-- What the bytes of a map file obey.
use Rattle.std.specs.Prelude.{◌≡◌, ℕ, ◌+◌, ◌*◌, ◌^◌, ◌<◌, ◌≤◌, List, length, take, ◌≢◌, slice_index}
use Rattle.files.specs.declared.format.Format.{Format}
use Rattle.files.specs.declared.format.Format.TheVariants.{Bits, Settings, Ranges}
use Rattle.files.specs.Formats.{mark_of, double, entry_size, header_size, pins_of, count_of, first_of, last_of, code_of, code_limit}

abbrev pub KindRead : Format → List ℕ → Type 0
KindRead Bits bs = slice_index bs 5 ≡ 0
KindRead Settings bs = slice_index bs 5 ≡ 1
KindRead Ranges bs = Unit {0}

pub record LaidOut (k : Format) (bs : List ℕ) : Type 0 where
  pub mark : take 3 bs ≡ mark_of k
  pub version : double bs 3 ≡ 1
  pub kind : KindRead k bs
  pub some_pins : 1 ≤ pins_of k bs
  pub few_pins : pins_of k bs ≤ 20
  pub few_entries : count_of k bs ≤ 1024
  pub whole : length bs ≡ header_size k + count_of k bs * entry_size k

-- entry 0 is the first end, at address 0: switches are above it and rise, have codes of the kind, and each changes the end
pub record SwitchesObey (k : Format) (bs : List ℕ) : Type 0 where
  pub below : (i : ℕ) → i ≤ count_of k bs → first_of k bs i < 2 ^ pins_of k bs
  pub rising : (i : ℕ) → i < count_of k bs → first_of k bs i < first_of k bs (i + 1)
  pub coded : (i : ℕ) → i ≤ count_of k bs → code_of k bs i < code_limit k
  pub changing : (i : ℕ) → i < count_of k bs → code_of k bs i ≢ code_of k bs (i + 1)

-- ranges are entries 1 and up; between two of them there is an address outside
pub record RangesObey (bs : List ℕ) : Type 0 where
  pub below : (i : ℕ) → 1 ≤ i → i ≤ count_of Ranges bs → last_of bs i < 2 ^ pins_of Ranges bs
  pub forward : (i : ℕ) → 1 ≤ i → i ≤ count_of Ranges bs → first_of Ranges bs i ≤ last_of bs i
  pub apart : (i : ℕ) → 1 ≤ i → i < count_of Ranges bs → last_of bs i + 2 ≤ first_of Ranges bs (i + 1)

-- a bit file's first end is a bit; its switches' codes follow from it
abbrev pub EntriesObey : Format → List ℕ → Type 0
EntriesObey Bits bs = (slice_index bs 7 < 2) × SwitchesObey Bits bs
EntriesObey Settings bs = SwitchesObey Settings bs
EntriesObey Ranges bs = RangesObey bs

pub record Obeys (k : Format) (bs : List ℕ) : Type 0 where
  pub layout : LaidOut k bs
  pub entries : EntriesObey k bs
