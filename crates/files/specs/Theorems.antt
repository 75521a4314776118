-- What stands above the computed definitions, in the words of the rules.
use Rattle.std.specs.Prelude.{◌≡◌, ℕ, ◌<◌, ◌≤◌, true, ◌↔◌, List, Some, None}
use Rattle.faults.specs.declared.fault.Fault.{Fault}
use Rattle.files.specs.declared.format.Format.{Format}
use Rattle.files.specs.declared.format.Format.TheVariants.{Ranges}
use Rattle.files.specs.Formats.{first_of, last_of}
use Rattle.files.specs.Verdict.{fault}
use Rattle.files.specs.Rules.{Obeys}
use Rattle.files.specs.Meaning.{last_at, covered}

-- bytes have no fault exactly when they obey the layout and the rules of the entries
abbrev pub AcceptedWhenObeyed : Type 0
AcceptedWhenObeyed = (k : Format) (bs : List ℕ) → (fault k bs ≡ None) ↔ Obeys k bs

-- entry i is at or below the address, and each later one is above it
pub record Last (address : ℕ → ℕ) (a n i : ℕ) : Type 0 where
  pub there : i ≤ n
  pub low : address i ≤ a
  pub next : (j : ℕ) → i < j → j ≤ n → a < address j

-- the entry whose end an address has is the last at or below it
abbrev pub LastIsTold : Type 0
LastIsTold = (k : Format) (bs : List ℕ) (a n i : ℕ) → (last_at (first_of k bs) a n ≡ i) ↔ Last (first_of k bs) a n i

-- some range from first to last has the address
abbrev pub CoveredIsInside : Type 0
CoveredIsInside = (bs : List ℕ) (a n : ℕ) → (covered bs a n ≡ true) ↔ ((i : ℕ) × (1 ≤ i) × (i ≤ n) × (first_of Ranges bs i ≤ a) × (a ≤ last_of bs i))

-- the bytes are handed back as they were, and are a map file
pub record Accepted (k : Format) (bs back : List ℕ) : Type 0 where
  pub same : back ≡ bs
  pub faultless : fault k back ≡ None
  pub obeys : Obeys k back

-- the first fault, in bytes that break a rule
pub record Refused (k : Format) (bs : List ℕ) (f : Fault) : Type 0 where
  pub first : fault k bs ≡ Some f
  pub broken : Obeys k bs → ⊥
