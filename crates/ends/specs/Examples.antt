-- Settled examples of overlay, on codes.
use Rattle.std.specs.Prelude.{◌≡◌, ℕ, Some, Option}
use Rattle.ends.specs.Codes.{setting_code, setting_of, overlaid, joined_code}

abbrev pub overlay_codes : ℕ → ℕ → Option ℕ
overlay_codes = joined_code setting_of setting_code overlaid

-- chip 2 with 1 wait and chip 1 with 1 wait tie, so the left wins; chip 2 without waits beats chip 0 with 1 wait
pub record OverlaySettles : Type 0 where
  pub tie_17_9 : overlay_codes 17 9 ≡ Some 17
  pub tie_9_17 : overlay_codes 9 17 ≡ Some 9
  pub idle_1_16 : overlay_codes 1 16 ≡ Some 16
