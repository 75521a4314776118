use Rattle.std.proofs.Common.{ℕ, refl, subst}
use Rattle.files.specs.Formats.{first_of}
use Rattle.files.specs.Theorems.{Last}
use Rattle.files.proofs.Lasts.{last_told, told_last}
use Rattle.files.proofs.laws.last_entry_is_told.Goals as goal

pub returns : goal.returns
returns c = λ k bs a n i. (λ e. subst (λ (x : ℕ). Last (first_of k bs) a n x) e (last_told (first_of k bs) refl a n), told_last (first_of k bs) refl a n i)
