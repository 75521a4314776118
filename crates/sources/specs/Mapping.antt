-- An answer whose end is changed.
use Rattle.std.specs.Prelude.{◌≡◌, ⊤}
use Rattle.sources.specs.declared.source.Answer.{Answer}
use Rattle.sources.specs.declared.source.Answer.TheVariants.{All, Mixed, Outside}

-- the end of the answer, if it has one, has the property
abbrev pub OnAll : {D : Type 0} → Answer D → (D → Type 0) → Type 0
OnAll (All d) P = P d
OnAll Mixed P = ⊤
OnAll Outside P = ⊤

-- the same answer as the first, with an end in the relation to its end
abbrev pub Mapped : {D E : Type 0} → (D → E → Type 0) → Answer D → Answer E → Type 0
Mapped {E = E} R (All d) b = (e : E) × (b ≡ All e) × R d e
Mapped R Mixed b = b ≡ Mixed
Mapped R Outside b = b ≡ Outside
