-- Mistakes in a line, as they print, and steps that may fail.
use Rattle.std.specs.Prelude.{◌≡◌, ℕ, List, Ok, Err, codes, Result}
use Rattle.scripts.specs.declared.mistake.Mistake.{Mistake}
use Rattle.scripts.specs.declared.mistake.Mistake.TheVariants as mistake
use Rattle.scripts.specs.declared.mistake.ParseError.{ParseError}
use Rattle.scripts.specs.declared.mistake.ParseError.TheVariants as error

abbrev pub wrong : Mistake → List ℕ
wrong mistake.UnknownCall = codes "no such call"
wrong mistake.MissingWord = codes "a word is missing"
wrong mistake.SurplusWord = codes "a word too many"
wrong mistake.NotANumber = codes "not a number"
wrong mistake.TooLarge = codes "a number too large for its place"
wrong mistake.UnknownJoining = codes "not both, either, differ or overlay"
wrong mistake.UnknownLevel = codes "not low or high"
wrong mistake.UnknownKind = codes "not bits, settings or ranges"
wrong mistake.InvertedSettings = codes "chip settings cannot be inverted"
wrong mistake.NoEnd = codes "the fill is no end of the kind"

-- the value goes on to the next step, or the mistake stands
infixl 10 ◌>>=◌
abbrev pub ◌>>=◌ : {A B : Type 0} → Result A Mistake → (A → Result B Mistake) → Result B Mistake
(Ok x) >>= f = f x
(Err m) >>= f = Err m

-- What a function returned, seen by a view, is what the grammar reads, unless memory ran out.
abbrev pub Fails : {Y : Type 0} → ParseError → Result Y Mistake → Type 0
Fails error.Memory read = Unit {0}
Fails (error.Mistake m) read = read ≡ Err m

abbrev pub Gives : {X Y : Type 0} → (X → Y) → Result X ParseError → Result Y Mistake → Type 0
Gives view (Ok x) read = read ≡ Ok (view x)
Gives view (Err e) read = Fails e read
