-- Settled examples of lines.
use Rattle.std.specs.Prelude.{◌≡◌, true, [], ◌∷◌, Some, None, Ok, Err, codes}
use Rattle.scripts.specs.declared.mistake.Mistake.TheVariants as mistake
use Rattle.scripts.specs.declared.request.How.TheVariants as how
use Rattle.scripts.specs.declared.request.Map.TheVariants as map
use Rattle.scripts.specs.Grammar.{request}
use Rattle.scripts.specs.Requests.{plan, act, draw, join, strap, list}
use Rattle.scripts.specs.Words.{words}

pub record LinesSettle : Type 0 where
  pub remark : request (words (codes "  # plan 4 0")) ≡ Ok None
  pub ordered : request (words (codes "plan 7 2 0 1")) ≡ Ok (Some (plan 7 (2 ∷ 0 ∷ 1 ∷ [])))
  pub strapped : request (words (codes " strap 1 0x2 high 3# up")) ≡ Ok (Some (act (strap 1 2 true 3)))
  pub joined : request (words (codes "join overlay 0 0x1F 2")) ≡ Ok (Some (act (join how.Overlay 0 31 2)))
  pub layered : request (words (codes "draw 4 inverted flipped 0xff mounted 16 3 1 ranges f"))
      ≡ Ok (Some (act (draw 4 (map.Ranges true (record { flipped = Some 255; mounted = Some (record { pins = 16; base = 3; fill = true }) })) (codes "f"))))
  pub filed : request (words (codes "list f")) ≡ Ok (Some (act (list (Some (codes "f")))))
  pub unknown : request (words (codes "fly")) ≡ Err mistake.UnknownCall
  pub short : request (words (codes "count")) ≡ Err mistake.MissingWord
  pub long : request (words (codes "count 1 2")) ≡ Err mistake.SurplusWord
  pub lettered : request (words (codes "count 1x")) ≡ Err mistake.NotANumber
  pub large : request (words (codes "count 0x100")) ≡ Err mistake.TooLarge
  pub unfilled : request (words (codes "draw 4 mounted 16 3 2 bits f")) ≡ Err mistake.NoEnd
  pub inverted : request (words (codes "draw 4 inverted settings f")) ≡ Err mistake.InvertedSettings
