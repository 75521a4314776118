-- The plain plan of the settled row.
use Rattle.std.proofs.Common.{◌≡◌, true, List, [], ◌∷◌, refl}
use Rattle.growths.specs.Codes.{code_join, decodes}
use Rattle.trees.specs.Mixed.{codes, differs, mixed, level, blocks, mixed_blocks}
use Rattle.plans.specs.Plain.{Call, draw, join, strap, erase, empty_plan, used_of}
use Rattle.rows.specs.Rows.{runs}
use Rattle.row_tests.specs.Lamps.{lamp_code, lamp_of, brighter, dawn}

abbrev pub calls : List Call
calls =
    draw 0 2 (codes lamp_code dawn) 8 4 120
    ∷ (strap 0 0 true 1 8 120 ∷ (erase 0 7 120 ∷ (join (decodes lamp_of) (code_join lamp_of lamp_code brighter) 0 1 1 8 120 ∷ [])))

pub two_used : used_of (runs (empty_plan (0 ∷ (1 ∷ [])) 8) calls) ≡ 2
unfolding differs mixed level blocks mixed_blocks
two_used = refl
