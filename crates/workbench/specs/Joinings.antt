-- The joinings by their names.
use Rattle.std.specs.Prelude.{ℕ, ◌&&◌, ◌||◌}
use Rattle.ends.specs.Codes.{bit_code, bit_of, setting_code, setting_of, unlike, overlaid}
use Rattle.growths.specs.Codes.{code_join, decodes}
use Rattle.plans.specs.Plain.{Call, join}
use Rattle.scripts.specs.declared.request.How.{How}
use Rattle.scripts.specs.declared.request.How.TheVariants as how

abbrev pub join_call : How → (left right line nodes work : ℕ) → Call
join_call how.Both a b d k w = join (decodes bit_of) (code_join bit_of bit_code ◌&&◌) a b d k w
join_call how.Either a b d k w = join (decodes bit_of) (code_join bit_of bit_code ◌||◌) a b d k w
join_call how.Differ a b d k w = join (decodes bit_of) (code_join bit_of bit_code unlike) a b d k w
join_call how.Overlay a b d k w = join (decodes setting_of) (code_join setting_of setting_code overlaid) a b d k w
