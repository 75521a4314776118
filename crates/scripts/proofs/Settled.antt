-- The settled lines, computed.
use Rattle.std.proofs.Common.{refl}
use Rattle.scripts.specs.Examples.{LinesSettle}
use Rattle.scripts.specs.Grammar.{request, call, verb_of, how_of, is_high, format_of, number_at, flipped_at, mounted_at, layers_of, map_of, plan_call, tables_call, draw_call, join_call, strap_call, line_only, read_call, same_call, list_call}
use Rattle.scripts.specs.Numbers.{number, value}
use Rattle.scripts.specs.Words.{words, is_blank, is_end}

pub settled : LinesSettle
unfolding request call verb_of how_of is_high format_of number_at flipped_at mounted_at layers_of map_of plan_call tables_call draw_call join_call strap_call line_only read_call same_call list_call number value words is_blank is_end
settled = record {
  remark = refl;
  ordered = refl;
  strapped = refl;
  joined = refl;
  layered = refl;
  filed = refl;
  unknown = refl;
  short = refl;
  long = refl;
  lettered = refl;
  large = refl;
  unfilled = refl;
  inverted = refl;
}
