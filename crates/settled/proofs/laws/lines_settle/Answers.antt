use Rattle.std.proofs.Common.{refl}
use Rattle.trees.specs.Mixed.{differs, mixed, level, blocks, mixed_blocks}
use Rattle.settled.proofs.Chains.{three_used, third_refused, erase_goes, third_goes, two_used, strap_goes, strap_uses, join_goes, none_counted}
use Rattle.settled.proofs.laws.lines_settle.Goals as goal

pub returns : goal.returns
unfolding differs mixed level blocks mixed_blocks
returns c = record {
  used = three_used;
  refused = third_refused;
  erases = erase_goes;
  drawn_then = third_goes;
  used_then = two_used;
  straps = strap_goes;
  strapped_used = strap_uses;
  ends = refl;
  joins = join_goes;
  none_counted = none_counted;
}
