use Rattle.std.proofs.Common.{refl}
use Rattle.trees.specs.Mixed.{differs, mixed, level, blocks, mixed_blocks}
use Rattle.trees.specs.Records.{place, half, divided, records}
use Rattle.trees.proofs.laws.trees_settle.Goals as goal

pub returns : goal.returns
unfolding differs mixed level blocks mixed_blocks place half divided records
returns c = record { pin_constant = refl; pin_1 = refl; pins_1_2_3 = refl; pins_1_3 = refl; pins_5 = refl; settings_1_2 = refl; settings_records = refl }
