use Rattle.std.proofs.Common.{refl}
use Rattle.settled.proofs.Reckoned.{constant_settled, single_settled, alternating_settled, differing_settled, in_order_settled, out_of_order_settled, chip_settings_settled}
use Rattle.settled.proofs.maps.maps_settle.Goals as goal

pub returns : goal.returns
returns c = record {
  constant = constant_settled _ (c.reckon_file.ensures refl);
  single = single_settled _ (c.reckon_file-2.ensures refl);
  alternating = alternating_settled _ (c.reckon_file-3.ensures refl);
  differing = differing_settled _ (c.reckon_file-4.ensures refl);
  in_order = in_order_settled _ (c.reckon_file-5.ensures refl);
  out_of_order = out_of_order_settled _ (c.reckon_file-6.ensures refl);
  chip_settings = chip_settings_settled _ (c.reckon_file-7.ensures refl);
}
