use Rattle.std.proofs.Common.{◌≤◌, ◌^◌, length, arith, rules}
use Rattle.std.proofs.lemmas.Iterator.{YieldsList-from_slice}
use Rattle.std.proofs.lemmas.Iterator.Adapters.{fits_from_length, at_most_from_yields_List}
use Rattle.tables.proofs.Counts.{nonzero_le}
use Rattle.tables.proofs.marking.count_filled.Goals as goal

-- fewer than 2 ^ 62 entries, and each adds at most 1
pub sum-requires-clause-fits : goal.sum-requires-clause-fits
sum-requires-clause-fits c =
    let few : length c.args.entries.now ≤ 2 ^ 62 = search rules in
    fits_from_length _ _ (2 ^ 62) (2 ^ 64) (at_most_from_yields_List (YieldsList-from_slice c.args.entries.now cc) few) c.map.ensures.closure (omega arith) (λ x r q k. search (rules, arith, nonzero_le))
