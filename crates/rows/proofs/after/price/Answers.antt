use Rattle.std.proofs.Common.{length}
use Rattle.rows.proofs.Pricing.{priced}
use Rattle.rows.proofs.after.price.Goals as goal

pub returns : goal.returns
returns c p o = priced p c.args.nodes.now (length c.args.work.now) _ o c.used-used.ensures (c.counts_of-counts.ensures p o)
