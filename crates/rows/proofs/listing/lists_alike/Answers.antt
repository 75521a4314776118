use Rattle.std.proofs.lemmas.Slice.Eq.{slice_eq-Decides}
use Rattle.std.proofs.lemmas.Bool.Decides.{Decides-eqb}
use Rattle.rows.proofs.Listed.{compared, plain_order}
use Rattle.rows.proofs.listing.lists_alike.Goals as goal

pub returns-clause-compared : goal.returns-clause-compared
returns-clause-compared g c =
    compared _ _ _ _ _ _ _ _ _ c.in_ok-len.ensures.listed _
    (plain_order _ _ (g.A.Row.calls c.args.one.now)) (plain_order _ _ (g.B.Row.calls c.args.two.now))
    _ _ c.in_ok-other_len.ensures.listed (slice_eq-Decides Decides-eqb _ _ _ c.eq.ensures)
