use Rattle.std.proofs.Common.{ℕ, List, sym, ap, ◌∙◌, subst}
use Rattle.files.specs.declared.format.Format.TheVariants.{Bits}
use Rattle.files.specs.Verdict.{fault}
use Rattle.quotes.specs.Quotes.{Drawn}
use Rattle.quotes.proofs.Counted.{quoted}
use Rattle.quotes.proofs.quoting.quote.Goals as goal

pub returns : goal.returns
returns c =
    let bs = c.args.bytes.now in
    let a = c.in_ok-read.ensures in
    quoted bs c.quote_map.result (ap (fault Bits) (sym a.same) ∙ a.faultless) (subst (λ (x : List ℕ). Drawn x c.quote_map.result) a.same c.quote_map.ensures)
