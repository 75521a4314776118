use Rattle.std.proofs.Common.{refl}
use Rattle.std.proofs.lemmas.Result.{err_from_is_err_and}
use Rattle.files.proofs.Obeying.{obeys, refused_breaks}
use Rattle.files.proofs.accept.accept.Goals as goal

pub returns-in_err-check : goal.returns-in_err-check
returns-in_err-check c =
    let p = err_from_is_err_and c.from_residual.result c.from_residual.ensures.1 in
    rw (p.1, p.2) (record { first = c.in_err-check.ensures; broken = refused_breaks c.args.format c.args.bytes.now _ c.in_err-check.ensures })

pub returns : goal.returns
returns c = record { same = refl; faultless = c.in_ok-check.ensures; obeys = obeys c.args.format c.args.bytes.now c.in_ok-check.ensures }
