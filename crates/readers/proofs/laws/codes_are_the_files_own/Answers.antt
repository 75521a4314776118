use Rattle.files.proofs.Obeying.{reader_obeys}
use Rattle.readers.proofs.Ends.{own_code}
use Rattle.readers.proofs.laws.codes_are_the_files_own.Goals as goal

pub returns : goal.returns
returns g c =
    let k = g.K.Kind.format in
    let bs = c.args.file.now.bytes.now in
    own_code g.K.Of.End.code g.K.Of.End.decoded g.met.K.Of.End.only k bs (reader_obeys k bs c.args.file.now.accepted) g.K.Kind.end (g.K.Kind.selection bs) (g.met.K.Kind.means bs) g.met.K.Kind.coded
