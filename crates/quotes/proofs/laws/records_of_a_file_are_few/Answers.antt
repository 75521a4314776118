use Rattle.files.proofs.Obeying.{reader_obeys}
use Rattle.quotes.proofs.Changing.{file_few}
use Rattle.quotes.proofs.laws.records_of_a_file_are_few.Goals as goal

pub returns : goal.returns
returns g c =
    let k = g.K.Kind.format in
    let bs = c.args.file.now.bytes.now in
    file_few g.K.Of.End.code g.K.Of.End.decoded g.met.K.Of.End.only k bs (reader_obeys k bs c.args.file.now.accepted) g.K.Kind.end (g.K.Kind.selection bs) (g.met.K.Kind.means bs) g.met.K.Kind.coded
