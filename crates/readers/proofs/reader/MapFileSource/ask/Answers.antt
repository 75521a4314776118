use Rattle.files.proofs.Obeying.{reader_obeys}
use Rattle.readers.proofs.Ends.{ends_say}
use Rattle.readers.proofs.reader.MapFileSource.ask.Goals as goal

pub returns : goal.returns
returns g c =
    let k = g.K.Kind.format in
    let bs = c.args.self.now.bytes.now in
    ends_say k bs (reader_obeys k bs c.args.self.now.accepted) g.K.Kind.end (g.K.Kind.selection bs) (g.met.K.Kind.means bs) g.met.K.Kind.apart
    _ c.args.block.level c.args.block.number c.ask_codes.result c.in_ends.result c.in_ends.ensures (λ c e m. m) c.ask_codes.ensures
