use Rattle.std.proofs.Common.{ap, ◌∙◌}
use Rattle.files.specs.Formats.{code_of}
use Rattle.files.proofs.Obeying.{reader_obeys}
use Rattle.readers.proofs.Stepping.{changes_mean}
use Rattle.readers.proofs.map_file.MapFile.code_at.Goals as goal

pub returns : goal.returns
returns g c =
    let k = g.K.Kind.format in
    let bs = c.args.self.now.bytes.now in
    c.code_after.ensures ∙ ap (code_of k bs) c.last_change.ensures ∙ changes_mean k bs (reader_obeys k bs c.args.self.now.accepted).entries c.args.address
