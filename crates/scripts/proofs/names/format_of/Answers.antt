use Rattle.std.proofs.Common.{codes, refl, arith}
use Rattle.std.proofs.lemmas.Slice.Eq.{text_from_reads}
use Rattle.scripts.specs.Grammar.{format_of}
use Rattle.scripts.proofs.names.format_of.Goals as goal

pub returns-in-ranges : goal.returns-in-ranges
unfolding format_of
returns-in-ranges c =
    let word = text_from_reads c.args.word.now (codes "ranges") (omega arith) (omega arith, (omega arith, (omega arith, (omega arith, (omega arith, (omega arith, tt)))))) in rw word refl

pub returns-in-settings : goal.returns-in-settings
unfolding format_of
returns-in-settings c =
    let word = text_from_reads c.args.word.now (codes "settings") (omega arith) (omega arith, (omega arith, (omega arith, (omega arith, (omega arith, (omega arith, (omega arith, (omega arith, tt)))))))) in rw word refl
