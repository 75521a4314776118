use Rattle.std.proofs.Common.{codes, refl, arith}
use Rattle.std.proofs.lemmas.Slice.Eq.{text_from_reads}
use Rattle.scripts.specs.Grammar.{how_of}
use Rattle.scripts.proofs.names.how_of.Goals as goal

pub returns-in-either : goal.returns-in-either
unfolding how_of
returns-in-either c =
    let word = text_from_reads c.args.word.now (codes "either") (omega arith) (omega arith, (omega arith, (omega arith, (omega arith, (omega arith, (omega arith, tt)))))) in rw word refl

pub returns-in-differ : goal.returns-in-differ
unfolding how_of
returns-in-differ c =
    let word = text_from_reads c.args.word.now (codes "differ") (omega arith) (omega arith, (omega arith, (omega arith, (omega arith, (omega arith, (omega arith, tt)))))) in rw word refl

pub returns-in-overlay : goal.returns-in-overlay
unfolding how_of
returns-in-overlay c =
    let word = text_from_reads c.args.word.now (codes "overlay") (omega arith) (omega arith, (omega arith, (omega arith, (omega arith, (omega arith, (omega arith, (omega arith, tt))))))) in rw word refl
