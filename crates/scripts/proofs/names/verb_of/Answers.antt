use Rattle.std.proofs.Common.{codes, refl, arith}
use Rattle.std.proofs.lemmas.Slice.Eq.{text_from_reads}
use Rattle.scripts.specs.Grammar.{verb_of}
use Rattle.scripts.proofs.names.verb_of.Goals as goal

pub returns-in-tables : goal.returns-in-tables
unfolding verb_of
returns-in-tables c =
    let word = text_from_reads c.args.word.now (codes "tables") (omega arith) (omega arith, (omega arith, (omega arith, (omega arith, (omega arith, (omega arith, tt)))))) in rw word refl

pub returns-in-reopen : goal.returns-in-reopen
unfolding verb_of
returns-in-reopen c =
    let word = text_from_reads c.args.word.now (codes "reopen") (omega arith) (omega arith, (omega arith, (omega arith, (omega arith, (omega arith, (omega arith, tt)))))) in rw word refl
