use Rattle.std.proofs.Common.{◌∙◌, sym, rules}
use Rattle.scripts.proofs.Wording.{no_word, word_ends, word_stands}
use Rattle.scripts.proofs.word.next_word.Goals as goal

pub returns-in_err-start : goal.returns-in_err-start
returns-in_err-start c = rw c.from_residual.ensures (no_word c.args.text.now (sym c.start_of.ensures ∙ c.in_err-start.was))

pub returns-in-0 : goal.returns-in-0
returns-in-0 c =
    word_ends c.args.text.now c.split_at.result.1.now c.in_ok-start.start (sym c.in_ok-start.ensures) c.split_at.ensures.back
    (rw (sym c.end_of.ensures) (sym c.unwrap_or.ensures ∙ c.in-0.is))

pub returns-in_default : goal.returns-in_default
returns-in_default c =
    word_stands c.args.text.now c.split_at.result.1.now c.in_ok-start.start (sym c.in_ok-start.ensures) c.split_at.ensures.back
    c.unwrap_or.result (rw (sym c.end_of.ensures) c.unwrap_or.ensures) (search rules) _ _ c.split_at-in_default.ensures.front c.split_at-in_default.ensures.back
