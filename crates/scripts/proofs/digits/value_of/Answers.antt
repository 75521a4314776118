use Rattle.std.proofs.Common.{◌∙◌, sym, ap, Err, rules, arith}
use Rattle.std.proofs.lemmas.Result.{err_from_is_err_and}
use Rattle.scripts.proofs.Counting.{as_none, as_some, no_digit, refused, more, none_left}
use Rattle.scripts.proofs.digits.value_of.Goals as goal

pub returns-in_err-digit-clause-value : goal.returns-in_err-digit-clause-value
returns-in_err-digit-clause-value c =
    let e = err_from_is_err_and c.from_residual.result c.from_residual.ensures.1 in
    let n = as_none c.to_digit.result _ _ c.to_digit.ensures.value (sym c.in_err-digit.ensures.value) in
    rw (e.1, e.2) (sym (ap Err n.0)
    ∙ no_digit c.args.base c.args.most c.loop-letter.value c.args.digits.now c.loop-letter.letter-index c.from.result c.from.ensures c.loop-letter-test.true n.1
    ∙ c.loop-letter.invariant.so_far)

pub returns-in_err-value-clause-value : goal.returns-in_err-value-clause-value
returns-in_err-value-clause-value c =
    let e = err_from_is_err_and c.from_residual-in_err-value.result c.from_residual-in_err-value.ensures.1 in
    let d = as_some c.to_digit.result _ _ c.to_digit.ensures.value (sym c.in_ok-digit.ensures.value) in
    rw (e.1, e.2) (sym (sym c.loop-letter.invariant.so_far
    ∙ refused c.args.base c.args.most c.loop-letter.value c.args.digits.now c.loop-letter.letter-index c.from.result c.from.ensures c.loop-letter-test.true c.in_ok-digit.digit d.1 d.0 _ (sym c.in_err-value.ensures)))

pub loop-letter-preserved : goal.loop-letter-preserved
loop-letter-preserved c =
    let d = as_some c.to_digit.result _ _ c.to_digit.ensures.value (sym c.in_ok-digit.ensures.value) in
    record {
      so_far = sym (sym c.loop-letter.invariant.so_far
          ∙ more c.args.base c.args.most c.loop-letter.value c.args.digits.now c.loop-letter.letter-index c.from.result c.from.ensures c.loop-letter-test.true c.in_ok-digit.digit d.1 d.0 _ (sym c.in_ok-value.ensures));
      small = search rules;
    }

pub returns-clause-value : goal.returns-clause-value
returns-clause-value c = none_left c.args.base c.args.most c.loop-letter.value c.args.digits.now c.loop-letter.letter-index (omega (arith, c.loop-letter-test.false)) ∙ c.loop-letter.invariant.so_far
