use Rattle.std.proofs.Common.{◌+◌, ℕ, List, ap, ◌∙◌, subst}
use Rattle.model.specs.Diagrams.{listed}
use Rattle.listings.specs.Fronts.{PicksAll}
use Rattle.listings.specs.Rows.{filled, room}
use Rattle.listings.specs.Numbers.{NumbersFrom}
use Rattle.listings.proofs.Loans.{kept_on}
use Rattle.listings.proofs.Numbering.{numbers_none, numbers_place}
use Rattle.listings.proofs.numbers.number_from.Goals as goal

pub loop-place-preserved : goal.loop-place-preserved
loop-place-preserved c = record {
  loan = kept_on c.loop-place.invariant.loan c.pick_all.ensures.loan;
  numbers = λ same wide.
      let nodes = c.args.nodes.now in
      let n = c.args.pins in
      let d = c.loop-place.place in
      let rows = room c.args.front.now in
      let places = room c.args.order.now in
      let here = c.filled-here.result.now in
      let before = filled c.loop-place.order in
      let after = filled c.pick_all.new.order in
      let i = c.loop-place.invariant.numbers same wide in
      let picks = subst (λ (r : ℕ). PicksAll (listed nodes) d here r before after) c.loop-place.invariant.loan.room c.pick_all.ensures.picks in (
        ap room c.swap.ensures.x_after ∙ (c.advance.ensures.loan.room ∙ i.1),
        ap room c.swap.ensures.y_after ∙ i.0,
        λ order rest. i.2 order
            (subst (λ (is : List ℕ). NumbersFrom n nodes d is rows places before order) c.filled-here.ensures
            (numbers_place n nodes d here rows places before after (room c.loop-place.ahead) (filled c.advance.new.ahead) c.advance.new.seen order
            c.loop-place-test.true i.1 (c.advance.auto.seen ∙ (c.loop-place.auto.seen ∙ wide)) picks c.advance.ensures.advances
            (subst (λ (is : List ℕ). NumbersFrom n nodes (d + 1) is rows places after order) (ap filled c.swap.ensures.x_after) rest))),
      );
}

pub returns-clause-numbers : goal.returns-clause-numbers
returns-clause-numbers c = λ same wide.
    (c.loop-place.invariant.numbers same wide).2 (filled c.loop-place.order)
    (numbers_none c.args.pins c.args.nodes.now c.loop-place.place (filled c.loop-place.front) (room c.args.front.now) (room c.args.order.now) (filled c.loop-place.order) c.loop-place-test.false)
