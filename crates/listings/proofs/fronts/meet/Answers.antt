use Rattle.std.proofs.Common.{ℕ, [], ◌∷◌, ◌++◌, sym, ap, ◌∙◌}
use Rattle.model.specs.declared.Branch.TheVariants.{Node as node}
use Rattle.listings.specs.Rows.{filled, room}
use Rattle.listings.proofs.Meeting.{meets_end, meets_outside, meets_known, meets_new}
use Rattle.listings.proofs.fronts.meet.Goals as goal
use Rattle.listings.proofs.fronts.meet.Goals.{else-at-seen-via-then-at-seen+else-seen-at-eq0, else-at-seen-via-else-at-seen}

pub returns-in_default-clause-meets : goal.returns-in_default-clause-meets
returns-in_default-clause-meets c = meets_end (room c.args.front.now) (filled c.args.front.now) c.args.seen.now c.args.branch c.in_default.field-0 c.in_default.is

pub returns-then-seen-at-eq0-clause-meets : goal.returns-then-seen-at-eq0-clause-meets
returns-then-seen-at-eq0-clause-meets c =
    let is = filled c.args.front.now in
    meets_new (room c.args.front.now) is c.args.seen.now c.args.branch c.from-at.result (c.in-Node.is ∙ ap node (sym c.from-at.ensures)) c.if-seen-at-eq0.true (filled c.push.new.self)
    (λ l. c.push.ensures.filled l ∙ ap (λ (x : ℕ). is ++ (x ∷ [])) (c.from.ensures ∙ sym c.from-at.ensures))

pub returns-else-at-seen-clause-meets : goal.returns-else-at-seen-clause-meets
returns-else-at-seen-clause-meets c =
    let size = room c.args.front.now in
    let is = filled c.args.front.now in
    let e = c.in-Node.is ∙ ap node (sym c.from-at.ensures) in
    elim c.else-at-seen.branch [
      | else-at-seen-via-then-at-seen+else-seen-at-eq0 w ↦ meets_known size is c.args.seen.now c.args.branch c.from-at.result e w.if-seen-at-eq0.false
      | else-at-seen-via-else-at-seen w ↦ meets_outside size is c.args.seen.now c.args.branch c.from-at.result e w.if-at-seen.false
    ]
