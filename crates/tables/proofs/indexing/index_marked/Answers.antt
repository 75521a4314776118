use Rattle.std.proofs.Common.{ℕ, ◌+◌, List, sym, subst, arith}
use Rattle.tables.proofs.Entries.{Entering, enter_none, enter_skip, enter_live, enter_done}
use Rattle.tables.proofs.indexing.index_marked.Goals as goal
use Rattle.tables.proofs.indexing.index_marked.Goals.{then-mark-ne0, else-mark-ne0}

pub loop-slot-init : goal.loop-slot-init
loop-slot-init c = λ r room. enter_none c.args.nodes.now c.args.marks.now c.clear.new.entries c.clear.ensures

pub loop-slot-preserved : goal.loop-slot-preserved
loop-slot-preserved c = λ r room.
    let T = c.args.nodes.now in
    let E : List ℕ → Type 0 = λ x. Entering T c.args.marks.now x (c.loop-slot.slot + 1) in
    let before = c.loop-slot.invariant r (omega arith) in
    elim c.if-mark-ne0.branch [
      | then-mark-ne0 w ↦ subst E (sym w.index-is) (enter_live T c.args.marks.now c.loop-slot.index w.enter.new.index c.loop-slot.slot (omega arith) (omega arith) (omega arith) r w.if-mark-ne0.true w.enter.ensures before)
      | else-mark-ne0 w ↦ subst E (sym w.index-is) (enter_skip T c.args.marks.now c.loop-slot.index c.loop-slot.slot before (omega arith) w.if-mark-ne0.false)
    ]

pub returns : goal.returns
returns c = λ n long few room o r.
    enter_done n c.args.nodes.now c.args.marks.now c.loop-slot.index c.loop-slot.slot (omega arith) long few room o r (c.loop-slot.invariant r room)
