use Rattle.std.proofs.Common.{◌≡◌, ◌-◌, get_or, subst, arith, rules}
use Rattle.tables.specs.States.{Live}
use Rattle.tables.proofs.Entries.{not_full}
use Rattle.tables.proofs.Fairness.{added_one, added_there, added_none, added_put}
use Rattle.tables.proofs.adding.Growing.node_for.Goals as goal

pub returns-then-eq-clause-adds : goal.returns-then-eq-clause-adds
returns-then-eq-clause-adds c = λ st small fl fh.
    added_one c.args.self.now.pins c.args.place c.args.low c.args.high c.args.self.now.nodes.now c.args.self.now.marks.now c.args.self.now.index.now st small fl fh (search rules)

pub returns-in-At-clause-adds : goal.returns-in-At-clause-adds
returns-in-At-clause-adds c = λ st small fl fh.
    let p = c.in-At.ensures in
    let e : get_or c.args.self.now.index.now p.2.0 0 - 1 ≡ c.in-At.i = let q = p.2.1 in omega arith in
    added_there c.args.self.now.pins c.args.place c.args.low c.args.high c.args.self.now.nodes.now c.args.self.now.marks.now c.args.self.now.index.now st small fl fh c.in-At.i
    (subst (Live c.args.self.now.marks.now) e (st.indexed.entries p.2.0 (let q = p.2.1 in omega arith))) p.1

pub returns-in-Full-clause-adds : goal.returns-in-Full-clause-adds
returns-in-Full-clause-adds c = λ st small fl fh. absurd (not_full c.args.self.now.pins c.args.self.now.nodes.now c.args.self.now.marks.now c.args.self.now.index.now _ st c.in-Full.ensures)

pub returns-in_err-slot-in-Vacant-clause-adds : goal.returns-in_err-slot-in-Vacant-clause-adds
returns-in_err-slot-in-Vacant-clause-adds c = λ st small fl fh.
    rw c.from_residual.ensures
    (added_none c.args.self.now.pins c.args.place c.args.low c.args.high c.args.self.now.nodes.now c.args.self.now.marks.now c.args.self.now.index.now st small fl fh
    (search rules) c.in-Vacant.at c.in-Vacant.ensures c.in_err-slot-in-Vacant.ensures)

pub returns-in_ok-slot-in-Vacant-clause-adds : goal.returns-in_ok-slot-in-Vacant-clause-adds
returns-in_ok-slot-in-Vacant-clause-adds c = λ st small fl fh.
    let f = c.in_ok-slot-in-Vacant.ensures in
    added_put c.args.self.now.pins c.args.place c.args.low c.args.high c.args.self.now.nodes.now c.args.self.now.marks.now c.args.self.now.index.now st small fl fh
    (search rules) c.in-Vacant.at c.in-Vacant.ensures c.in_ok-slot-in-Vacant.slot f.0 f.1
    c.occupy.new.self.nodes.now c.occupy.new.self.marks.now c.occupy.new.self.index.now c.occupy.ensures.nodes c.occupy.ensures.marks c.occupy.ensures.index
