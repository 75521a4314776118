use Rattle.std.proofs.Common.{length, subst, arith}
use Rattle.std.specs.Prelude.{option_to_list}
use Rattle.std.proofs.lemmas.List.{length_push}
use Rattle.std.proofs.lemmas.Iterator.{YieldsList, YieldsList-from_slice}
use Rattle.std.proofs.lemmas.Iterator.Consumers.{YieldsList-turn, YieldsList-end}
use Rattle.std.proofs.lemmas.Iterator.Adapters.{YieldsList-from_flatten}
use Rattle.model.specs.Lists.{held}
use Rattle.model.specs.Diagrams.{listed}
use Rattle.tables.proofs.Marks.{none_so_far, root_next, root_in, lines_done}
use Rattle.tables.proofs.Options.{option_yields, held_flat}
use Rattle.tables.proofs.marking.mark_roots.Goals as goal

pub loop-root-init : goal.loop-root-init
loop-root-init c = λ us dg long f. none_so_far (listed c.args.nodes.now) c.clear.new.entries c.clear.ensures

pub loop-root-preserved : goal.loop-root-preserved
loop-root-preserved c =
    let t =
    YieldsList-turn (subst (YieldsList _ (λ y. y.now) _) (held_flat c.args.lines.now)
    (YieldsList-from_flatten _ _ (λ y. y.now) option_to_list (λ x j b. option_yields x.now j b.0 b.1) (YieldsList-from_slice c.args.lines.now cc) (cc) (cc) (cc)))
    c.loop-root.yielded _ c.loop-root.yielded_by _ _ c.in-Some.root c.in-Some.is c.next.ensures.steps in
    λ us dg long f.
    root_next (listed c.args.nodes.now) (held c.args.lines.now) (length c.loop-root.yielded) _ c.loop-root.marks c.mark_from.new.marks c.in-Some.root.now t.0 t.1 (length_push c.loop-root.yielded c.in-Some.root)
    (c.mark_from.ensures us dg (omega arith) (f c.in-Some.root.now (root_in (held c.args.lines.now) (length c.loop-root.yielded) c.in-Some.root.now t.0 t.1)))
    (c.loop-root.invariant us dg (omega arith) f)

pub returns : goal.returns
returns c =
    let e =
    YieldsList-end (subst (YieldsList _ (λ y. y.now) _) (held_flat c.args.lines.now)
    (YieldsList-from_flatten _ _ (λ y. y.now) option_to_list (λ x j b. option_yields x.now j b.0 b.1) (YieldsList-from_slice c.args.lines.now cc) (cc) (cc) (cc)))
    c.loop-root.yielded _ c.loop-root.yielded_by _ _ c.in-None.is c.next.ensures.steps in
    λ us dg long f.
    lines_done c.args.pins c.args.nodes.now us c.args.lines.now (length c.loop-root.yielded) c.loop-root.marks (let l = e.1 in omega arith) dg f (c.loop-root.invariant us dg long f)
