use Rattle.std.proofs.Common.{rules, ◌≡◌, ℕ, ◌≤◌, List, length, sym, refl, ap, ◌∙◌, subst, arith}
use Rattle.std.proofs.lemmas.Result.{err_from_is_err_and}
use Rattle.faults.specs.declared.fault.Fault.{Fault}
use Rattle.sources.specs.declared.block.Block.{Block}
use Rattle.sources.specs.Blocks.{whole}
use Rattle.trees.specs.declared.tree.Half.{Half}
use Rattle.trees.specs.declared.tree.Record.{Record}
use Rattle.trees.specs.declared.tree.Tree.{Tree}
use Rattle.trees.specs.Growth.{Grown, Full}
use Rattle.trees.specs.Mixed.{codes}
use Rattle.trees.specs.Records.{Written}
use Rattle.trees.proofs.Rows.{rows}
use Rattle.trees.proofs.Fill.{root_full, root_is, root_drafted, root_untouched, advanced_none, advanced_on, no_rows, level_end, written}
use Rattle.trees.proofs.build.build.Goals as goal

refused_root : (n : ℕ) (f : ℕ → ℕ) (t : List Record) (fault : Fault) (b : Block) → b ≡ whole → Full n f b.level b.number t 0 fault → Full n f 0 0 t 0 fault
refused_root n f t fault b e g = subst (λ (x : Block). Full n f x.level x.number t 0 fault) e g

grown_root : (n : ℕ) (f : ℕ → ℕ) (t u : List Record) (h : Half) (m : ℕ) (b : Block) → b ≡ whole → Grown n f b.level b.number t 0 h u m → Grown n f 0 0 t 0 h u m
grown_root n f t u h m b e g = subst (λ (x : Block). Grown n f x.level x.number t 0 h u m) e g

-- what is written into the draft's table is in the lent one
moved : (n : ℕ) (f : ℕ → ℕ) (t v u : List Record) (tree : Tree) → u ≡ v → Written n f t v tree → Written n f t u tree
moved n f t v u tree e w = subst (λ (x : List Record). Written n f t x tree) (sym e) w

pub returns-in_err-root : goal.returns-in_err-root
returns-in_err-root g c =
    let p = err_from_is_err_and c.from_residual.result c.from_residual.ensures.1 in
    rw (p.1, p.2) (root_full _ _ _ _ (refused_root _ _ _ _ _ c.whole.ensures c.in_err-root.ensures.grown))

pub loop-level-init : goal.loop-level-init
loop-level-init g c = (
  advanced_none _ _ _ 0 c.grow.new.draft.len (root_drafted _ _ _ _ c.in_ok-root.root c.grow.new.draft.len (grown_root _ _ _ _ _ _ _ c.whole.ensures c.in_ok-root.ensures.grown)),
  no_rows _ _,
  (refl, refl),
)

pub loop-level-preserved : goal.loop-level-preserved
loop-level-preserved g c =
    let below : c.loop-level.level ≤ g.S.Source.width c.args.source.now = omega (arith, c.pins-pins.ensures) in
    let i = c.loop-level.invariant in
    let e = c.in_ok-divide_row.ensures in (
      advanced_on _ _ _ _ _ _ _ _ c.loop-level.done _ i.0 e.divided,
      level_end _ _ _ c.loop-level.done _ c.loop-level.level i.0.drafted i.1 below,
      (
        e.keeps.0 ∙ i.2.0,
        e.keeps.1 ∙ i.2.1,
      ),
    )

pub returns : goal.returns
returns g c =
    let s = c.args.source.now in
    let n = g.S.Source.width s in
    let f = codes g.S.Of.End.code (g.S.Source.selection s) in
    let i = c.loop-level.invariant in
    let level : c.loop-level.level ≡ n = omega (arith, c.pins-pins.ensures) in
    let all : c.loop-level.done ≡ length (rows n f n) = i.1 ∙ ap (λ (x : ℕ). length (rows n f x)) level in
    let root = grown_root _ _ _ _ _ _ _ c.whole.ensures c.in_ok-root.ensures.grown in
    let same = sym (i.2.0 ∙ c.in_ok-root.ensures.keeps.0) in
    moved _ _ _ c.loop-level.draft.table.now _ _ (search rules)
    (written n f c.args.table.now c.loop-level.draft.table.now c.loop-level.done c.loop-level.draft.len i.0.drafted all c.loop-level.draft.inside (i.2.1 ∙ c.in_ok-root.ensures.keeps.1)
    (λ k w. i.0.untouched k w ∙ root_untouched n f c.args.table.now c.grow.new.draft.table.now c.in_ok-root.root c.grow.new.draft.len root k (omega (arith, i.0.more))) c.pins-pins.result c.in_ok-root.root (g.S.Source.few s) c.pins-pins.ensures (root_is n f c.args.table.now c.grow.new.draft.table.now c.in_ok-root.root c.grow.new.draft.len root))
