use Rattle.std.proofs.lemmas.Result.{err_from_is_err_and}
use Rattle.trees.proofs.Differ.{low_inside, high_inside}
use Rattle.trees.proofs.Fill.{level_below, block_below, level_fits, low_fits, high_fits, low_full, high_full, divide_done}
use Rattle.trees.proofs.build.divide.Goals as goal

pub overflow_add-low : goal.overflow_add-low
overflow_add-low g c = level_fits _ _ _ c.args.i c.args.draft.now.len c.requires.0 c.requires.1 (g.S.Source.few c.args.source.now)

pub overflow_mul-low : goal.overflow_mul-low
overflow_mul-low g c = low_fits _ _ _ c.args.i c.args.draft.now.len c.requires.0 c.requires.1 (g.S.Source.few c.args.source.now)

pub overflow_add-high : goal.overflow_add-high
overflow_add-high g c = high_fits _ _ _ c.args.i c.args.draft.now.len c.requires.0 c.requires.1 (g.S.Source.few c.args.source.now)

pub grow-requires : goal.grow-requires
grow-requires g c = low_inside _ _ _ (level_below _ _ _ c.args.i c.args.draft.now.len c.requires.0 c.requires.1) (block_below _ _ _ c.args.i c.args.draft.now.len c.requires.0 c.requires.1)

pub grow-requires-2 : goal.grow-requires-2
grow-requires-2 g c =
    high_inside _ _ _ (level_below _ _ _ c.args.i c.args.draft.now.len c.requires.0 c.requires.1) (block_below _ _ _ c.args.i c.args.draft.now.len c.requires.0 c.requires.1)

pub returns-clause-divided : goal.returns-clause-divided
returns-clause-divided g c =
    divide_done _ _ _ c.args.i c.args.draft.now.len c.requires.0 c.requires.1 _ c.in_ok-low.low c.grow.new.draft.len c.in_ok-low.ensures.grown _ c.in_ok-high.high c.grow-2.new.draft.len c.divided.result c.grow-2.new.draft.inside c.in_ok-high.ensures.grown c.divided.ensures

pub returns-in_err-low-clause-divided : goal.returns-in_err-low-clause-divided
returns-in_err-low-clause-divided g c =
    let p = err_from_is_err_and c.from_residual.result c.from_residual.ensures.1 in
    rw (p.1, p.2) (low_full _ _ _ c.args.i c.args.draft.now.len c.requires.0 c.requires.1 _ c.in_err-low.ensures.grown)

pub returns-in_err-high-clause-divided : goal.returns-in_err-high-clause-divided
returns-in_err-high-clause-divided g c =
    let p = err_from_is_err_and c.from_residual-in_err-high.result c.from_residual-in_err-high.ensures.1 in
    rw (p.1, p.2) (high_full _ _ _ c.args.i c.args.draft.now.len c.requires.0 c.requires.1 _ c.in_ok-low.low c.grow.new.draft.len c.in_ok-low.ensures.grown c.in_ok-low.ensures.keeps.1 _ c.in_err-high.ensures.grown)
