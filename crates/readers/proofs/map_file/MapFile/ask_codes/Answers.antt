use Rattle.std.proofs.Common.{◌≡◌, ℕ, ◌+◌, ◌<◌, ◌≤◌, true, false, ◌&&◌, ltb, leb, sym, subst, ◌∙◌, arith}
use Rattle.std.proofs.lemmas.Bool.Decides.{nat_tests}
use Rattle.readers.specs.Changes.{change_at, change_count}
use Rattle.sources.specs.Blocks.{Inside}
use Rattle.files.proofs.Obeying.{reader_obeys}
use Rattle.readers.proofs.Blocks.{block_uniform, block_differing}
use Rattle.readers.proofs.map_file.MapFile.ask_codes.Goals as goal

-- what the test of the next change tells
by : (i n c a : ℕ) → (ltb i n && leb c a) ≡ true → (i < n) × (c ≤ a)
by i n c a e = (grind (arith, nat_tests), grind (arith, nat_tests))

not_by : (i n c a : ℕ) → (ltb i n && leb c a) ≡ false → i < n → a < c
not_by i n c a e l = grind (arith, nat_tests)

pub returns-then-changes_by : goal.returns-then-changes_by
returns-then-changes_by g c =
    let k = g.K.Kind.format in
    let bs = c.args.self.now.bytes.now in
    let i = c.last_change-i.result in
    let more = by i (change_count k bs) (change_at k bs (i + 1)) c.span-first.result.1 (sym c.changes_by.ensures ∙ c.if-changes_by.true) in
    block_differing k bs (reader_obeys k bs c.args.self.now.accepted) c.args.block.level c.args.block.number c.span-first.result.0 c.span-first.result.1 i
    (subst (λ n. Inside n c.args.block.level c.args.block.number) c.pin_count.ensures (c.is_in.ensures.0 c.if-not-is_in.false)) c.span-first.ensures.0 c.span-first.ensures.1 c.last_change-i.ensures
    more.0 more.1

pub returns-else-changes_by : goal.returns-else-changes_by
returns-else-changes_by g c =
    let k = g.K.Kind.format in
    let bs = c.args.self.now.bytes.now in
    let i = c.last_change-i.result in
    block_uniform k bs (reader_obeys k bs c.args.self.now.accepted) c.args.block.level c.args.block.number c.span-first.result.0 c.span-first.result.1 i
    (subst (λ n. Inside n c.args.block.level c.args.block.number) c.pin_count.ensures (c.is_in.ensures.0 c.if-not-is_in.false)) c.span-first.ensures.0 c.span-first.ensures.1 c.last_change-i.ensures
    c.code_after.result c.code_after.ensures
    (not_by i (change_count k bs) (change_at k bs (i + 1)) c.span-first.result.1 (sym c.changes_by.ensures ∙ c.if-changes_by.false))
