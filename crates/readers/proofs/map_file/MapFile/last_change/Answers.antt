use Rattle.std.proofs.Common.{◌≡◌, ℕ, ◌+◌, ◌<◌, sym, subst, arith}
use Rattle.readers.specs.Changes.{change_at, change_count}
use Rattle.files.specs.Formats.{code_of}
use Rattle.files.proofs.Lasts.{told_last}
use Rattle.files.proofs.Obeying.{reader_obeys}
use Rattle.readers.proofs.Rising.{next_alone}
use Rattle.readers.proofs.Stepping.{steps_of}
use Rattle.readers.proofs.map_file.MapFile.last_change.Goals as goal

pub returns : goal.returns
returns g c =
    let k = g.K.Kind.format in
    let bs = c.args.self.now.bytes.now in
    let inv = c.loop-low.invariant in
    let steps = steps_of k bs (reader_obeys k bs c.args.self.now.accepted).entries in
    let e : c.loop-low.high ≡ c.loop-low.low + 1 = omega arith in
    sym (told_last (change_at k bs) steps.start c.args.address (change_count k bs) c.loop-low.low
    (next_alone (change_at k bs) (code_of k bs) (change_count k bs) steps c.args.address c.loop-low.low (omega arith) inv.2
    (λ h. subst (λ (x : ℕ). c.args.address < change_at k bs x) e (inv.3 (omega arith)))))
