use Rattle.std.proofs.Common.{◌+◌, ◌-◌, ◌<◌, ◌≤◌}
use Rattle.readers.specs.Changes.{change_at, change_count}
use Rattle.readers.proofs.map_file.MapFile.last_change.Given as goal

abbrev pub invariant-loop-low : goal.invariant-loop-low
invariant-loop-low g l =
    (l.low < l.high) × (l.high ≤ change_count g.K.Kind.format l.self.bytes.now + 1) × (change_at g.K.Kind.format l.self.bytes.now l.low ≤ l.address)
    × (l.high ≤ change_count g.K.Kind.format l.self.bytes.now → l.address < change_at g.K.Kind.format l.self.bytes.now l.high)

abbrev pub decreases-loop-low : goal.decreases-loop-low
decreases-loop-low g l = l.high - l.low
