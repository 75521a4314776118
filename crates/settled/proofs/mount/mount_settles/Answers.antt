use Rattle.settled.proofs.Chains.{mount_settled}
use Rattle.settled.proofs.mount.mount_settles.Goals as goal

pub returns : goal.returns
returns c =
    mount_settled _ c.read_mounted.result c.in_ok-read.ensures.same c.read_mounted.ensures
