-- `widen`: the words past the part are empty.
use Rattle.rows.proofs.Packing.{widened}
use Rattle.rows.proofs.pack.widen.Goals as goal

pub returns : goal.returns
returns c = rw c.copy_from_slice.ensures.after (widened _ c.args.part.now c.requires)
