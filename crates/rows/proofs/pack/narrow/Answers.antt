-- `narrow`: no job of the set is past the part.
use mathlib.Core.Path.{◌∙◌, ap}
use lib.ListN.{length}
use Rattle.sets.specs.Words.{jobs}
use Rattle.rows.proofs.Packing.{first_narrowed}
use Rattle.rows.proofs.pack.narrow.Goals as goal

pub returns : goal.returns
returns c = ap jobs c.copy_from_slice.ensures.after ∙ first_narrowed (length c.args.part.now) c.args.set.words c.requires.set_within
