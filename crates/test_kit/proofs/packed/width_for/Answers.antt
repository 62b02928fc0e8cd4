-- `width_for`: the definition, computed; n is 1 to 256 there.
use Rattle.std.proofs.Common.{arith}
use Rattle.rows.specs.Rows.{width_of}
use Rattle.test_kit.proofs.packed.width_for.Goals as goal

pub returns : goal.returns
unfolding width_of
returns c = (omega arith, omega arith, λ few. omega arith)
