-- `row`: as many words from the row's start on are the row.
use native.Mathlib.Omega.{arith}
use Rattle.rows.proofs.Rows.{part_is_set}
use Rattle.rows.proofs.packed.Rows.row.Goals as goal

pub returns : goal.returns
returns c = part_is_set c.args.self.width c.args.y c.args.self.words.now (omega arith) (omega arith)
