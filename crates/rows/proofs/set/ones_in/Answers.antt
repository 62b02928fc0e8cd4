-- `ones_in`: the ones of what the operation gives of a word are the word's jobs that are kept.
use native.Mathlib.Omega.{arith}
use lib.Count.{ones-le}
use Rattle.rows.proofs.Sizes.{kept_word}
use Rattle.rows.proofs.set.ones_in.Goals as goal

pub returns-clause-few : goal.returns-clause-few
returns-clause-few g c = ones-le 64 c.of.result (omega arith)

pub returns-clause-counted : goal.returns-clause-counted
returns-clause-counted g c = λ t k. kept_word t k c.args.a.now c.args.b.now c.args.q c.of.result (omega arith) (record { each = c.type_inv.b }) (omega arith) c.of.ensures
