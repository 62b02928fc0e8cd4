-- `take_out`: one word is stored, with the job's bit out of it.
use native.Mathlib.Omega.{arith}
use Rattle.std.proofs.Common.{rules}
use Rattle.sets.proofs.Words.{jobs_taken}
use Rattle.rows.proofs.set.take_out.Goals as goal

pub returns : goal.returns
returns c = jobs_taken c.args.a.now c.args.j (omega arith) (record { each = search rules })
