-- `put_in`: one word is stored, with the job's bit in it.
use native.Mathlib.Omega.{arith}
use Rattle.std.proofs.Common.{rules}
use Rattle.sets.proofs.Words.{jobs_put}
use Rattle.rows.proofs.set.put_in.Goals as goal

pub returns : goal.returns
returns c = jobs_put c.args.a.now c.args.j (omega arith) (record { each = search rules })
