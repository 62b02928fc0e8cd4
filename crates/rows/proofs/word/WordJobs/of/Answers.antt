-- `of`: the jobs of word q come before those of the words after it.
use native.Mathlib.Omega.{arith}
use Rattle.rows.proofs.Onward.{word_of}
use Rattle.rows.proofs.word.WordJobs.of.Goals as goal

pub returns : goal.returns
returns c = word_of c.args.set.now c.args.q c.at.result (omega arith) c.at.ensures.first c.at.ensures.rest
