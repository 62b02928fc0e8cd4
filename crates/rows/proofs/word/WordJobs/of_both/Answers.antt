-- `of_both`: as `of`, with what the word has in both sets.
use native.Mathlib.Omega.{arith}
use Rattle.rows.proofs.Onward.{word_of_both}
use Rattle.rows.proofs.word.WordJobs.of_both.Goals as goal

pub returns : goal.returns
returns c = word_of_both c.args.a.now c.args.b.now c.requires.2 c.args.q c.at.result (omega arith) c.at.ensures.first c.at.ensures.rest
