-- `low_of`: a word that is 0 has no job.
use Rattle.rows.proofs.Sizes.{since_more}
use Rattle.test_kit.proofs.packed.low_of.Goals as goal

pub loop-q-preserved : goal.loop-q-preserved
loop-q-preserved c = since_more c.args.part.now c.loop-q.q c.loop-q.invariant c.if-word-ne0.false
