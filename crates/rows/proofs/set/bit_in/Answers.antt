-- `bit_in`: a job is bit j % 64 of word j / 64, and no bit of another.
use Rattle.sets.proofs.Words.{one_here, none_here}
use Rattle.rows.proofs.set.bit_in.Goals as goal

pub returns-then-j-q : goal.returns-then-j-q
returns-then-j-q c = one_here c.args.j c.args.q c.if-j-q.true

pub returns : goal.returns
returns c = none_here c.args.j c.args.q c.if-j-q.false
