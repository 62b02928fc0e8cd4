-- `next`: the lowest bit is the next job, and leaves the word; a word that is 0 has none.
use mathlib.Core.Path.{refl}
use native.Mathlib.Omega.{arith}
use Rattle.rows.proofs.Onward.{left_none, left_first, left_goes}
use Rattle.rows.proofs.word.WordJobsIterator.next.Goals as goal

pub returns-then-self-eq0-clause-steps : goal.returns-then-self-eq0-clause-steps
returns-then-self-eq0-clause-steps c = (left_none c.args.self.now c.if-self-eq0.true, left_none c.args.self.now c.if-self-eq0.true)

pub returns-clause-steps : goal.returns-clause-steps
returns-clause-steps c = left_first c.args.self.now _ (omega arith) c.if-self-eq0.false refl refl

pub returns-clause-goes : goal.returns-clause-goes
returns-clause-goes c = left_goes (λ v. tt) c.args.self.now _ (left_first c.args.self.now _ (omega arith) c.if-self-eq0.false refl refl)
