-- `minus`: a bit of `a & !b` is set where that of a is and that of b is not.
use Rattle.std.proofs.Common.{rules}
use Rattle.sets.proofs.Words.{and_not, each_minus}
use Rattle.sets.proofs.jobset.JobSet.minus.Goals as goal

pub returns : goal.returns
returns c = each_minus c.args.self.words c.args.other.words _ (search rules) (c.word_by_word.ensures and_not (λ a b w m n e. search rules))
