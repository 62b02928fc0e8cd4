-- `both`: a bit of `a & b` is set where those of a and b are.
use Rattle.std.proofs.Common.{rules, bit_and}
use Rattle.sets.proofs.Words.{each_both}
use Rattle.sets.proofs.jobset.JobSet.both.Goals as goal

pub returns : goal.returns
returns c = each_both c.args.self.words c.args.other.words _ (search rules) (c.word_by_word.ensures bit_and (λ a b w m n e. search rules))
