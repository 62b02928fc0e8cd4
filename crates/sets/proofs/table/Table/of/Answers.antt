-- `of`: each length is asked for in its turn.
use mathlib.Core.Path.{sym, ◌∙◌}
use Rattle.sets.proofs.Judging.{first_applies, first_clear, clear_all}
use Rattle.sets.specs.Rules.{AllClear}
use Rattle.sets.proofs.Verdicts.{no1_applies, no1_clear, no2_applies, no2_clear}
use Rattle.sets.proofs.table.Table.of.Goals as goal

pub returns-then-n-gt-MOST_JOBS-clause-refused : goal.returns-then-n-gt-MOST_JOBS-clause-refused
returns-then-n-gt-MOST_JOBS-clause-refused c = sym (first_applies _ _ (no1_applies c.args.n c.if-n-gt-MOST_JOBS.true))

pub returns-then-words-n-clause-refused : goal.returns-then-words-n-clause-refused
returns-then-words-n-clause-refused c =
    sym (first_clear _ _ (no1_clear c.args.n c.if-n-gt-MOST_JOBS.false) ∙ first_applies _ _ (no2_applies c.args.n c.args.words.now c.if-words-n.true))

pub returns-clause-refused : goal.returns-clause-refused
unfolding AllClear
returns-clause-refused c = sym (clear_all _ (no1_clear c.args.n c.if-n-gt-MOST_JOBS.false, (no2_clear c.args.n c.args.words.now c.if-words-n.false, tt)))
