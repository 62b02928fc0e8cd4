-- `lowest_of`: the first word that has a job has the lowest; past the last word there is none.
use mathlib.Core.Path.{sym, ◌∙◌}
use native.Mathlib.Omega.{arith}
use Rattle.rows.proofs.Onward.{onward_all, onward_none}
use Rattle.rows.proofs.Sizes.{lowest_first, lowest_none}
use Rattle.rows.proofs.set.lowest_of.Goals as goal

pub loop-q-init : goal.loop-q-init
loop-q-init c = onward_all c.args.low c.requires.since

pub returns-in-Some : goal.returns-in-Some
returns-in-Some c = lowest_first _ (sym c.of.ensures ∙ c.loop-q.invariant) c.in-Some.ensures.steps

pub returns : goal.returns
returns c = lowest_none (sym c.loop-q.invariant ∙ onward_none c.args.a.now c.loop-q.q (omega arith))
