-- `first_in_row`: the first call that returns true ends the loop; every call before it returned false. t is what the calls answer.
use Rattle.std.proofs.Common.{sym, ◌∙◌, arith, below_more}
use Rattle.sets.proofs.places.first_in_row.Goals as goal

pub returns-then-test : goal.returns-then-test
returns-then-test g c = λ t says.
    record { within = c.loop-column-test.true; holds = sym (says c.loop-column.column c.test.result c.loop-column-test.true c.test.ensures) ∙ c.if-test.true; earlier = c.loop-column.invariant t says }

pub loop-column-preserved : goal.loop-column-preserved
loop-column-preserved g c = λ t says.
    below_more _ _ (c.loop-column.invariant t says) (sym (says c.loop-column.column c.test.result c.loop-column-test.true c.test.ensures) ∙ c.if-test.false)

pub returns : goal.returns
returns g c = λ t says k h. c.loop-column.invariant t says k (omega arith)
