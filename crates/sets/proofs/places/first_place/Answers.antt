-- `first_place`: the first row that has a column ends the loop; the test holds nowhere in the rows before it. t is what the calls answer.
use Rattle.std.proofs.Common.{sym, arith}
use Rattle.sets.proofs.Finder.{place_none, found_place, rows_more}
use Rattle.sets.proofs.places.first_place.Goals as goal

pub returns-in-Some : goal.returns-in-Some
returns-in-Some g c = λ t says.
    let r = c.loop-row.row in
    let first = c.in-Some.ensures (t r) (λ k b l. says r k b c.loop-row-test.true l) in
    sym (found_place {t = t} (record { row = c.loop-row-test.true; column = first.within; holds = first.holds; earlier_row = c.loop-row.invariant t says; earlier_column = first.earlier }))

pub loop-row-preserved : goal.loop-row-preserved
loop-row-preserved g c = λ t says.
    let r = c.loop-row.row in
    rows_more t c.args.columns r (c.loop-row.invariant t says) (c.in_default.ensures (t r) (λ k b l. says r k b c.loop-row-test.true l))

pub returns : goal.returns
returns g c = λ t says.
    sym (place_none t c.args.rows c.args.columns (λ q k h. c.loop-row.invariant t says q k (omega arith)))
