-- `colour`: each way through the code keeps the promise. What the check found is what the rules give; where they give nothing, the question is answerable.
use Rattle.std.proofs.Common.{[], sym, subst}
use Rattle.std.proofs.lemmas.Result.{err_from_is_err_and}
use Rattle.question.specs.Question.{asked}
use Rattle.question.proofs.Starting.{candidates_inside}
use Rattle.sets.specs.Tables.{Inside}
use Rattle.colouring.proofs.Colouring.{check_gives, colour_passes, says_refused, says_coloured}
use Rattle.colouring.proofs.colour.Goals as goal

pub returns-in_err-check_question : goal.returns-in_err-check_question
returns-in_err-check_question c =
    let p = err_from_is_err_and c.from_residual.result c.from_residual.ensures.1 in
    rw (p.1, p.2) (says_refused _ _ c.in_err-check_question.field-0.0 (check_gives _ _ _ c.in_err-check_question.ensures))

pub start_of-start-requires : goal.start_of-start-requires
start_of-start-requires c = (colour_passes _ c.args.classes.now (check_gives _ _ [] c.in_ok-check_question.ensures)).0

pub number_classes-requires-clause-accepted : goal.number_classes-requires-clause-accepted
number_classes-requires-clause-accepted c = (colour_passes _ c.args.classes.now (check_gives _ _ [] c.in_ok-check_question.ensures)).0.accepted_table

pub number_classes-requires-clause-inside : goal.number_classes-requires-clause-inside
number_classes-requires-clause-inside c =
    subst (Inside c.args.n) (sym c.start_of-start.ensures.candidates_are) (candidates_inside (asked c.args.n c.args.table.now c.args.holds.now c.args.pins.now))

pub number_classes-requires-clause-numbers_len : goal.number_classes-requires-clause-numbers_len
number_classes-requires-clause-numbers_len c = (colour_passes _ c.args.classes.now (check_gives _ _ [] c.in_ok-check_question.ensures)).1

pub returns : goal.returns
returns c = says_coloured (asked c.args.n c.args.table.now c.args.holds.now c.args.pins.now) c.args.classes.now (check_gives _ _ [] c.in_ok-check_question.ensures) c.start_of-start.ensures.candidates_are c.number_classes.ensures
