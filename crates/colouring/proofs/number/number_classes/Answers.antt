-- `number_classes`: the rows are packed and the set written as wide as the night, all classes are asked for, and those that lie in the room number the jobs.
use Rattle.std.proofs.Common.{sym, ◌∙◌, arith}
use Rattle.rows.proofs.Packing.{inside_width, rows_few}
use Rattle.rows.proofs.Rows.{first_words}
use Rattle.colouring.proofs.Colouring.{few_words, rows_room, count_few, is_told, night_set, told_numbers}
use Rattle.colouring.proofs.number.number_classes.Goals as goal

pub overflow_mul-packed : goal.overflow_mul-packed
overflow_mul-packed c = record { fits = let room = rows_room c.requires.accepted c.width_of-width.ensures in omega arith }

pub slice_bounds-packed-end : goal.slice_bounds-packed-end
slice_bounds-packed-end c = rows_room c.requires.accepted c.width_of-width.ensures

pub slice_bounds-rows-end : goal.slice_bounds-rows-end
slice_bounds-rows-end c = first_words _ _ (rows_room c.requires.accepted c.width_of-width.ensures)

pub pack-requires-clause-n_bound : goal.pack-requires-clause-n_bound
pack-requires-clause-n_bound c = (c.requires.accepted.few, few_words c.requires.accepted c.width_of-width.ensures)

pub pack-requires-clause-table_len : goal.pack-requires-clause-table_len
pack-requires-clause-table_len c = (c.requires.accepted.long, sym (first_words _ _ (rows_room c.requires.accepted c.width_of-width.ensures)))

pub slice_bounds-words-end : goal.slice_bounds-words-end
slice_bounds-words-end c = few_words c.requires.accepted c.width_of-width.ensures

pub slice_bounds-set-end : goal.slice_bounds-set-end
slice_bounds-set-end c = first_words _ _ (few_words c.requires.accepted c.width_of-width.ensures)

pub narrow-requires-clause-set_within : goal.narrow-requires-clause-set_within
narrow-requires-clause-set_within c = inside_width (sym (first_words _ _ (few_words c.requires.accepted c.width_of-width.ensures)) ∙ c.width_of-width.ensures) c.requires.inside

pub greedy_classes-requires-clause-set_in : goal.greedy_classes-requires-clause-set_in
greedy_classes-requires-clause-set_in c =
    let long = c.narrow.auto.part ∙ sym (first_words _ _ (few_words c.requires.accepted c.width_of-width.ensures)) in
    night_set c.requires.accepted c.width_of-width.ensures c.pack.ensures c.requires.inside c.narrow.new.part c.narrow.ensures long

pub unwrap-k-requires : goal.unwrap-k-requires
unwrap-k-requires c = is_told c.greedy_classes.result c.greedy_classes.ensures

pub invariant_of-number_jobs : goal.invariant_of-number_jobs
invariant_of-number_jobs c =
    let narrow = few_words c.requires.accepted c.width_of-width.ensures in
    record { narrow = narrow; room = omega (arith, rows_few narrow (count_few c.greedy_classes.ensures c.unwrap-k.ensures), c.greedy_classes.auto.classes) }

pub number_jobs-requires : goal.number_jobs-requires
number_jobs-requires c = (count_few c.greedy_classes.ensures c.unwrap-k.ensures, c.requires.numbers_len)

pub returns : goal.returns
returns c =
    let long = c.narrow.auto.part ∙ sym (first_words _ _ (few_words c.requires.accepted c.width_of-width.ensures)) in
    told_numbers c.requires.accepted c.width_of-width.ensures c.pack.ensures c.requires.inside c.narrow.new.part c.narrow.ensures long c.greedy_classes.ensures c.unwrap-k.ensures c.number_jobs.ensures
