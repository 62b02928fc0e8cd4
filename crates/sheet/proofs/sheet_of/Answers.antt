-- `sheet_of`: an accepted file's words go to Search, whose answer and whose set make the text; a refusal has its line.
use Rattle.std.proofs.Common.{◌∙◌, sym, refl, ◌*◌, take, arith}
use Rattle.std.proofs.lemmas.Result.{err_from_is_err_and}
use Rattle.sets.specs.Words.{jobs}
use Rattle.question.specs.Question.{asked, no_pins}
use Rattle.search.specs.Search.{search_answer}
use Rattle.sheet.proofs.Printing.{searched_is, night_is, read_accepts, read_refuses, length_taken, table_long, sheet_accepted, sheet_refused}
use Rattle.sheet.proofs.sheet_of.Goals as goal

pub returns-in_err-n : goal.returns-in_err-n
returns-in_err-n c =
    let p = err_from_is_err_and c.from_residual.result c.from_residual.ensures.1 in
    rw (p.1, p.2) (sheet_refused c.args.file.now c.in_err-n.field-0.0 (read_refuses c.args.file.now c.in_err-n.field-0.0 c.in_err-n.ensures))

pub overflow_mul-end : goal.overflow_mul-end
overflow_mul-end c = let few = (read_accepts c.args.file.now c.in_ok-n.ensures).few in omega arith

pub slice_bounds-table-end : goal.slice_bounds-table-end
slice_bounds-table-end c =
    let ok = read_accepts c.args.file.now c.in_ok-n.ensures in
    let few = ok.few in
    let long = table_long ok in
    omega arith

pub slice_bounds-search-end : goal.slice_bounds-search-end
slice_bounds-search-end c = sym (length_taken (read_accepts c.args.file.now c.in_ok-n.ensures))

pub returns-in_err-searched : goal.returns-in_err-searched
unfolding search_answer
returns-in_err-searched c =
    let n = c.in_ok-n.n in
    let q = asked n (take (4 * n) c.read.new.table) c.read.new.holds no_pins in
    let p = err_from_is_err_and c.from_residual-in_err-searched.result c.from_residual-in_err-searched.ensures.1 in
    rw (p.1, p.2) (night_is q refl refl c.in_err-searched.ensures.reply_is refl ∙ sheet_accepted (read_accepts c.args.file.now c.in_ok-n.ensures))

pub returns : goal.returns
returns c =
    let n = c.in_ok-n.n in
    let q = asked n (take (4 * n) c.read.new.table) c.read.new.holds no_pins in
    let found = c.in_ok-searched.ensures in
    searched_is n c.size.result c.in_ok-searched.searched (jobs c.from_words-2.result.words)
    ∙ night_is q c.size.ensures c.from_words.ensures found.reply_is (c.from_words-2.ensures ∙ found.result_is)
    ∙ sheet_accepted (read_accepts c.args.file.now c.in_ok-n.ensures)
