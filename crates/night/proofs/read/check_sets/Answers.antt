-- `check_sets`: the words that were laid out are the file's table; the finder is asked for 5, then comes 26, and what is left is the table's own check.
use Rattle.std.proofs.lemmas.Result.{err_from_is_err_and}
use Rattle.night.proofs.Refusing.{sets_are, empty_list_is, unlisted, word_5, word_26, word_pairs}
use Rattle.night.specs.Reading.{empty_list}
use mathlib.Core.Bool.{false, ◌&&◌}
use mathlib.Core.Path.{◌≡◌, sym, ◌∙◌, ap₂}
use Rattle.night.proofs.read.check_sets.Goals as goal
use Rattle.night.proofs.read.check_sets.Goals.{else-file-via-then-file+else-is_empty, else-file-via-else-file}

pub returns-in_err-none_at : goal.returns-in_err-none_at
returns-in_err-none_at c =
    let file = c.args.file in
    let same = sets_are file.bytes.now file.list file.jobs c.fill_rows.ensures c.holds-holds.ensures in
    let p = err_from_is_err_and c.from_residual.result c.from_residual.ensures.1 in
    rw (p.1, p.2) (word_5 file.layout.listed file.layout.n c.fill_rows.new.rows c.holds-holds.result.words c.first_beyond.ensures _ c.in_err-none_at.ensures ∙ same)

pub returns-then-is_empty : goal.returns-then-is_empty
returns-then-is_empty c =
    let file = c.args.file in
    let holds = c.holds-holds.result.words in
    let same = sets_are file.bytes.now file.list file.jobs c.fill_rows.ensures c.holds-holds.ensures in
    let empty = sym (empty_list_is file.layout.listed holds c.is_empty.ensures) ∙ ap₂ ◌&&◌ c.if-file.true c.if-is_empty.true in
    word_26 file.layout.listed file.layout.n c.fill_rows.new.rows holds c.first_beyond.ensures c.in_ok-none_at.ensures empty ∙ same

pub returns : goal.returns
returns c =
    let file = c.args.file in
    let holds = c.holds-holds.result.words in
    let same = sets_are file.bytes.now file.list file.jobs c.fill_rows.ensures c.holds-holds.ensures in
    let none : empty_list file.layout.listed holds ≡ false = elim c.else-file.branch [
      | else-file-via-then-file+else-is_empty w ↦ sym (empty_list_is file.layout.listed holds w.is_empty.ensures) ∙ ap₂ ◌&&◌ w.if-file.true w.if-is_empty.false
      | else-file-via-else-file w ↦ unlisted holds w.if-file.false
    ] in
    c.check_pairs.ensures ∙ word_pairs file.layout.listed file.layout.n c.fill_rows.new.rows holds c.first_beyond.ensures c.in_ok-none_at.ensures none ∙ same
