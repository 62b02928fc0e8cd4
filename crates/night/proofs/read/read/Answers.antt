-- `read`: each way through the code keeps the promise. On a refusal nothing was written.
use Rattle.night.proofs.Promises.{read_refused, read_filled}
use Rattle.night.proofs.Decoding.{zeros_behind}
use Rattle.night.proofs.Refusing.{read_2, read_3, read_file}
use Rattle.std.proofs.lemmas.Result.{err_from_is_err_and}
use Rattle.night.specs.Reading.{jobs_in, table_in, holds_in}
use Rattle.sets.specs.declared.refusal.Refusal.TheVariants.{Alone}
use Rattle.sets.specs.declared.refusal.Fault.TheVariants.{TableLength, HoldLength}
use mathlib.Core.List.{List}
use Prim.Native.Nat.{ℕ}
use mathlib.Core.Path.{refl, sym, ◌∙◌, ap}
use Rattle.night.proofs.read.read.Goals as goal

pub returns-then-table-ne-TABLE_WORDS : goal.returns-then-table-ne-TABLE_WORDS
returns-then-table-ne-TABLE_WORDS c =
    let a = c.args in
    read_refused a.file.now a.table.now a.holds.now (Alone TableLength) (read_2 a.file.now a.table.now a.holds.now c.if-table-ne-TABLE_WORDS.true)

pub returns-then-holds-ne-SET_WORDS : goal.returns-then-holds-ne-SET_WORDS
returns-then-holds-ne-SET_WORDS c =
    let a = c.args in
    read_refused a.file.now a.table.now a.holds.now (Alone HoldLength) (read_3 a.file.now a.table.now a.holds.now c.if-table-ne-TABLE_WORDS.false c.if-holds-ne-SET_WORDS.true)

pub returns-in_err-file : goal.returns-in_err-file
returns-in_err-file c =
    let a = c.args in
    let p = err_from_is_err_and c.from_residual.result c.from_residual.ensures.1 in
    rw (p.1, p.2) (read_refused a.file.now a.table.now a.holds.now _ (read_file a.file.now a.table.now a.holds.now c.if-table-ne-TABLE_WORDS.false c.if-holds-ne-SET_WORDS.false ∙ sym c.in_err-file.ensures.refused))

pub returns : goal.returns
returns c =
    let a = c.args in
    let file = c.in_ok-file.file in
    let n = file.layout.n in
    let same = c.in_ok-file.ensures.same in
    let rows = c.fill_rows.ensures ∙ ap (λ (b : List ℕ). table_in b n) same in
    read_filled a.file.now a.table.now a.holds.now n _ _ (read_file a.file.now a.table.now a.holds.now c.if-table-ne-TABLE_WORDS.false c.if-holds-ne-SET_WORDS.false ∙ sym c.in_ok-file.ensures.refused)
    (file.jobs ∙ ap jobs_in same) (zeros_behind a.file.now n a.table.now c.fill_rows.new.rows _ rows refl c.if-table-ne-TABLE_WORDS.false file.layout.few (c.fill.ensures.after (λ y e. e)))
    (c.copy_from_slice.ensures.after ∙ c.holds.ensures ∙ ap (λ (b : List ℕ). holds_in b n) same)
