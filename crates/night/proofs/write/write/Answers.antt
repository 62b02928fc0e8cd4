-- `write`: each way through the code keeps the promise. On a refusal nothing was written.
use Rattle.std.proofs.lemmas.Result.{err_from_is_err_and}
use Rattle.night.proofs.Promises.{write_refused, write_done}
use Rattle.night.proofs.Refusing.{sets_same, held_is, size_is, write_sized, sized_3, sized_table, sized_27, sized_none}
use Rattle.night.specs.Format.{held, bytes, file_length}
use Rattle.night.specs.Versions.{one}
use Rattle.sets.specs.declared.refusal.Refusal.TheVariants.{Alone}
use Rattle.sets.specs.declared.refusal.Fault.TheVariants.{HoldLength, ShortOutput}
use lib.ListN.{length, drop}
use mathlib.Core.List.{List, ◌++◌}
use Prim.Native.Nat.{ℕ, ◌≤◌, ◌<◌}
use mathlib.Core.Path.{◌≡◌, refl, sym, ◌∙◌, ap, ap₂, subst}
use Rattle.night.proofs.write.write.Goals as goal

pub returns-in_err-table : goal.returns-in_err-table
returns-in_err-table c =
    let a = c.args in
    let p = err_from_is_err_and c.from_residual.result c.from_residual.ensures.1 in
    rw (p.1, p.2) (write_refused one a.n a.table.now a.holds.now a.out.now _ (write_sized one a.n a.table.now a.holds.now a.out.now _ c.in_err-table.ensures.refused))

pub returns-then-holds-ne-SET_WORDS : goal.returns-then-holds-ne-SET_WORDS
returns-then-holds-ne-SET_WORDS c =
    let a = c.args in
    write_refused one a.n a.table.now a.holds.now a.out.now (Alone HoldLength) (sized_3 one a.n a.table.now a.holds.now a.out.now c.in_ok-table.ensures.refused c.if-holds-ne-SET_WORDS.true)

pub returns-in_err-check : goal.returns-in_err-check
returns-in_err-check c =
    let a = c.args in
    let made = c.in_ok-table.ensures.made in
    let p = err_from_is_err_and c.from_residual-in_err-check.result c.from_residual-in_err-check.ensures.1 in
    rw (p.1, p.2) (write_refused one a.n a.table.now a.holds.now a.out.now _ (sized_table one a.n a.table.now a.holds.now a.out.now c.in_ok-table.ensures.refused c.if-holds-ne-SET_WORDS.false _
    (c.in_err-check.ensures ∙ sets_same made.0 (ap (λ b. b.now) made.1) c.from_words-holds.ensures)))

pub returns-then-out-length : goal.returns-then-out-length
returns-then-out-length c =
    let a = c.args in
    let made = c.in_ok-table.ensures.made in
    let passed = c.in_ok-check.ensures ∙ sets_same made.0 (ap (λ b. b.now) made.1) c.from_words-holds.ensures in
    let long = size_is a.n c.length-length.ensures.0 c.is_empty.ensures c.from_words-holds.ensures in
    write_refused one a.n a.table.now a.holds.now a.out.now (Alone ShortOutput) (sized_27 one a.n a.table.now a.holds.now a.out.now c.in_ok-table.ensures.refused c.if-holds-ne-SET_WORDS.false passed (subst (λ (x : ℕ). length a.out.now < x) long c.if-out-length.true))

pub put_file-requires : goal.put_file-requires
put_file-requires c =
    let made = c.in_ok-table.ensures.made in
    let long = size_is c.args.n c.length-length.ensures.0 c.is_empty.ensures refl in
    (sym made.0, held_is c.from_words-holds.result.words c.is_empty.ensures, subst (λ (x : ℕ). x ≤ length c.args.out.now) long c.if-out-length.false)

pub returns : goal.returns
returns c =
    let a = c.args in
    let made = c.in_ok-table.ensures.made in
    let table : c.in_ok-table.table.words.now ≡ a.table.now = ap (λ b. b.now) made.1 in
    let holds = c.from_words-holds.ensures in
    let passed = c.in_ok-check.ensures ∙ sets_same made.0 table holds in
    let long = size_is a.n c.length-length.ensures.0 c.is_empty.ensures holds in
    write_done one a.n a.table.now a.holds.now a.out.now c.length-length.result _
    (sized_none one a.n a.table.now a.holds.now a.out.now c.in_ok-table.ensures.refused c.if-holds-ne-SET_WORDS.false passed (subst (λ (x : ℕ). x ≤ length a.out.now) long c.if-out-length.false)) long
    (c.put_file.ensures ∙ ap₂ (λ (t h : List ℕ). bytes a.n t h ++ drop (file_length a.n (held h)) a.out.now) table holds)
