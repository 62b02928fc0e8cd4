-- `check_file`: the header's rules come before those of its sets.
use Rattle.std.proofs.lemmas.Result.{err_from_is_err_and}
use Rattle.night.proofs.Refusing.{sets_of}
use Rattle.night.specs.Reading.{header_rules, file_rules}
use Rattle.sets.specs.Rules.{first_given}
use Rattle.sets.proofs.Verdicts.{refused_before, passed_before}
use mathlib.Core.List.{List}
use Prim.Native.Nat.{ℕ}
use mathlib.Core.Path.{◌∙◌, ap}
use Rattle.night.proofs.read.check_file.Goals as goal

pub returns-in_err-file-clause-refused : goal.returns-in_err-file-clause-refused
unfolding file_rules
returns-in_err-file-clause-refused c =
    let bytes = c.args.bytes.now in
    let p = err_from_is_err_and c.from_residual.result c.from_residual.ensures.1 in
    rw (p.1, p.2) (refused_before _ (header_rules bytes) (sets_of bytes) c.in_err-file.ensures.refused)

pub returns-in_err-check_sets-clause-refused : goal.returns-in_err-check_sets-clause-refused
unfolding file_rules
returns-in_err-check_sets-clause-refused c =
    let bytes = c.args.bytes.now in
    let p = err_from_is_err_and c.from_residual-in_err-check_sets.result c.from_residual-in_err-check_sets.ensures.1 in
    rw (p.1, p.2) (c.in_err-check_sets.ensures ∙ ap (λ (b : List ℕ). first_given (sets_of b)) c.in_ok-file.ensures.same ∙ passed_before (header_rules bytes) (sets_of bytes) c.in_ok-file.ensures.refused)

pub returns-clause-refused : goal.returns-clause-refused
unfolding file_rules
returns-clause-refused c =
    let bytes = c.args.bytes.now in
    c.in_ok-check_sets.ensures ∙ ap (λ (b : List ℕ). first_given (sets_of b)) c.in_ok-file.ensures.same ∙ passed_before (header_rules bytes) (sets_of bytes) c.in_ok-file.ensures.refused
