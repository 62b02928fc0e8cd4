-- `row`: the four words at 4r are the row.
use Rattle.std.proofs.Common.{◌≡◌, ℕ, ◌+◌, ◌-◌, ◌*◌, ap, ◌∙◌, arith, take, drop}
use Rattle.sets.specs.Words.{jobs, row_of, row_jobs}
use Rattle.sets.proofs.jobset.JobSet.row.Goals as goal

pub returns : goal.returns
unfolding row_jobs row_of
returns c =
    let r = c.args.r in
    let four : 4 * r + 4 - 4 * r ≡ 4 = omega arith in
    ap jobs (c.from_words.ensures ∙ ap (λ (k : ℕ). take k (drop (4 * r) c.args.table.now)) four)
