-- `put_file`: header, rows and holds stand one behind the other; the flag says whether some job is held.
use Rattle.night.proofs.Encoding.{put_bytes, put_unlisted, put_listed}
use Rattle.night.proofs.Decoding.{length_least, length_flagged}
use Rattle.night.specs.Format.{header, width, set_bytes, held, file_length}
use Rattle.sets.specs.Words.{jobs}
use lib.Seq.{sets}
use mathlib.Core.Bool.{Bool, cond}
use native.Mathlib.Omega.{arith}
use Prim.Native.Nat.{ℕ}
use mathlib.Core.Path.{sym, ◌∙◌, ap}
use Rattle.night.proofs.write.put_file.Goals as goal

pub put_header-requires : goal.put_header-requires
put_header-requires c =
    let k = length_least c.args.layout.n (held c.args.holds.words) in
    omega arith

pub put_rows-requires : goal.put_rows-requires
put_rows-requires c =
    let k = length_least c.args.layout.n (held c.args.holds.words) in
    (c.requires.0, omega arith)

pub slice_bounds-put_set-end : goal.slice_bounds-put_set-end
slice_bounds-put_set-end c =
    let n = c.args.layout.n in
    let k = ap (file_length n) (sym c.requires.1 ∙ c.if-layout.true) ∙ length_flagged n in
    omega arith

pub returns-then-layout : goal.returns-then-layout
returns-then-layout c =
    let a = c.args in
    let n = a.layout.n in
    let w = width n in
    let k = ap (file_length n) (sym c.requires.1 ∙ c.if-layout.true) ∙ length_flagged n in
    put_bytes c.put_rows.new.out c.row_at-at.result _ w (jobs a.holds.words) c.put_set.new.out (omega arith) (omega arith) c.put_set.ensures
    ∙ ap (λ (at : ℕ). sets c.put_rows.new.out at (set_bytes w (jobs a.holds.words))) c.row_at-at.ensures
    ∙ put_listed n a.table.words.now a.holds.words a.out.now c.put_header.new.out c.put_rows.new.out c.requires.2 (sym c.requires.1 ∙ c.if-layout.true) (c.put_header.ensures ∙ ap (λ (b : Bool). sets a.out.now 0 (header n (cond b 1 0))) c.if-layout.true) c.put_rows.ensures

pub returns-else-layout : goal.returns-else-layout
returns-else-layout c =
    let a = c.args in
    let n = a.layout.n in
    put_unlisted n a.table.words.now a.holds.words a.out.now c.put_header.new.out c.put_rows.new.out c.requires.2 (sym c.requires.1 ∙ c.if-layout.false) (c.put_header.ensures ∙ ap (λ (b : Bool). sets a.out.now 0 (header n (cond b 1 0))) c.if-layout.false) c.put_rows.ensures
