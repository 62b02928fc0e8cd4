-- `read_full`: what a read gave comes behind the bytes read so far.
use Rattle.std.proofs.Common.{◌≡◌, ◌∙◌, sym, ap, subst, ℕ, ◌+◌, ◌-◌, ◌≤◌, List, ◌++◌, Option, Some, None, length, take, drop, append_assoc, arith, length-append}
use Rattle.std.proofs.Math.Seq.{take-append-add, length-take-le}
use Rattle.std.proofs.lemmas.List.{take-append-le}
use Rattle.std.specs.Io.KnownBytes.{Consumes}
use borrow.Rule.Slice.PartMut.{put_mid}
use Rattle.sheet.proofs.input.read_full.Goals as goal

consumes_then : (a b d : Option (List ℕ)) (xs ys : List ℕ) → Consumes a b xs → Consumes b d ys → Consumes a d (xs ++ ys)
consumes_then None b d xs ys p q = tt
consumes_then (Some l) None d xs ys p q = absurd p
consumes_then (Some l) (Some m) None xs ys p q = q
consumes_then (Some l) (Some m) (Some n) xs ys p q = p ∙ ap (λ t. xs ++ t) q ∙ sym (append_assoc xs ys n)

-- bytes of which those from `done` on were lent to a read, which gave `got`
module _ (bytes ys : List ℕ) (done got : ℕ) (h : done ≤ length bytes) (k : got ≤ length ys) where
  front : take (done + got) (put_mid done (length bytes - done) bytes ys) ≡ take done bytes ++ take got ys
  front =
      let rest = ys ++ drop (length bytes - done) (drop done bytes) in
      ap (λ n. take (n + got) (take done bytes ++ rest)) (sym (length-take-le done bytes h)) ∙ take-append-add (take done bytes) rest got
      ∙ ap (λ l. take done bytes ++ l) (take-append-le got ys _ k)

  within : done + got ≤ length (put_mid done (length bytes - done) bytes ys)
  within = let l = length-take-le done bytes h in simp length-append (omega arith)

pub loop-done-preserved : goal.loop-done-preserved
loop-done-preserved g c =
    let bytes = c.loop-done.bytes in
    let ys = c.read.new.buf in
    let so_far = c.loop-done.invariant in
    let got = c.in-Ok-1-to-max.ensures in (
      within bytes ys c.loop-done.done c.in-Ok-1-to-max.got so_far.0 got.bound.0,
      subst (λ (l : List ℕ). Consumes (g.R.Read.remaining c.args.input.now) (g.R.Read.remaining c.read.new.self) l) (sym (front bytes ys c.loop-done.done c.in-Ok-1-to-max.got so_far.0 got.bound.0))
          (consumes_then _ _ _ _ _ so_far.1 got.bytes.0),
    )
