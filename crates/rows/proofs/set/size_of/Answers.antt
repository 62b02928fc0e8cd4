-- `size_of`: word by word from the first in use on, past which none is left.
use Prim.Native.Nat.{◌+◌}
use native.Mathlib.Omega.{arith}
use Rattle.sets.specs.Words.{jobs}
use Rattle.rows.proofs.Onward.{since_all}
use Rattle.rows.proofs.Sizes.{kept_all, kept_none, kept_at}
use Rattle.rows.proofs.set.size_of.Goals as goal

pub returns-in-1 : goal.returns-in-1
returns-in-1 g c = λ t k.
    let b = jobs c.args.b.now in
    omega (arith, c.ones_in.ensures.counted t k, kept_all t b c.args.low c.requires.since, kept_none t c.args.a.now b (c.args.low + 1) (omega arith))

pub returns-in-2 : goal.returns-in-2
returns-in-2 g c = λ t k.
    let b = jobs c.args.b.now in
    omega (arith, c.ones_in-in-2.ensures.counted t k, c.ones_in-in-2-2.ensures.counted t k, kept_all t b c.args.low c.requires.since, kept_none t c.args.a.now b (c.args.low + 1 + 1) (omega arith))

pub returns-in-3 : goal.returns-in-3
returns-in-3 g c = λ t k.
    let b = jobs c.args.b.now in
    let next = kept_at t (jobs c.args.a.now) b (c.args.low + 1 + 1) (c.args.low + 2) (omega arith) in
    omega (arith, next, c.ones_in-in-3.ensures.counted t k, c.ones_in-in-3-2.ensures.counted t k, c.ones_in-in-3-3.ensures.counted t k, kept_all t b c.args.low c.requires.since, kept_none t c.args.a.now b (c.args.low + 2 + 1) (omega arith))

pub returns : goal.returns
returns g c = λ t k.
    let b = jobs c.args.b.now in
    omega (
      arith,
      c.ones_in-in_default.ensures.counted t k,
      c.ones_in-in_default-2.ensures.counted t k,
      c.ones_in-in_default-3.ensures.counted t k,
      c.ones_in-in_default-4.ensures.counted t k,
      kept_all t b 0 (since_all (jobs c.args.a.now)),
      kept_none t c.args.a.now b 4 (omega arith),
    )
