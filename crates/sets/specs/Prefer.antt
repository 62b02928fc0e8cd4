-- Prefer: which of two lent sets comes back, and its promise.
use Rattle.std.specs.Prelude.{◌≡◌, ◌&&◌, cond, List, [], ℕ, eqb, length}
use Rattle.std.specs.Borrow.{Bor}
use Rattle.graphs.specs.First.{ahead}
use Rattle.sets.specs.Words.{jobs}

-- "the larger; at equal size the earlier by demand 2's order, and the first of the two when they are equal. If either is not four words", the part
unfoldable pub preferred : {A : Type 0} → List ℕ → List ℕ → A → A → A → A
preferred s t first second part =
    cond (eqb (length s) 4 && eqb (length t) 4) (cond (ahead (jobs t) (jobs s)) second first) part

-- the promise of Prefer: the words that come back, and the place where they are lent; "an empty part of the first" begins where the first does
pub record PreferPromise (first second reply : Bor (List ℕ)) : Type 0 where
  pub words : reply.now ≡ preferred first.now second.now first.now second.now []
  pub place : reply.ref_ptr ≡ preferred first.now second.now first.ref_ptr second.ref_ptr first.ref_ptr
