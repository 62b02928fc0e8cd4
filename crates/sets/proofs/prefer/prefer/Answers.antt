-- `prefer`: the lengths are tested, then which set is ahead. The empty part begins where the first does.
use mathlib.Core.Path.{◌≡◌, sym, ◌∙◌, ap, subst₂}
use mathlib.Core.List.{List, []}
use Prim.Native.Nat.{ℕ}
use native.Mathlib.Omega.{arith}
use Rattle.graphs.specs.First.{ahead}
use Rattle.sets.specs.Words.{jobs}
use Rattle.sets.proofs.Preferring.{prefers_part, prefers_part_too, prefers_second, prefers_first}
use Rattle.sets.proofs.prefer.prefer.Goals as goal

pub returns-then-first-ne-SET_WORDS : goal.returns-then-first-ne-SET_WORDS
returns-then-first-ne-SET_WORDS c =
    let if1' = c.if-first-ne-SET_WORDS in
    let first = c.args.first in
    let second = c.args.second in
    let s = first.now in
    let t = second.now in
    let off : borrow.Rule.Slice.Shared.by_size 8 0 first.ref_ptr.1 ≡ first.ref_ptr.1 = omega arith in
    record { words = prefers_part s t s t [] if1'.true; place = ap (λ (o : ℕ). (first.ref_ptr.0, o)) off ∙ prefers_part s t first.ref_ptr second.ref_ptr first.ref_ptr if1'.true }

pub returns-then-second-ne-SET_WORDS : goal.returns-then-second-ne-SET_WORDS
returns-then-second-ne-SET_WORDS c =
    let if2' = c.if-second-ne-SET_WORDS in
    let first = c.args.first in
    let second = c.args.second in
    let s = first.now in
    let t = second.now in
    let off : borrow.Rule.Slice.Shared.by_size 8 0 first.ref_ptr.1 ≡ first.ref_ptr.1 = omega arith in
    record { words = prefers_part_too s t s t [] if2'.true; place = ap (λ (o : ℕ). (first.ref_ptr.0, o)) off ∙ prefers_part_too s t first.ref_ptr second.ref_ptr first.ref_ptr if2'.true }

pub returns-then-is_ahead : goal.returns-then-is_ahead
returns-then-is_ahead c =
    let is-ahead' = c.is_ahead in
    let from-words' = c.from_words in
    let from-words2' = c.from_words-2 in
    let if1' = c.if-first-ne-SET_WORDS in
    let if2' = c.if-second-ne-SET_WORDS in
    let if3' = c.if-is_ahead in
    let first = c.args.first in
    let second = c.args.second in
    let s = first.now in
    let t = second.now in
    let told = subst₂ (λ (u v : List ℕ). is-ahead'.result ≡ ahead (jobs u) (jobs v)) from-words'.ensures from-words2'.ensures is-ahead'.ensures in
    record { words = prefers_second s t s t [] if1'.false if2'.false (sym told ∙ if3'.true); place = prefers_second s t first.ref_ptr second.ref_ptr first.ref_ptr if1'.false if2'.false (sym told ∙ if3'.true) }

pub returns-else-is_ahead : goal.returns-else-is_ahead
returns-else-is_ahead c =
    let is-ahead' = c.is_ahead in
    let from-words' = c.from_words in
    let from-words2' = c.from_words-2 in
    let if1' = c.if-first-ne-SET_WORDS in
    let if2' = c.if-second-ne-SET_WORDS in
    let if3' = c.if-is_ahead in
    let first = c.args.first in
    let second = c.args.second in
    let s = first.now in
    let t = second.now in
    let told = subst₂ (λ (u v : List ℕ). is-ahead'.result ≡ ahead (jobs u) (jobs v)) from-words'.ensures from-words2'.ensures is-ahead'.ensures in
    record { words = prefers_first s t s t [] if1'.false if2'.false (sym told ∙ if3'.false); place = prefers_first s t first.ref_ptr second.ref_ptr first.ref_ptr if1'.false if2'.false (sym told ∙ if3'.false) }
