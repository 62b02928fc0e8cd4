-- The promises of the six calls leave no choice: two returned numbers, replies and lent buffers that a promise allows are equal. Each part of a promise is an
-- equation with one value. Assumes nothing.
use mathlib.Core.Path.{◌≡◌, sym, ◌∙◌}
use mathlib.Core.List.{List}
use Prim.Native.Nat.{ℕ}
use Rattle.question.specs.Question.{Question}
use Rattle.night.specs.Versions.{Version}
use Rattle.buyerspruce.specs.Reply.{Replies}
use Rattle.buyerspruce.specs.Promises.{SearchCall, ColourCall, CheckCall, PreferCall, ReadCall, WriteCall}

pub replies_unique : {numbers reply a a' : List ℕ} {r r' : ℕ} → Replies numbers reply r a → Replies numbers reply r' a' → (r ≡ r') × (a ≡ a')
replies_unique p q = (p.returned ∙ sym q.returned, p.replied ∙ sym q.replied)

module _ {q : Question} {budget : ℕ} {result reply : List ℕ} where
  pub search_unique : {r r' : ℕ} {a a' b b' : List ℕ} → SearchCall q budget result reply r a b → SearchCall q budget result reply r' a' b' → (r ≡ r') × (a ≡ a') × (b ≡ b')
  search_unique p p' = let e = replies_unique p.replied p'.replied in (e.0, e.1, p.result_is ∙ sym p'.result_is)

module _ {q : Question} {lent reply : List ℕ} where
  pub colour_unique : {r r' : ℕ} {a a' b b' : List ℕ} → ColourCall q lent reply r a b → ColourCall q lent reply r' a' b' → (r ≡ r') × (a ≡ a') × (b ≡ b')
  colour_unique p p' = let e = replies_unique p.replied p'.replied in (e.0, e.1, p.classes_are ∙ sym p'.classes_are)

module _ {n : ℕ} {table set reply : List ℕ} where
  pub check_unique : {r r' : ℕ} {a a' : List ℕ} → CheckCall n table set reply r a → CheckCall n table set reply r' a' → (r ≡ r') × (a ≡ a')
  check_unique p q = replies_unique p.replied q.replied

module _ {first second reply : List ℕ} where
  pub prefer_unique : {r r' : ℕ} {a a' : List ℕ} → PreferCall first second reply r a → PreferCall first second reply r' a' → (r ≡ r') × (a ≡ a')
  prefer_unique p q = replies_unique p.replied q.replied

module _ {file table holds reply : List ℕ} where
  pub read_unique : {r r' : ℕ} {a a' t t' h h' : List ℕ} → ReadCall file table holds reply r a t h → ReadCall file table holds reply r' a' t' h' → (r ≡ r') × (a ≡ a') × (t ≡ t') × (h ≡ h')
  read_unique p q = let e = replies_unique p.replied q.replied in (e.0, e.1, p.table_is ∙ sym q.table_is, p.holds_is ∙ sym q.holds_is)

module _ {v : Version} {n : ℕ} {table holds out reply : List ℕ} where
  pub write_unique : {r r' : ℕ} {a a' o o' : List ℕ} → WriteCall v n table holds out reply r a o → WriteCall v n table holds out reply r' a' o' → (r ≡ r') × (a ≡ a') × (o ≡ o')
  write_unique p q = let e = replies_unique p.replied q.replied in (e.0, e.1, p.out_is ∙ sym q.out_is)
