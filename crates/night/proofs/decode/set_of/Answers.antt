-- `set_of`: the bytes are filled up to 32 with zeros, and each eight of them are a word.
use Rattle.night.proofs.Bytes.{words_padded}
use lib.ListN.{length, drop, replicate}
use mathlib.Core.List.{List, ◌++◌}
use mathlib.Core.Path.{ap}
use Prim.Native.Nat.{ℕ}
use Rattle.night.proofs.decode.set_of.Goals as goal

pub returns : goal.returns
returns c =
    let bytes = c.args.bytes.now in
    let padded : List ℕ → List ℕ = λ l. l ++ drop (length bytes) (replicate 32 0) in
    words_padded bytes (padded c.copy_from_slice.new.self) (record { each = c.type_inv.bytes }) c.requires (ap padded c.copy_from_slice.ensures.after)
    c.as_chunks.ensures.front c.from_le_bytes.ensures c.from_le_bytes-2.ensures c.from_le_bytes-3.ensures c.from_le_bytes-4.ensures
