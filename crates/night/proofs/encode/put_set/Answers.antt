-- `put_set`: the bytes of the set's words, as many as the output takes.
use Rattle.night.proofs.Bytes.{bytes_of_words}
use lib.ListN.{length, take}
use mathlib.Core.List.{[]}
use mathlib.Core.Path.{◌∙◌, ap}
use Rattle.night.proofs.encode.put_set.Goals as goal

pub returns : goal.returns
returns c =
    let each = c.map-bytes.ensures.items in
    c.copy_from_slice.ensures.after ∙ ap (take (length c.args.out.now)) c.as_flattened.ensures.value
    ∙ bytes_of_words c.args.set.words c.map-bytes.result (length c.args.out.now) c.requires each.long (λ i h. (each.at i 0 [] h).2.met)
