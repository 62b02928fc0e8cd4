-- `of`: the last number, and what an accepted header says.
use Rattle.night.proofs.Refusing.{header_25, header_none, flag_alone}
use Rattle.night.specs.Format.{file_length}
use Rattle.night.specs.Reading.{jobs_in}
use native.Mathlib.Omega.{arith}
use mathlib.Core.Path.{◌∙◌, ap₂}
use Rattle.night.proofs.decode.NightFile.of.Goals as goal

pub returns-then-bytes-length-clause-refused : goal.returns-then-bytes-length-clause-refused
returns-then-bytes-length-clause-refused c =
    let size = c.length.ensures.0 ∙ ap₂ file_length (c.from-n.ensures ∙ c.number_at.ensures) (flag_alone c.args.bytes.now c.if-unknown-ne0.false) in
    grind (arith, header_25)

pub invariant_of-result : goal.invariant_of-result
unfolding jobs_in
invariant_of-result c =
    record {
      jobs = c.from-n.ensures ∙ c.number_at.ensures;
      list = flag_alone c.args.bytes.now c.if-unknown-ne0.false;
      long = c.if-bytes-length.false ∙ c.length.ensures.0;
    }

pub returns-clause-refused : goal.returns-clause-refused
returns-clause-refused c =
    let size = c.if-bytes-length.false ∙ c.length.ensures.0 ∙ ap₂ file_length (c.from-n.ensures ∙ c.number_at.ensures) (flag_alone c.args.bytes.now c.if-unknown-ne0.false) in
    grind (arith, header_none)
