-- `put_header`: four stores, one behind the other.
use Rattle.night.proofs.Encoding.{header_laid, flag_byte}
use Rattle.night.proofs.encode.put_header.Goals as goal

pub returns : goal.returns
returns c =
    let a = c.args in
    rw (c.copy_from_slice.ensures.after, c.copy_from_slice-2.ensures.after, c.to_le_bytes.ensures, c.copy_from_slice-3.ensures.after, c.to_le_bytes-2.ensures, c.from.ensures, flag_byte a.layout.listed)
    (header_laid a.out.now a.layout.n _ a.layout.few c.requires)
