use Rattle.std.proofs.Common.{List, ℕ, ◌∙◌, ap, ◌++◌}
use Rattle.bit_pack.proofs.Wholes.{bytes_fit}
use Rattle.parquet_pages.proofs.PackedBytes.{bits_text_is}
use Rattle.parquet_pages.proofs.hybrid.append_packed.Goals as goal

pub returns : goal.returns
returns c =
    c.in_ok-extend_from_slice.ensures.items
    ∙ ap (λ (bs : List ℕ). c.args.out.now.items ++ bs) (bits_text_is c.args.bits.now c.args.bytes.now (bytes_fit c.args.bytes.now c.type_inv.bytes) c.requires)
