use Rattle.std.proofs.Common.{List, ℕ, ◌≡◌, ◌≤◌, ◌++◌, ◌*◌, ◌∙◌, ap, take, append_assoc, arith}
use Rattle.std.specs.Int.{w32, to_le_bytes}
use Rattle.bit_pack.specs.Numbers.{bytes_of}
use Rattle.bit_pack.specs.Hybrid.{varint_of, byte_width}
use Rattle.bit_pack.proofs.Sums.{front_of_word32}
use Rattle.bit_pack.proofs.hybrid.write_run.Goals as goal

pub returns : goal.returns
returns c =
    let old = c.args.out.now.items in
    let size : c.div_ceil-size.result ≡ byte_width c.args.width = omega (arith, c.div_ceil-size.ensures, c.from.ensures) in
    let few : byte_width c.args.width ≤ 4 = omega arith in
    c.in_ok-extend_from_slice.ensures.items
    ∙ ap (λ (bs : List ℕ). c.push_varint.new.out.items ++ take c.div_ceil-size.result bs) c.to_le_bytes.ensures
    ∙ ap (λ k. c.push_varint.new.out.items ++ take k (to_le_bytes w32 c.args.value)) size
    ∙ ap (λ (bs : List ℕ). c.push_varint.new.out.items ++ bs) (front_of_word32 (byte_width c.args.width) c.args.value few)
    ∙ ap (λ (bs : List ℕ). bs ++ bytes_of (byte_width c.args.width) c.args.value) c.in_ok-push_varint.ensures
    ∙ append_assoc old (varint_of 5 (2 * c.args.copies)) (bytes_of (byte_width c.args.width) c.args.value)
