use Rattle.std.proofs.Common.{List, ℕ, ◌≡◌, ◌++◌, ◌+◌, ◌-◌, ◌*◌, ◌/◌, ◌∙◌, ap, length, replicate, append_assoc, arith}
use Rattle.bit_pack.specs.Numbers.{bytes_of, packed_number}
use Rattle.bit_pack.specs.Hybrid.{varint_of}
use Rattle.bit_pack.proofs.WriteLemmas.{group_room, stretch_bytes}
use Rattle.bit_pack.proofs.hybrid.write_stretch.Goals as goal

pub overflow_sub-rest : goal.overflow_sub-rest
overflow_sub-rest c =
    let groups : c.div_ceil-groups.result ≡ (length c.args.values.now + 7) / 8 = omega (arith, c.div_ceil-groups.ensures) in
    rw groups (omega (arith, c.div_ceil-filled.ensures, group_room (length c.args.values.now) c.from-bits.result))

pub returns : goal.returns
returns c =
    let w = c.args.width in
    let n = length c.args.values.now in
    let old = c.args.out.now.items in
    let p = packed_number w c.args.values.now in
    let groups : c.div_ceil-groups.result ≡ (n + 7) / 8 = omega (arith, c.div_ceil-groups.ensures) in
    let filled : c.div_ceil-filled.result ≡ (n * c.from-bits.result + 7) / 8 = omega (arith, c.div_ceil-filled.ensures) in
    let zeros : c.append_zeros.new.out.items ≡ c.append_packed.new.out.items ++ replicate ((n + 7) / 8 * w - (n * w + 7) / 8) 0
    = rw (groups, filled, c.from-bits.ensures) at c.in_ok-append_zeros.ensures in
    let head : c.push_varint.new.out.items ≡ old ++ varint_of 5 (2 * ((n + 7) / 8) + 1) = rw groups at c.in_ok-push_varint.ensures in
    zeros
    ∙ ap (λ (bs : List ℕ). bs ++ replicate ((n + 7) / 8 * w - (n * w + 7) / 8) 0) c.in_ok-append_packed.ensures
    ∙ append_assoc c.push_varint.new.out.items (bytes_of ((n * w + 7) / 8) p) (replicate ((n + 7) / 8 * w - (n * w + 7) / 8) 0)
    ∙ ap (λ (bs : List ℕ). c.push_varint.new.out.items ++ bs) (stretch_bytes w c.args.values.now c.requires.fit)
    ∙ ap (λ (bs : List ℕ). bs ++ bytes_of ((n + 7) / 8 * w) p) head
    ∙ append_assoc old (varint_of 5 (2 * ((n + 7) / 8) + 1)) (bytes_of ((n + 7) / 8 * w) p)
