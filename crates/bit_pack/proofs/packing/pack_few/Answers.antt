use Rattle.std.proofs.Common.{◌≡◌, ◌++◌, ◌+◌, ◌*◌, ◌/◌, ◌≤◌, ◌∙◌, ap, length, arith}
use Rattle.std.proofs.lemmas.Nat.{mul-le}
use Rattle.bit_pack.specs.Numbers.{bytes_of, packed_number}
use Rattle.bit_pack.proofs.Sums.{few_padded, few_fit, truncated}
use Rattle.bit_pack.proofs.packing.pack_few.Goals as goal

pub pack_group-requires-clause-fit : goal.pack_group-requires-clause-fit
pack_group-requires-clause-fit g c = rw c.copy_from_slice.ensures.after (few_fit g.row.W c.args.values.now c.requires.fit)

pub returns : goal.returns
returns g c =
    let n = length c.args.values.now in
    let p = packed_number g.row.W c.args.values.now in
    let size = (n * g.row.W + 7) / 8 in
    let room : size ≤ g.row.W = omega (arith, mul-le n g.row.W 7 g.row.W (omega arith) (omega arith)) in
    let at : c.len.result + c.div_ceil.result ≡ length c.args.out.now.items + size = omega (arith, c.len.ensures, c.div_ceil.ensures, c.args.out.now.ok) in
    c.truncate.ensures.items
    ∙ truncated size p g.row.W (c.len.result + c.div_ceil.result) c.args.out.now.items c.pack_group.new.out.items at room
    (rw c.copy_from_slice.ensures.after at (c.pack_group.ensures.items) ∙ ap (λ m. c.args.out.now.items ++ bytes_of g.row.W m) (few_padded g.row.W c.args.values.now c.requires.few))
