use Rattle.std.proofs.Common.{List, ℕ, ◌++◌, ◌*◌, ◌/◌, ◌∙◌, ap, take, length, arith}
use Rattle.std.proofs.lemmas.List.{take_rest}
use Rattle.bit_pack.specs.Numbers.{bytes_of, packed_number}
use Rattle.bit_pack.proofs.Sums.{rest_more}
use Rattle.bit_pack.proofs.packing.pack_at.Goals as goal

pub returns : goal.returns
returns g c =
    let groups = length c.args.values.now / 8 in
    rest_more g.row.W groups c.args.values.now c.args.out.now.items c.pack_groups.result.items c.pack_few.new.out.items
    c.requires.fit (omega arith)
    (c.pack_groups.ensures.items ∙ ap (λ (bs : List ℕ). bs ++ bytes_of (groups * g.row.W) (packed_number g.row.W (take (8 * groups) c.args.values.now))) (c.take_out.ensures.items ∙ c.in_ok-reserve.ensures.items))
    (rw take_rest at c.pack_few.ensures)
