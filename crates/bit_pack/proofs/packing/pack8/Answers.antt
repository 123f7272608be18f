use Rattle.std.proofs.Common.{List, ℕ, ◌≡◌, ◌++◌, ◌+◌, ◌*◌, ◌/◌, ◌∙◌, ap, length, arith}
use Rattle.bit_pack.specs.Numbers.{bytes_of, packed_number}
use Rattle.bit_pack.proofs.Sums.{Packs-bytes}
use Rattle.bit_pack.proofs.packing.pack8.Goals as goal

pub returns-clause-ok : goal.returns-clause-ok
returns-clause-ok g c =
    let p = packed_number g.row.W c.args.values.now in
    let long : length c.args.values.now ≡ 8 = omega arith in
    let size : g.row.W ≡ (length c.args.values.now * g.row.W + 7) / 8 = rw long (omega arith) in (
      bytes_of g.row.W p,
      Packs-bytes g.row.W c.args.values.now (bytes_of g.row.W p) c.if-not-fit.ensures (ap (λ k. bytes_of k p) size),
      c.pack_group.ensures.items ∙ ap (λ (bs : List ℕ). bs ++ bytes_of g.row.W p) c.in_ok-reserve.ensures.items,
    )
