use Rattle.std.proofs.Common.{List, ℕ, ◌++◌, ◌+◌, ◌*◌, ◌/◌, ◌∙◌, ap, length}
use Rattle.bit_pack.specs.Numbers.{bytes_of, packed_number}
use Rattle.bit_pack.proofs.Sums.{Packs-bytes}
use Rattle.bit_pack.proofs.packing.pack.Goals as goal

pub returns-clause-ok : goal.returns-clause-ok
returns-clause-ok c =
    Packs-bytes c.args.width c.args.values.now c.append_packed.new.out.items c.in_ok-check_values.ensures.fit
    (c.in_ok-append_packed.ensures ∙ ap (λ (bs : List ℕ). bs ++ bytes_of ((length c.args.values.now * c.args.width + 7) / 8) (packed_number c.args.width c.args.values.now)) c.in_ok-bytes.ensures.items)
