use Rattle.std.proofs.Common.{List, ℕ, ◌++◌, ◌*◌, ◌/◌, ◌∙◌, ap, arith}
use Rattle.std.proofs.lemmas.Nat.{mul-le}
use Rattle.bit_pack.specs.Numbers.{number_in, fields}
use Rattle.bit_pack.proofs.Wholes.{rest_joined}
use Rattle.bit_pack.proofs.unpacking.append_at.Goals as goal

pub append_groups-requires-clause-within : goal.append_groups-requires-clause-within
append_groups-requires-clause-within g c =
    omega (arith, mul-le (8 * (c.args.count / 8)) g.row.W c.args.count g.row.W (omega arith) (omega arith))

pub returns : goal.returns
returns g c =
    rest_joined g.row.W (number_in c.args.bytes.now) (8 * (c.args.count / 8)) c.args.count c.args.out.now.items c.append_groups.result.items c.append_rest.new.out.items
    (omega arith)
    (c.append_groups.ensures.items ∙ ap (λ (xs : List ℕ). xs ++ fields g.row.W (number_in c.args.bytes.now) 0 (8 * (c.args.count / 8))) (c.take_out.ensures.items ∙ c.in_ok-reserve.ensures.items))
    c.append_rest.ensures
