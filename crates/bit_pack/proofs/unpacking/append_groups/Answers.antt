use Rattle.std.proofs.Common.{List, ℕ, ◌++◌, ◌+◌, ◌*◌, ◌≤◌, length, ◌∙◌, sym, ap, arith}
use Rattle.std.proofs.lemmas.List.{append-nil}
use Rattle.std.proofs.lemmas.Nat.{mul-le}
use Rattle.bit_pack.specs.Numbers.{fields}
use Rattle.bit_pack.proofs.Wholes.{groups_step, bytes_fit}
use Rattle.bit_pack.proofs.unpacking.append_groups.Goals as goal

pub loop-group-init : goal.loop-group-init
unfolding fields
loop-group-init g c = record { items = sym (append-nil _); len = omega arith; capacity = omega arith }

pub loop-group-preserved : goal.loop-group-preserved
loop-group-preserved g c =
    let more : (c.loop-group.group + 1) * g.row.W ≤ c.args.groups * g.row.W = mul-le (c.loop-group.group + 1) g.row.W c.args.groups g.row.W (omega arith) (omega arith) in
    let within : c.loop-group.group * g.row.W + g.row.W ≤ length c.args.bytes.now = omega (arith, more) in
    record {
      items = groups_step g.row.W c.loop-group.group c.args.bytes.now c.args.out.items c.loop-group.out.items c.push_all.new.out.items
          (bytes_fit c.args.bytes.now c.type_inv.bytes) within c.loop-group.invariant.items
          (c.push_all.ensures.items ∙ ap (λ (xs : List ℕ). c.loop-group.out.items ++ xs) c.unpack_group.ensures);
      len = omega arith;
      capacity = omega arith;
    }
