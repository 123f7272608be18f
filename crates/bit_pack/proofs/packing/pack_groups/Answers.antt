use Rattle.std.proofs.Common.{List, ℕ, ◌++◌, ◌+◌, ◌*◌, ◌∙◌, sym, ap, drop, zero-mul, arith}
use Rattle.std.proofs.lemmas.List.{append-nil}
use Rattle.std.proofs.lemmas.Nat.{mul-le}
use Rattle.bit_pack.specs.Numbers.{bytes_of, packed_number}
use Rattle.bit_pack.proofs.Sums.{groups_more, AllFit-take, AllFit-drop}
use Rattle.bit_pack.proofs.packing.pack_groups.Goals as goal

pub loop-group-init : goal.loop-group-init
unfolding bytes_of
loop-group-init g c = record { items = rw zero-mul (sym (append-nil _)); len = rw zero-mul (omega arith); capacity = omega arith }

pub pack_group-requires-clause-fit : goal.pack_group-requires-clause-fit
pack_group-requires-clause-fit g c =
    rw c.eight_at.ensures (AllFit-take g.row.W 8 (drop (8 * c.loop-group.group) c.args.values.now) (AllFit-drop g.row.W (8 * c.loop-group.group) c.args.values.now c.requires.fit))

pub pack_group-requires-clause-room : goal.pack_group-requires-clause-room
pack_group-requires-clause-room g c =
    omega (arith, mul-le (c.loop-group.group + 1) g.row.W c.args.groups g.row.W (omega arith) (omega arith))

pub loop-group-preserved : goal.loop-group-preserved
loop-group-preserved g c = record {
  items = groups_more g.row.W c.loop-group.group c.args.values.now c.args.out.items c.loop-group.out.items c.pack_group.new.out.items
      c.requires.fit (omega arith) c.loop-group.invariant.items
      (c.pack_group.ensures.items ∙ ap (λ (xs : List ℕ). c.loop-group.out.items ++ bytes_of g.row.W (packed_number g.row.W xs)) c.eight_at.ensures);
  len = omega arith;
  capacity = omega arith;
}
