use Rattle.std.proofs.Common.{◌≡◌, ◌-◌, [], ◌∷◌, ◌++◌, ◌∙◌, sym, ap, arith}
use Rattle.std.proofs.lemmas.List.{append-nil}
use Rattle.bit_pack.specs.Numbers.{fields}
use Rattle.bit_pack.proofs.Wholes.{rest_step, bytes_fit}
use Rattle.bit_pack.proofs.unpacking.append_rest.Goals as goal

pub loop-place-init : goal.loop-place-init
unfolding fields
loop-place-init c =
    let none : c.args.first - c.args.first ≡ 0 = omega arith in
    record { items = rw none (sym (append-nil _)); len = omega arith; capacity = omega arith }

pub loop-place-preserved : goal.loop-place-preserved
loop-place-preserved c = record {
  items = rest_step c.args.width c.args.first c.loop-place.place c.args.bytes.now c.args.out.now.items c.loop-place.out.items c.push_reserved.new.self.items
      (bytes_fit c.args.bytes.now c.type_inv.bytes) (omega arith) c.loop-place.invariant.items
      (c.push_reserved.ensures.items ∙ ap (λ x. c.loop-place.out.items ++ x ∷ []) c.plain_value.ensures);
  len = omega arith;
  capacity = omega arith;
}
