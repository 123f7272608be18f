use Rattle.std.proofs.Common.{List, ℕ, ◌≡◌, ◌*◌, ◌≤◌, ◌++◌, length, ◌∙◌, ap, arith}
use Rattle.bit_pack.specs.Numbers.{number_in, fields}
use Rattle.bit_pack.proofs.Wholes.{Packed-fields, length-fields, bytes_fit}
use Rattle.bit_pack.proofs.unpacking.unpack.Goals as goal

pub returns-clause-ok : goal.returns-clause-ok
returns-clause-ok c =
    let n = number_in c.args.bytes.now in
    let values : c.append_values.new.out.items ≡ fields c.args.width n 0 c.args.count
    = c.in_ok-append_values.ensures ∙ ap (λ (xs : List ℕ). xs ++ fields c.args.width n 0 c.args.count) c.in_ok-values.ensures.items in
    let bits : c.args.count * c.from.result ≤ 8 * length c.args.bytes.now = omega (arith, c.div_ceil.ensures, c.if-div_ceil-bytes.false) in
    let within : c.args.count * c.args.width ≤ 8 * length c.args.bytes.now = rw c.from.ensures at bits in
    record {
      narrow = c.in_ok-check_count.ensures.ok.0;
      few = c.in_ok-check_count.ensures.ok.1;
      all = ap length values ∙ length-fields c.args.width n 0 c.args.count;
      packed = Packed-fields c.args.width c.args.bytes.now c.args.count c.append_values.new.out.items (bytes_fit c.args.bytes.now c.type_inv.bytes) within values;
    }
