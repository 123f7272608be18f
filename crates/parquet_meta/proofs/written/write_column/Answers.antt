use Rattle.std.proofs.Common.{ap, refl, rules}
use Rattle.std.specs.Prelude.{ℤ, pos}
use Rattle.std.specs.Int.{w16, w64}
use mir.Val.{SFits}
use Rattle.std.proofs.lemmas.Int.{to_z-of_z}
use Rattle.thrift_compact.specs.declared.wire.Wire.TheVariants as wires
use Rattle.thrift_compact.specs.Writing.{number_bytes, binary_bytes}
use Rattle.parquet_meta.specs.Written.{always, list_text, column_text}
use Rattle.parquet_meta.proofs.Puts.{before, stopped, when_ok}
use Rattle.parquet_meta.proofs.written.write_column.Goals as goal

pub returns : goal.returns
unfolding column_text
returns c =
    let n7 : SFits w64 c.args.column.now.data_page_offset = search rules in
    let l7 : SFits w16 c.in_ok-last-8.last = search rules in
    let n6 : SFits w64 c.args.column.now.total_compressed_size = search rules in
    let l6 : SFits w16 c.in_ok-last-7.last = search rules in
    let l5 : SFits w16 c.in_ok-last-6.last = search rules in
    let n4 : SFits w64 c.args.column.now.num_values = search rules in
    let l4 : SFits w16 c.in_ok-last-5.last = search rules in
    let n3 : SFits w64 c.args.column.now.codec = search rules in
    let l3 : SFits w16 c.in_ok-last-4.last = search rules in
    let l2 : SFits w16 c.in_ok-last-3.last = search rules in
    let l1 : SFits w16 c.in_ok-last-2.last = search rules in
    let n0 : SFits w64 c.args.column.now.physical_type = search rules in
    let l0 : SFits w16 c.in_ok-last.last = search rules in
    when_ok c.stop.result (λ e.
    before _ _ _ _ _ _ _ _ _ c.in_ok-last.ensures (ap (λ (k : ℤ). always (pos 1) wires.I32 (number_bytes k)) (to_z-of_z w64 c.args.column.now.physical_type n0)) (to_z-of_z w16 c.in_ok-last.last l0)
    (before _ _ _ _ _ _ _ _ _ c.in_ok-last-2.ensures refl (to_z-of_z w16 c.in_ok-last-2.last l1)
    (before _ _ _ _ _ _ _ _ _ c.in_ok-last-3.ensures (ap (λ xs. always (pos 3) wires.List (list_text wires.Binary binary_bytes xs)) c.as_slice.ensures) (to_z-of_z w16 c.in_ok-last-3.last l2)
    (before _ _ _ _ _ _ _ _ _ c.in_ok-last-4.ensures (ap (λ (k : ℤ). always (pos 4) wires.I32 (number_bytes k)) (to_z-of_z w64 c.args.column.now.codec n3)) (to_z-of_z w16 c.in_ok-last-4.last l3)
    (before _ _ _ _ _ _ _ _ _ c.in_ok-last-5.ensures (ap (λ (k : ℤ). always (pos 5) wires.I64 (number_bytes k)) (to_z-of_z w64 c.args.column.now.num_values n4)) (to_z-of_z w16 c.in_ok-last-5.last l4)
    (before _ _ _ _ _ _ _ _ _ c.in_ok-last-6.ensures refl (to_z-of_z w16 c.in_ok-last-6.last l5)
    (before _ _ _ _ _ _ _ _ _ c.in_ok-last-7.ensures (ap (λ (k : ℤ). always (pos 7) wires.I64 (number_bytes k)) (to_z-of_z w64 c.args.column.now.total_compressed_size n6)) (to_z-of_z w16 c.in_ok-last-7.last l6)
    (before _ _ _ _ _ _ _ _ _ c.in_ok-last-8.ensures (ap (λ (k : ℤ). always (pos 9) wires.I64 (number_bytes k)) (to_z-of_z w64 c.args.column.now.data_page_offset n7)) (to_z-of_z w16 c.in_ok-last-8.last l7)
    (before _ _ _ _ _ _ _ _ _ c.in_ok-put_optional.ensures refl refl
    (stopped _ _ _ e))))))))))
    c.stop.ensures.ok
