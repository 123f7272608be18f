use Rattle.std.proofs.Common.{ap, refl, rules}
use Rattle.std.specs.Prelude.{ℤ, pos}
use Rattle.std.specs.Int.{w16, w64}
use mir.Val.{SFits}
use Rattle.std.proofs.lemmas.Int.{to_z-of_z}
use Rattle.thrift_compact.specs.declared.wire.Wire.TheVariants as wires
use Rattle.thrift_compact.specs.Writing.{number_bytes}
use Rattle.parquet_meta.specs.Written.{always, list_text, group_text, element_text, footer_text}
use Rattle.parquet_meta.proofs.Puts.{before, stopped, when_ok}
use Rattle.parquet_meta.proofs.written.write_file.Goals as goal

pub returns : goal.returns
unfolding footer_text
returns c =
    let n2 : SFits w64 c.args.meta.now.num_rows = search rules in
    let l2 : SFits w16 c.in_ok-last-3.last = search rules in
    let l1 : SFits w16 c.in_ok-last-2.last = search rules in
    let l0 : SFits w16 c.in_ok-last.last = search rules in
    when_ok c.stop.result (λ e.
    before _ _ _ _ _ _ _ _ _ c.in_ok-last.ensures refl (to_z-of_z w16 c.in_ok-last.last l0)
    (before _ _ _ _ _ _ _ _ _ c.in_ok-last-2.ensures (ap (λ xs. always (pos 2) wires.List (list_text wires.Struct element_text xs)) c.as_slice.ensures) (to_z-of_z w16 c.in_ok-last-2.last l1)
    (before _ _ _ _ _ _ _ _ _ c.in_ok-last-3.ensures (ap (λ (k : ℤ). always (pos 3) wires.I64 (number_bytes k)) (to_z-of_z w64 c.args.meta.now.num_rows n2)) (to_z-of_z w16 c.in_ok-last-3.last l2)
    (before _ _ _ _ _ _ _ _ _ c.in_ok-put_list.ensures (ap (λ xs. always (pos 4) wires.List (list_text wires.Struct group_text xs)) c.as_slice-2.ensures) refl
    (stopped _ _ _ e)))))
    c.stop.ensures.ok
