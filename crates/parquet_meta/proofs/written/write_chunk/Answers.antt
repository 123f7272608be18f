use Rattle.std.proofs.Common.{refl, rules}
use Rattle.std.specs.Prelude.{pos}
use Rattle.std.specs.Int.{w16}
use mir.Val.{SFits, to_z, of_z}
use Rattle.std.proofs.lemmas.Int.{to_z-of_z}
use Rattle.thrift_compact.specs.declared.wire.Wire.TheVariants as wires
use Rattle.parquet_meta.specs.Written.{chunk_text, column_text}
use Rattle.parquet_meta.proofs.Puts.{before, stopped, when_ok, put_some}
use Rattle.parquet_meta.proofs.written.write_chunk.Goals as goal

pub returns : goal.returns
unfolding chunk_text
returns c =
    let h2 : SFits w16 c.in_ok-last-2.last = search rules in
    let l0 : SFits w16 c.in_ok-last.last = search rules in
    when_ok c.stop.result (λ e.
    before _ _ _ _ _ _ _ _ _ c.in_ok-last.ensures refl (to_z-of_z w16 c.in_ok-last.last l0)
    (before _ _ _ _ _ _ _ _ _ c.in_ok-last-2.ensures refl refl
    (before _ _ _ _ _ _ _ _ _ (put_some c.put_optional.new.out c.field.new.self c.write_column.new.out c.in_ok-last-2.last (pos 3) (pos 3) (to_z w16 (of_z w16 c.in_ok-last-2.last)) (pos 3) wires.Struct
    (column_text c.args.chunk.now.meta_data) refl (to_z-of_z w16 c.in_ok-last-2.last h2) refl c.in_ok-field.ensures.ok c.in_ok-write_column.ensures) refl refl
    (stopped _ _ _ e))))
    c.stop.ensures.ok
