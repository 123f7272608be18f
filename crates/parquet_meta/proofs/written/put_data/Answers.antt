use Rattle.std.specs.Prelude.{pos}
use Rattle.std.proofs.Common.{refl, rules}
use Rattle.std.specs.Int.{w16}
use mir.Val.{SFits, to_z, of_z}
use Rattle.std.proofs.lemmas.Int.{to_z-of_z}
use Rattle.thrift_compact.specs.declared.wire.Wire.TheVariants as wires
use Rattle.parquet_meta.specs.Written.{data_text}
use Rattle.parquet_meta.proofs.Puts.{put_some}
use Rattle.parquet_meta.proofs.written.put_data.Goals as goal

pub returns-in_ok-write_data-in-Some : goal.returns-in_ok-write_data-in-Some
returns-in_ok-write_data-in-Some c =
    let fits_last : SFits w16 c.args.last = search rules in
    rw c.in-Some.is
    (put_some c.args.out.now c.field.new.self c.write_data.new.out c.args.last (pos 5) (pos 5) (to_z w16 (of_z w16 c.args.last)) (pos 5) wires.Struct
    (data_text c.in-Some.head) refl (to_z-of_z w16 c.args.last fits_last) refl c.in_ok-field-in-Some.ensures.ok c.in_ok-write_data-in-Some.ensures)
