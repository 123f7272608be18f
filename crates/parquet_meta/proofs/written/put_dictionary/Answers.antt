use Rattle.std.specs.Prelude.{pos}
use Rattle.std.proofs.Common.{refl, rules}
use Rattle.std.specs.Int.{w16}
use mir.Val.{SFits, to_z, of_z}
use Rattle.std.proofs.lemmas.Int.{to_z-of_z}
use Rattle.thrift_compact.specs.declared.wire.Wire.TheVariants as wires
use Rattle.parquet_meta.specs.Written.{dictionary_text}
use Rattle.parquet_meta.proofs.Puts.{put_some}
use Rattle.parquet_meta.proofs.written.put_dictionary.Goals as goal

pub returns-in_ok-write_dictionary-in-Some : goal.returns-in_ok-write_dictionary-in-Some
returns-in_ok-write_dictionary-in-Some c =
    let fits_last : SFits w16 c.args.last = search rules in
    rw c.in-Some.is
    (put_some c.args.out.now c.field.new.self c.write_dictionary.new.out c.args.last (pos 7) (pos 7) (to_z w16 (of_z w16 c.args.last)) (pos 7) wires.Struct
    (dictionary_text c.in-Some.head) refl (to_z-of_z w16 c.args.last fits_last) refl c.in_ok-field-in-Some.ensures.ok c.in_ok-write_dictionary-in-Some.ensures)
