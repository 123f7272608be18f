use Rattle.std.proofs.Common.{rules}
use Rattle.std.specs.Int.{w16}
use mir.Val.{SFits, to_z, of_z}
use Rattle.std.proofs.lemmas.Int.{to_z-of_z}
use Rattle.thrift_compact.specs.declared.wire.Wire.TheVariants as wires
use Rattle.parquet_meta.specs.Written.{list_text}
use Rattle.parquet_meta.proofs.Puts.{put_some}
use Rattle.parquet_meta.proofs.written.put_list.Goals as goal

pub returns : goal.returns
returns g c =
    let fits_last : SFits w16 c.args.last = search rules in
    let fits_id : SFits w16 c.args.id = search rules in
    put_some c.args.out.now c.field.new.self c.write_list.new.out c.args.last c.args.id (to_z w16 (of_z w16 c.args.id)) (to_z w16 (of_z w16 c.args.last)) (to_z w16 (of_z w16 c.args.id)) wires.List
    (list_text g.E.Element.kind g.E.Element.text c.args.elements.now) (to_z-of_z w16 c.args.id fits_id) (to_z-of_z w16 c.args.last fits_last) (to_z-of_z w16 c.args.id fits_id) c.in_ok-field.ensures.ok c.in_ok-write_list.ensures
