use Rattle.std.proofs.Common.{◌∷◌, []}
use Rattle.std.specs.Prelude.{pos}
use Rattle.std.proofs.Common.{refl}
use Rattle.std.specs.Int.{w16}
use mir.Val.{to_z, of_z}
use Rattle.std.proofs.lemmas.Int.{to_z-of_z}
use Rattle.thrift_compact.specs.declared.wire.Wire.TheVariants as wires
use Rattle.parquet_meta.proofs.Puts.{put_some, put_none}
use Rattle.parquet_meta.proofs.written.put_v2.Goals as goal

pub returns : goal.returns
returns c =
    rw c.if-not-data_page_v2.false
    (put_some c.args.out.now c.field.new.self c.stop.new.self c.args.last (pos 8) (pos 8) (to_z w16 (of_z w16 c.args.last)) (pos 8) wires.Struct
    (0 ∷ []) refl (to_z-of_z w16 c.args.last c.ranges.last) refl c.in_ok-field.ensures.ok c.in_ok-stop.ensures.ok)

pub returns-then-not-data_page_v2 : goal.returns-then-not-data_page_v2
returns-then-not-data_page_v2 c =
    rw c.if-not-data_page_v2.true (put_none c.args.out.now c.args.last (to_z w16 (of_z w16 c.args.last)) (to_z-of_z w16 c.args.last c.ranges.last))
