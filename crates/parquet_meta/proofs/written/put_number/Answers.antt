use Rattle.std.specs.Prelude.{ℤ}
use Rattle.std.proofs.Common.{◌++◌, ◌∙◌, ap, rules}
use Rattle.std.specs.Int.{w16, w64}
use mir.Val.{SFits, to_z, of_z}
use Rattle.std.proofs.lemmas.Int.{to_z-of_z}
use Rattle.thrift_compact.specs.Writing.{number_bytes}
use Rattle.parquet_meta.proofs.Puts.{put_some}
use Rattle.parquet_meta.proofs.written.put_number.Goals as goal

pub returns : goal.returns
returns c =
    let fits_last : SFits w16 c.args.last = search rules in
    let fits_id : SFits w16 c.args.id = search rules in
    let fits_number : SFits w64 c.args.number = search rules in
    put_some c.args.out.now c.field.new.self c.number.new.self c.args.last c.args.id (to_z w16 (of_z w16 c.args.id)) (to_z w16 (of_z w16 c.args.last)) (to_z w16 (of_z w16 c.args.id)) c.args.wire
    (number_bytes c.args.number) (to_z-of_z w16 c.args.id fits_id) (to_z-of_z w16 c.args.last fits_last) (to_z-of_z w16 c.args.id fits_id) c.in_ok-field.ensures.ok (c.in_ok-number.ensures.ok ∙ ap (λ (k : ℤ). c.field.new.self ++ number_bytes k) (to_z-of_z w64 c.args.number fits_number))
