use Rattle.thrift_compact.specs.Values.{field_at}
use Rattle.parquet_meta.specs.Values.{field_in}
use Rattle.parquet_meta.proofs.Bounds.{field_stays}
use Rattle.parquet_meta.proofs.Moved.{fault_fits, place_fits, moved, field_goes, field_advances}
use Rattle.parquet_meta.proofs.reader.Reader.field.Goals as goal
use Rattle.std.proofs.Common.{rules}
use Rattle.std.specs.Int.{w16}
use mir.Val.{SFits}
use Rattle.std.proofs.lemmas.Int.{to_z-of_z}

pub locate-requires : goal.locate-requires
locate-requires c =
    let fits : SFits w16 c.args.last = search rules in
    let told = rw (to_z-of_z w16 c.args.last fits) at c.field-read.ensures in
    fault_fits (λ field. field) c.self.inside.cursor c.field-read.new.self c.self.inside.start c.field-read.result
    (field_at c.self.inside.cursor.bytes c.args.last c.self.inside.cursor.at)
    c.self.invariant.1 told (field_stays c.self.inside.cursor.bytes c.args.last c.self.inside.cursor.at c.self.invariant.0)

pub invariant_of-self : goal.invariant_of-self
invariant_of-self c =
    let fits : SFits w16 c.args.last = search rules in
    let told = rw (to_z-of_z w16 c.args.last fits) at c.field-read.ensures in
    place_fits (λ field. field) c.self.inside.cursor c.field-read.new.self c.self.inside.start c.field-read.result
    (field_at c.self.inside.cursor.bytes c.args.last c.self.inside.cursor.at)
    c.self.invariant.0 c.self.invariant.1 told (field_stays c.self.inside.cursor.bytes c.args.last c.self.inside.cursor.at c.self.invariant.0)

pub returns-clause-moves : goal.returns-clause-moves
unfolding field_in
returns-clause-moves c =
    let fits : SFits w16 c.args.last = search rules in
    let told = rw (to_z-of_z w16 c.args.last fits) at c.field-read.ensures in
    rw (c.locate.ensures, ← c.self.view_is)
    (moved (λ field. field) c.self.inside.cursor c.field-read.new.self c.self.inside.start c.field-read.result
    (field_at c.self.inside.cursor.bytes c.args.last c.self.inside.cursor.at)
    told (field_stays c.self.inside.cursor.bytes c.args.last c.self.inside.cursor.at c.self.invariant.0) (field_goes c.self.inside.cursor.bytes c.args.last c.self.inside.cursor.at))

pub returns-clause-advances : goal.returns-clause-advances
returns-clause-advances c =
    let fits : SFits w16 c.args.last = search rules in
    let told = rw (to_z-of_z w16 c.args.last fits) at c.field-read.ensures in
    rw (c.locate.ensures, ← c.self.view_is)
    (field_advances c.self.inside.start c.self.inside.cursor c.field-read.new.self c.args.last c.field-read.result told)
