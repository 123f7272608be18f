use Rattle.std.proofs.Common.{◌-◌, suc, length, refl, ap, Ok, ◌∙◌, arith, rules}
use Rattle.std.proofs.lemmas.Result.{err_from_is_err_and}
use Rattle.std.specs.Int.{w16}
use mir.Val.{SFits, to_z}
use Rattle.std.proofs.lemmas.Int.{to_z-of_z}
use Rattle.parquet_meta.specs.Pieces.{Piece}
use Rattle.parquet_meta.specs.Structs.{fields_of}
use Rattle.parquet_meta.proofs.Loops.{field_fault, put_fault, put_next}
use Rattle.parquet_meta.proofs.fields.read_fields.Goals as goal

pub loop-known-init : goal.loop-known-init
loop-known-init g c = record { same = refl; behind = omega arith; rest = (suc (length c.args.reader.now.piece.bytes), omega arith, refl) }

pub returns-in_err-field : goal.returns-in_err-field
returns-in_err-field g c =
    let p = err_from_is_err_and c.from_residual.result c.from_residual.ensures.1 in
    let rest = c.loop-known.invariant.rest in
    rw (p.1, p.2)
    (field_fault g.F.Fields.step c.args.reader.now.piece c.loop-known.reader.piece rest.0 (to_z w16 c.loop-known.last-bits) c.loop-known.known c.loop-known.reader.at
    (fields_of g.F.Fields.step c.args.none c.args.reader.now.piece c.args.reader.now.at) c.in_err-field.field-0.0
    c.loop-known.invariant.same (omega (arith, rest.1)) rest.2 c.in_err-field.ensures.moves)

pub returns-in_err-put-in-Next : goal.returns-in_err-put-in-Next
returns-in_err-put-in-Next g c =
    let p = err_from_is_err_and c.from_residual-in_err-put-in-Next.result c.from_residual-in_err-put-in-Next.ensures.1 in
    let rest = c.loop-known.invariant.rest in
    let fits : SFits w16 c.in-Next.id = search rules in
    rw (p.1, p.2)
    (put_fault g.F.Fields.step c.args.reader.now.piece c.loop-known.reader.piece c.field.new.self.piece rest.0 (to_z w16 c.loop-known.last-bits) c.in-Next.id c.in-Next.wire c.loop-known.known
    c.loop-known.reader.at c.place-place.result c.field.new.self.at (fields_of g.F.Fields.step c.args.none c.args.reader.now.piece c.args.reader.now.at) c.in_err-put-in-Next.field-0.0
    c.loop-known.invariant.same c.in_ok-field.ensures.moves.1 (omega (arith, rest.1)) rest.2 (c.in_ok-field.ensures.moves.0 ∙ ap (λ f. Ok (f, c.field.new.self.at)) c.in-Next.is)
    c.place-place.ensures (rw (to_z-of_z w16 c.in-Next.id fits) at c.in_err-put-in-Next.ensures))

pub loop-known-preserved : goal.loop-known-preserved
loop-known-preserved g c =
    let rest = c.loop-known.invariant.rest in
    let fits : SFits w16 c.in-Next.id = search rules in
    let put = rw (to_z-of_z w16 c.in-Next.id fits) at c.in_ok-put-in-Next.ensures in
    let moves = c.in_ok-field.ensures.moves in
    record {
      same = c.in_ok-put-in-Next.ensures.1 ∙ moves.1 ∙ c.loop-known.invariant.same;
      behind = omega (arith, c.loop-known.invariant.behind, moves.2, put.2);
      rest = (
        rest.0 - 1,
        omega (arith, rest.1, c.in_ok-field.ensures.advances, moves.3, put.2, put.3, ap (λ (p : Piece). length p.bytes) c.loop-known.invariant.same, ap (λ (p : Piece). length p.bytes) moves.1),
        rw (to_z-of_z w16 c.in-Next.id fits)
            (put_next g.F.Fields.step c.args.reader.now.piece c.loop-known.reader.piece c.field.new.self.piece rest.0 (to_z w16 c.loop-known.last-bits) c.in-Next.id c.in-Next.wire c.loop-known.known c.put.new.self
            c.loop-known.reader.at c.place-place.result c.field.new.self.at c.put.new.reader.at (fields_of g.F.Fields.step c.args.none c.args.reader.now.piece c.args.reader.now.at)
            c.loop-known.invariant.same moves.1 (omega (arith, rest.1)) rest.2 (moves.0 ∙ ap (λ f. Ok (f, c.field.new.self.at)) c.in-Next.is)
            c.place-place.ensures put.0),
      );
    }
