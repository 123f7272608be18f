use Rattle.std.proofs.Common.{◌≡◌, length, ◌∙◌, rules}
use Rattle.std.specs.Prelude.{pos}
use Rattle.std.specs.Int.{w16}
use mir.Val.{SFits, to_z}
use Rattle.std.proofs.lemmas.Int.{to_z-of_z}
use Rattle.std.proofs.lemmas.Result.{err_from_is_err_and}
use Rattle.workbench.specs.Reading.{field_count}
use Rattle.workbench.proofs.Counting.{field_fault, field_stop, skip_fault, skip_next, fields_done}
use Rattle.workbench.proofs.reading.count_fields.Goals as goal

pub returns-in_err-field : goal.returns-in_err-field
returns-in_err-field c =
    let bytes = c.args.bytes.now in
    let whole = field_count (length bytes) bytes (pos 0) 0 in
    let p = err_from_is_err_and c.from_residual.result c.from_residual.ensures.1 in
    rw (p.1, p.2)
    (field_fault (length bytes) c.loop-count.count bytes (to_z w16 c.loop-count.last-bits) c.loop-count.cursor.at c.in_err-field.field-0.0 whole
    c.loop-count-test.true c.loop-count.invariant.rest (rw c.loop-count.invariant.bytes at c.in_err-field.ensures.0))

pub returns-in-Stop : goal.returns-in-Stop
returns-in-Stop c =
    let bytes = c.args.bytes.now in
    let whole = field_count (length bytes) bytes (pos 0) 0 in
    rw c.at.ensures
    (field_stop (length bytes) c.loop-count.count bytes (to_z w16 c.loop-count.last-bits) c.loop-count.cursor.at c.field.new.self.at c.in_ok-field.field-0 whole
    c.loop-count-test.true c.loop-count.invariant.rest (rw c.loop-count.invariant.bytes at c.in_ok-field.ensures.0) c.in-Stop.is)

pub returns-in_err-skip-in-Next : goal.returns-in_err-skip-in-Next
returns-in_err-skip-in-Next c =
    let bytes = c.args.bytes.now in
    let whole = field_count (length bytes) bytes (pos 0) 0 in
    let same : c.field.new.self.bytes ≡ bytes = c.in_ok-field.ensures.1 ∙ c.loop-count.invariant.bytes in
    let p = err_from_is_err_and c.from_residual-in_err-skip-in-Next.result c.from_residual-in_err-skip-in-Next.ensures.1 in
    rw (p.1, p.2)
    (skip_fault (length bytes) c.loop-count.count bytes (to_z w16 c.loop-count.last-bits) c.in-Next.id c.in-Next.wire c.loop-count.cursor.at c.field.new.self.at
    c.in_ok-field.field-0 c.in_err-skip-in-Next.field-0.0 whole
    c.loop-count-test.true c.loop-count.invariant.rest (rw c.loop-count.invariant.bytes at c.in_ok-field.ensures.0) c.in-Next.is
    (rw same at c.in_err-skip-in-Next.ensures.0))

pub loop-count-preserved : goal.loop-count-preserved
loop-count-preserved c =
    let bytes = c.args.bytes.now in
    let whole = field_count (length bytes) bytes (pos 0) 0 in
    let same : c.field.new.self.bytes ≡ bytes = c.in_ok-field.ensures.1 ∙ c.loop-count.invariant.bytes in
    let fits : SFits w16 c.in-Next.id = search rules in
    record {
      bytes = c.in_ok-skip-in-Next.ensures.1 ∙ same;
      rest = rw (to_z-of_z w16 c.in-Next.id fits)
          (skip_next (length bytes) c.loop-count.count bytes (to_z w16 c.loop-count.last-bits) c.in-Next.id c.in-Next.wire c.loop-count.cursor.at c.field.new.self.at
          c.skip.new.self.at c.in_ok-field.field-0 c.in_ok-skip-in-Next.field-0 whole
          c.loop-count-test.true c.loop-count.invariant.rest (rw c.loop-count.invariant.bytes at c.in_ok-field.ensures.0) c.in-Next.is
          (rw same at c.in_ok-skip-in-Next.ensures.0));
    }

pub returns : goal.returns
returns c =
    let bytes = c.args.bytes.now in
    rw c.at-2.ensures
    (fields_done (length bytes) c.loop-count.count bytes (to_z w16 c.loop-count.last-bits) c.loop-count.cursor.at (field_count (length bytes) bytes (pos 0) 0)
    c.loop-count-test.false c.loop-count.invariant.rest)
