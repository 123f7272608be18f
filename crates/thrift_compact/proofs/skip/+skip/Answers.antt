use Rattle.std.proofs.Common.{◌≡◌, ◌-◌, suc, true, false, length, refl, sym, ap, ◌∙◌, arith, Ok, Err}
use Rattle.std.specs.Prelude.{pos}
use Rattle.std.proofs.lemmas.Result.{err_from_is_err_and}
use Rattle.std.proofs.Common.{rules}
use Rattle.std.specs.Int.{w16}
use mir.Val.{SFits, to_z}
use Rattle.std.proofs.lemmas.Int.{to_z-of_z}
use Rattle.thrift_compact.specs.declared.wire.Field.TheVariants as fields
use Rattle.row_base.specs.Faults.{◌>>=◌}
use Rattle.thrift_compact.specs.Skipped.{value_end, each_end, fields_end, container_end}
use Rattle.thrift_compact.proofs.SkipLemmas.{value_end-plain, value_end-deep, value_end-inner, each_step, each_fault, each_done, fields_fault, fields_more, list_is, pairs_is, value_fault, value_next, pair_fault_first, pair_second, container_list}
use Rattle.thrift_compact.proofs.skip.+skip.Goals as goal

pub find_end-returns-then-not-holds_values-clause-value : goal.find_end-returns-then-not-holds_values-clause-value
find_end-returns-then-not-holds_values-clause-value t c =
    c.find_plain_end.ensures.value ∙ sym (value_end-plain c.args.levels c.args.bytes.now c.args.element c.args.wire c.args.at (sym c.if-not-holds_values.ensures))

pub find_end-returns-then-levels-eq0-clause-value : goal.find_end-returns-then-levels-eq0-clause-value
find_end-returns-then-levels-eq0-clause-value t c =
    sym (ap (λ k. value_end k c.args.bytes.now c.args.element c.args.wire c.args.at) c.if-levels-eq0.true
    ∙ value_end-deep c.args.bytes.now c.args.element c.args.wire c.args.at (sym c.if-not-holds_values.ensures))

pub find_end-returns-in-Struct-clause-value : goal.find_end-returns-in-Struct-clause-value
find_end-returns-in-Struct-clause-value t c =
    c.find_struct_end.ensures.value
    ∙ sym (value_end-inner c.args.levels c.args.bytes.now c.args.element c.args.wire c.args.at (sym c.if-not-holds_values.ensures) (omega arith)
    ∙ ap (λ w. container_end (value_end (c.args.levels - 1) c.args.bytes.now) c.args.bytes.now w c.args.at) c.in-Struct.is)

pub find_end-returns-in-Map-clause-value : goal.find_end-returns-in-Map-clause-value
find_end-returns-in-Map-clause-value t c =
    c.find_map_end.ensures.value
    ∙ sym (value_end-inner c.args.levels c.args.bytes.now c.args.element c.args.wire c.args.at (sym c.if-not-holds_values.ensures) (omega arith)
    ∙ ap (λ w. container_end (value_end (c.args.levels - 1) c.args.bytes.now) c.args.bytes.now w c.args.at) c.in-Map.is)

pub find_end-returns-in_default : goal.find_end-returns-in_default
find_end-returns-in_default t c = record {
  value = c.find_list_end.ensures.value
      ∙ sym (value_end-inner c.args.levels c.args.bytes.now c.args.element c.args.wire c.args.at (sym c.if-not-holds_values.ensures) (omega arith)
      ∙ container_list (value_end (c.args.levels - 1) c.args.bytes.now) c.args.bytes.now c.args.wire c.args.at c.in_default.not-Map c.in_default.not-Struct);
  within = c.find_list_end.ensures.within;
}

pub find_list_end-returns-in_err-place-clause-value : goal.find_list_end-returns-in_err-place-clause-value
find_list_end-returns-in_err-place-clause-value t c =
    let one = value_end c.args.levels c.args.bytes.now true c.in_ok-head.head.wire in
    let whole = each_end one c.in_ok-head.head.count c.in_ok-head.from in
    let p = err_from_is_err_and c.from_residual-in_err-place.result c.from_residual-in_err-place.ensures.1 in
    rw (p.1, p.2)
    (sym (list_is (value_end c.args.levels c.args.bytes.now true) c.args.bytes.now c.args.at c.in_ok-head.from c.in_ok-head.head c.in_ok-head.ensures.value
    ∙ each_fault one c.in_ok-head.head.count c.loop.counter c.loop.place c.in_err-place.field-0.0 whole c.loop-test.true c.loop.invariant.rest (sym c.in_err-place.ensures.value)))

pub find_list_end-loop-preserved : goal.find_list_end-loop-preserved
find_list_end-loop-preserved t c = record {
  behind = omega (arith, c.loop.invariant.behind, c.in_ok-place.ensures.within.0);
  within = c.in_ok-place.ensures.within.1;
  rest = each_step (value_end c.args.levels c.args.bytes.now true c.in_ok-head.head.wire) c.in_ok-head.head.count c.loop.counter c.loop.place c.in_ok-place.place
      (each_end (value_end c.args.levels c.args.bytes.now true c.in_ok-head.head.wire) c.in_ok-head.head.count c.in_ok-head.from)
      c.loop-test.true c.loop.invariant.rest (sym c.in_ok-place.ensures.value);
}

pub find_list_end-returns-clause-value : goal.find_list_end-returns-clause-value
find_list_end-returns-clause-value t c =
    sym (list_is (value_end c.args.levels c.args.bytes.now true) c.args.bytes.now c.args.at c.in_ok-head.from c.in_ok-head.head c.in_ok-head.ensures.value
    ∙ each_done (value_end c.args.levels c.args.bytes.now true c.in_ok-head.head.wire) c.in_ok-head.head.count c.loop.counter c.loop.place
    (each_end (value_end c.args.levels c.args.bytes.now true c.in_ok-head.head.wire) c.in_ok-head.head.count c.in_ok-head.from) c.loop-test.false c.loop.invariant.rest)

pub find_pairs_end-returns-in_err-middle-clause-value : goal.find_pairs_end-returns-in_err-middle-clause-value
find_pairs_end-returns-in_err-middle-clause-value t c =
    let key = value_end c.args.levels c.args.bytes.now true c.in_ok-key.key in
    let value = value_end c.args.levels c.args.bytes.now true c.in_ok-value.value in
    let whole = each_end (λ from. key from >>= value) c.args.size c.in_ok-types.from in
    let p = err_from_is_err_and c.from_residual-in_err-middle.result c.from_residual-in_err-middle.ensures.1 in
    rw (p.1, p.2)
    (sym (pairs_is (value_end c.args.levels c.args.bytes.now true) c.args.bytes.now c.args.size c.args.at c.in_ok-types.types c.in_ok-types.from c.in_ok-key.key c.in_ok-value.value
    c.in_ok-types.ensures.value c.in_ok-key.ensures c.in_ok-value.ensures
    ∙ each_fault (λ from. key from >>= value) c.args.size c.loop.counter c.loop.place c.in_err-middle.field-0.0 whole c.loop-test.true c.loop.invariant.rest
    (pair_fault_first key value c.loop.place c.in_err-middle.field-0.0 c.in_err-middle.ensures.value)))

pub find_pairs_end-returns-in_err-place-clause-value : goal.find_pairs_end-returns-in_err-place-clause-value
find_pairs_end-returns-in_err-place-clause-value t c =
    let key = value_end c.args.levels c.args.bytes.now true c.in_ok-key.key in
    let value = value_end c.args.levels c.args.bytes.now true c.in_ok-value.value in
    let whole = each_end (λ from. key from >>= value) c.args.size c.in_ok-types.from in
    let p = err_from_is_err_and c.from_residual-in_err-place.result c.from_residual-in_err-place.ensures.1 in
    rw (p.1, p.2)
    (sym (pairs_is (value_end c.args.levels c.args.bytes.now true) c.args.bytes.now c.args.size c.args.at c.in_ok-types.types c.in_ok-types.from c.in_ok-key.key c.in_ok-value.value
    c.in_ok-types.ensures.value c.in_ok-key.ensures c.in_ok-value.ensures
    ∙ each_fault (λ from. key from >>= value) c.args.size c.loop.counter c.loop.place c.in_err-place.field-0.0 whole c.loop-test.true c.loop.invariant.rest
    (pair_second key value c.loop.place c.in_ok-middle.middle (Err c.in_err-place.field-0.0) c.in_ok-middle.ensures.value c.in_err-place.ensures.value)))

pub find_pairs_end-loop-preserved : goal.find_pairs_end-loop-preserved
find_pairs_end-loop-preserved t c =
    let key = value_end c.args.levels c.args.bytes.now true c.in_ok-key.key in
    let value = value_end c.args.levels c.args.bytes.now true c.in_ok-value.value in
    record {
      behind = omega (arith, c.loop.invariant.behind, c.in_ok-middle.ensures.within.0, c.in_ok-place.ensures.within.0);
      within = c.in_ok-place.ensures.within.1;
      rest = each_step (λ from. key from >>= value) c.args.size c.loop.counter c.loop.place c.in_ok-place.place
          (each_end (λ from. key from >>= value) c.args.size c.in_ok-types.from)
          c.loop-test.true c.loop.invariant.rest (pair_second key value c.loop.place c.in_ok-middle.middle (Ok c.in_ok-place.place) c.in_ok-middle.ensures.value c.in_ok-place.ensures.value);
    }

pub find_pairs_end-returns-clause-value : goal.find_pairs_end-returns-clause-value
find_pairs_end-returns-clause-value t c =
    let key = value_end c.args.levels c.args.bytes.now true c.in_ok-key.key in
    let value = value_end c.args.levels c.args.bytes.now true c.in_ok-value.value in
    sym (pairs_is (value_end c.args.levels c.args.bytes.now true) c.args.bytes.now c.args.size c.args.at c.in_ok-types.types c.in_ok-types.from c.in_ok-key.key c.in_ok-value.value
    c.in_ok-types.ensures.value c.in_ok-key.ensures c.in_ok-value.ensures
    ∙ each_done (λ from. key from >>= value) c.args.size c.loop.counter c.loop.place
    (each_end (λ from. key from >>= value) c.args.size c.in_ok-types.from) c.loop-test.false c.loop.invariant.rest)

pub find_struct_end-loop-field-init : goal.find_struct_end-loop-field-init
find_struct_end-loop-field-init t c = record {
  behind = omega arith;
  within = c.requires;
  rest = (suc (length c.args.bytes.now), omega arith, refl);
}

pub find_struct_end-returns-in_err-field-clause-value : goal.find_struct_end-returns-in_err-field-clause-value
find_struct_end-returns-in_err-field-clause-value t c =
    let value = value_end c.args.levels c.args.bytes.now false in
    let rest = c.loop-field.invariant.rest in
    let whole = fields_end value c.args.bytes.now (suc (length c.args.bytes.now)) (pos 0) c.args.at in
    let p = err_from_is_err_and c.from_residual.result c.from_residual.ensures.1 in
    rw (p.1, p.2) (fields_fault value c.args.bytes.now rest.0 (to_z w16 c.loop-field.last-bits) c.loop-field.place c.in_err-field.field-0.0 whole (omega (arith, rest.1)) rest.2 c.in_err-field.ensures.value)

pub find_struct_end-returns-in-Stop-clause-value : goal.find_struct_end-returns-in-Stop-clause-value
find_struct_end-returns-in-Stop-clause-value t c =
    let value = value_end c.args.levels c.args.bytes.now false in
    let rest = c.loop-field.invariant.rest in
    let whole = fields_end value c.args.bytes.now (suc (length c.args.bytes.now)) (pos 0) c.args.at in
    sym (fields_more value c.args.bytes.now rest.0 (to_z w16 c.loop-field.last-bits) c.loop-field.place c.in_ok-field.field fields.Stop c.in_ok-field.from whole (omega (arith, rest.1)) rest.2 c.in_ok-field.ensures.value c.in-Stop.is)

pub find_struct_end-returns-in_err-place-in-Next-clause-value : goal.find_struct_end-returns-in_err-place-in-Next-clause-value
find_struct_end-returns-in_err-place-in-Next-clause-value t c =
    let value = value_end c.args.levels c.args.bytes.now false in
    let rest = c.loop-field.invariant.rest in
    let whole = fields_end value c.args.bytes.now (suc (length c.args.bytes.now)) (pos 0) c.args.at in
    let p = err_from_is_err_and c.from_residual-in_err-place-in-Next.result c.from_residual-in_err-place-in-Next.ensures.1 in
    rw (p.1, p.2)
    (value_fault value c.args.bytes.now (rest.0 - 1) c.in-Next.id c.in-Next.wire c.in_ok-field.from c.in_err-place-in-Next.field-0.0 whole
    (fields_more value c.args.bytes.now rest.0 (to_z w16 c.loop-field.last-bits) c.loop-field.place c.in_ok-field.field (fields.Next c.in-Next.id c.in-Next.wire) c.in_ok-field.from whole (omega (arith, rest.1)) rest.2 c.in_ok-field.ensures.value c.in-Next.is)
    c.in_err-place-in-Next.ensures.value)

pub find_struct_end-loop-field-preserved : goal.find_struct_end-loop-field-preserved
find_struct_end-loop-field-preserved t c =
    let value = value_end c.args.levels c.args.bytes.now false in
    let rest = c.loop-field.invariant.rest in
    let whole = fields_end value c.args.bytes.now (suc (length c.args.bytes.now)) (pos 0) c.args.at in
    let fits : SFits w16 c.in-Next.id = search rules in
    let next : fields_end value c.args.bytes.now (rest.0 - 1) c.in-Next.id c.in_ok-place-in-Next.place ≡ whole
    = value_next value c.args.bytes.now (rest.0 - 1) c.in-Next.id c.in-Next.wire c.in_ok-field.from c.in_ok-place-in-Next.place whole
    (fields_more value c.args.bytes.now rest.0 (to_z w16 c.loop-field.last-bits) c.loop-field.place c.in_ok-field.field (fields.Next c.in-Next.id c.in-Next.wire) c.in_ok-field.from whole (omega (arith, rest.1)) rest.2 c.in_ok-field.ensures.value c.in-Next.is)
    c.in_ok-place-in-Next.ensures.value in
    record {
      behind = omega (arith, c.loop-field.invariant.behind, c.in_ok-field.ensures.within.0, c.in_ok-place-in-Next.ensures.within.0);
      within = c.in_ok-place-in-Next.ensures.within.1;
      rest = (rest.0 - 1, omega (arith, rest.1, c.in_ok-field.ensures.within.0, c.in_ok-field.ensures.within.1, c.in_ok-place-in-Next.ensures.within.0), rw (to_z-of_z w16 c.in-Next.id fits) next);
    }
