-- Counting the fields of a struct, one by one.
use Rattle.std.proofs.Common.{◌≡◌, ℕ, suc, ◌+◌, ◌-◌, ◌<◌, ◌≤◌, List, refl, sym, ap, ◌∙◌, arith, Result, Ok, Err}
use Rattle.std.specs.Prelude.{ℤ}
use Rattle.thrift_compact.specs.declared.fault.ThriftFault.{ThriftFault}
use Rattle.thrift_compact.specs.declared.fault.ThriftFault.TheVariants as faults
use Rattle.thrift_compact.specs.declared.wire.Wire.{Wire}
use Rattle.thrift_compact.specs.declared.wire.Field.{Field}
use Rattle.thrift_compact.specs.declared.wire.Field.TheVariants as fields
use Rattle.row_base.specs.Faults.{◌>>=◌}
use Rattle.thrift_compact.specs.Values.{field_at}
use Rattle.thrift_compact.specs.Skipped.{skipped_at}
use Rattle.workbench.specs.Reading.{after_fields, count_from, field_count}

pub after_none : (r : Result (ℕ × ℕ) ThriftFault) → after_fields 0 r ≡ r
after_none (Ok n) = let same : 0 + n.0 ≡ n.0 = omega arith in ap (λ k. Ok (k, n.1)) same
after_none (Err e) = refl

after_more : (count : ℕ) (r : Result (ℕ × ℕ) ThriftFault) → after_fields count (after_fields 1 r) ≡ after_fields (count + 1) r
after_more count (Ok n) = let same : count + (1 + n.0) ≡ count + 1 + n.0 = omega arith in ap (λ k. Ok (k, n.1)) same
after_more count (Err e) = refl

-- what reading one field more comes to
one_more : (most count : ℕ) (bytes : List ℕ) (last : ℤ) (at : ℕ) (whole : Result (ℕ × ℕ) ThriftFault) → count < most
    → after_fields count (field_count (most - count) bytes last at) ≡ whole
    → after_fields count (field_at bytes last at >>= λ field. count_from bytes (field_count (most - (count + 1)) bytes) field.0 field.1) ≡ whole
unfolding field_count
one_more most count bytes last at whole few before =
    let left : most - count ≡ suc (most - (count + 1)) = omega arith in
    ap (λ k. after_fields count (field_count k bytes last at)) (sym left) ∙ before

pub field_fault : (most count : ℕ) (bytes : List ℕ) (last : ℤ) (at : ℕ) (fault : ThriftFault) (whole : Result (ℕ × ℕ) ThriftFault) → count < most
    → after_fields count (field_count (most - count) bytes last at) ≡ whole → field_at bytes last at ≡ Err fault → Err fault ≡ whole
field_fault most count bytes last at fault whole few before here = rw here at (one_more most count bytes last at whole few before)

pub field_stop : (most count : ℕ) (bytes : List ℕ) (last : ℤ) (at end : ℕ) (field : Field) (whole : Result (ℕ × ℕ) ThriftFault) → count < most
    → after_fields count (field_count (most - count) bytes last at) ≡ whole → field_at bytes last at ≡ Ok (field, end) → field ≡ fields.Stop → Ok (count, end) ≡ whole
field_stop most count bytes last at end field whole few before here is =
    let same : count + 0 ≡ count = omega arith in
    let all : field_at bytes last at ≡ Ok (fields.Stop, end) = here ∙ ap (λ (f : Field). Ok (f, end)) is in
    ap (λ (k : ℕ). Ok (k, end)) (sym same) ∙ (rw all at (one_more most count bytes last at whole few before))

pub skip_fault : (most count : ℕ) (bytes : List ℕ) (last id : ℤ) (wire : Wire) (at from : ℕ) (field : Field) (fault : ThriftFault) (whole : Result (ℕ × ℕ) ThriftFault) → count < most
    → after_fields count (field_count (most - count) bytes last at) ≡ whole → field_at bytes last at ≡ Ok (field, from) → field ≡ fields.Next id wire
    → skipped_at bytes wire from ≡ Err fault → Err fault ≡ whole
skip_fault most count bytes last id wire at from field fault whole few before here is skip =
    let all : field_at bytes last at ≡ Ok (fields.Next id wire, from) = here ∙ ap (λ (f : Field). Ok (f, from)) is in
    let next = rw all at (one_more most count bytes last at whole few before) in
    rw skip at next

pub skip_next : (most count : ℕ) (bytes : List ℕ) (last id : ℤ) (wire : Wire) (at from to : ℕ) (field : Field) (nothing : Unit {0}) (whole : Result (ℕ × ℕ) ThriftFault) → count < most
    → after_fields count (field_count (most - count) bytes last at) ≡ whole → field_at bytes last at ≡ Ok (field, from) → field ≡ fields.Next id wire
    → skipped_at bytes wire from ≡ Ok (nothing, to) → after_fields (count + 1) (field_count (most - (count + 1)) bytes id to) ≡ whole
skip_next most count bytes last id wire at from to field nothing whole few before here is skip =
    let all : field_at bytes last at ≡ Ok (fields.Next id wire, from) = here ∙ ap (λ (f : Field). Ok (f, from)) is in
    let next = rw all at (one_more most count bytes last at whole few before) in
    sym (after_more count (field_count (most - (count + 1)) bytes id to)) ∙ (rw skip at next)

pub fields_done : (most count : ℕ) (bytes : List ℕ) (last : ℤ) (at : ℕ) (whole : Result (ℕ × ℕ) ThriftFault) → most ≤ count
    → after_fields count (field_count (most - count) bytes last at) ≡ whole → Err (faults.Short at) ≡ whole
unfolding field_count
fields_done most count bytes last at whole done before =
    let none : most - count ≡ 0 = omega arith in
    ap (λ k. after_fields count (field_count k bytes last at)) (sym none) ∙ before
