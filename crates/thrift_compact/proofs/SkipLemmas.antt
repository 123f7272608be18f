-- Skipping step by step.
use Rattle.std.proofs.Common.{◌≡◌, ℕ, zero, suc, ◌+◌, ◌-◌, ◌/◌, ◌%◌, ◌<◌, ◌≤◌, Bool, true, false, List, refl, sym, ap, ◌∙◌, arith, Result, Ok, Err}
use Rattle.std.specs.Prelude.{ℤ}
use Rattle.thrift_compact.specs.declared.fault.ThriftFault.{ThriftFault}
use Rattle.thrift_compact.specs.declared.fault.ThriftFault.TheVariants as faults
use Rattle.thrift_compact.specs.declared.wire.Wire.{Wire}
use Rattle.thrift_compact.specs.declared.wire.Field.{Field}
use Rattle.row_base.specs.Faults.{◌>>=◌}
use Rattle.thrift_compact.specs.declared.wire.Wire.TheVariants as wires
use Rattle.thrift_compact.specs.declared.wire.ListHead.{ListHead}
use Rattle.thrift_compact.specs.Values.{field_at, list_at, byte_at, known, wire_of}
use Rattle.thrift_compact.specs.Skipped.{list_end, pairs_end, each_end, fields_end, field_end, is_container, plain_end, container_end, value_end}

pub value_end-plain : (levels : ℕ) (bytes : List ℕ) (element : Bool) (wire : Wire) (at : ℕ) → is_container wire ≡ false
    → value_end levels bytes element wire at ≡ plain_end bytes element wire at
unfolding value_end
value_end-plain zero bytes element wire at plain = rw plain refl
value_end-plain (suc levels) bytes element wire at plain = rw plain refl

pub value_end-deep : (bytes : List ℕ) (element : Bool) (wire : Wire) (at : ℕ) → is_container wire ≡ true
    → value_end 0 bytes element wire at ≡ Err (faults.Deep at)
unfolding value_end
value_end-deep bytes element wire at holds = rw holds refl

pub value_end-inner : (levels : ℕ) (bytes : List ℕ) (element : Bool) (wire : Wire) (at : ℕ) → is_container wire ≡ true → 0 < levels
    → value_end levels bytes element wire at ≡ container_end (value_end (levels - 1) bytes) bytes wire at
unfolding value_end
value_end-inner zero bytes element wire at holds some = absurd (omega arith)
value_end-inner (suc levels) bytes element wire at holds some =
    let one_less : levels ≡ suc levels - 1 = omega arith in
    rw holds (ap (λ k. container_end (value_end k bytes) bytes wire at) one_less)

-- one value of a row more
pub each_step : (one : ℕ → Result ℕ ThriftFault) (count i at end : ℕ) (whole : Result ℕ ThriftFault) → i < count
    → each_end one (count - i) at ≡ whole → one at ≡ Ok end → each_end one (count - (i + 1)) end ≡ whole
unfolding each_end
each_step one count i at end whole lt before here =
    let left : count - i ≡ suc (count - (i + 1)) = omega arith in
    sym (sym before ∙ ap (λ k. each_end one k at) left ∙ rw here refl)

pub each_fault : (one : ℕ → Result ℕ ThriftFault) (count i at : ℕ) (fault : ThriftFault) (whole : Result ℕ ThriftFault) → i < count
    → each_end one (count - i) at ≡ whole → one at ≡ Err fault → whole ≡ Err fault
unfolding each_end
each_fault one count i at fault whole lt before here =
    let left : count - i ≡ suc (count - (i + 1)) = omega arith in
    sym before ∙ ap (λ k. each_end one k at) left ∙ rw here refl

pub each_done : (one : ℕ → Result ℕ ThriftFault) (count i at : ℕ) (whole : Result ℕ ThriftFault) → count ≤ i → each_end one (count - i) at ≡ whole → whole ≡ Ok at
unfolding each_end
each_done one count i at whole done before =
    let none : count - i ≡ 0 = omega arith in
    sym before ∙ ap (λ k. each_end one k at) none

-- ---- the fields of a struct

-- what reading one field more comes to
pub fields_next : (value : Wire → ℕ → Result ℕ ThriftFault) (bytes : List ℕ) (most : ℕ) (last : ℤ) (at : ℕ) (whole : Result ℕ ThriftFault) → 0 < most
    → fields_end value bytes most last at ≡ whole → whole ≡ (field_at bytes last at >>= λ field. field_end value (fields_end value bytes (most - 1)) field.0 field.1)
unfolding fields_end
fields_next value bytes zero last at whole some before = absurd (omega arith)
fields_next value bytes (suc most) last at whole some before =
    let one_less : most ≡ suc most - 1 = omega arith in
    sym before ∙ ap (λ k. field_at bytes last at >>= λ field. field_end value (fields_end value bytes k) field.0 field.1) one_less

pub fields_fault : (value : Wire → ℕ → Result ℕ ThriftFault) (bytes : List ℕ) (most : ℕ) (last : ℤ) (at : ℕ) (fault : ThriftFault) (whole : Result ℕ ThriftFault) → 0 < most
    → fields_end value bytes most last at ≡ whole → Err fault ≡ field_at bytes last at → Err fault ≡ whole
fields_fault value bytes most last at fault whole some before here =
    sym (fields_next value bytes most last at whole some before ∙ rw (← here) refl)

pub fields_more : (value : Wire → ℕ → Result ℕ ThriftFault) (bytes : List ℕ) (most : ℕ) (last : ℤ) (at : ℕ) (field seen : Field) (from : ℕ) (whole : Result ℕ ThriftFault) → 0 < most
    → fields_end value bytes most last at ≡ whole → Ok (field, from) ≡ field_at bytes last at → field ≡ seen
    → whole ≡ field_end value (fields_end value bytes (most - 1)) seen from
fields_more value bytes most last at field seen from whole some before here is =
    fields_next value bytes most last at whole some before ∙ rw (← here) refl ∙ ap (λ f. field_end value (fields_end value bytes (most - 1)) f from) is

-- ---- lists and maps

pub list_is : (element : Wire → ℕ → Result ℕ ThriftFault) (bytes : List ℕ) (at from : ℕ) (head : ListHead) → Ok (head, from) ≡ list_at bytes at
    → list_end element bytes at ≡ each_end (element head.wire) head.count from
list_is element bytes at from head here = rw (← here) refl

pub pairs_is : (element : Wire → ℕ → Result ℕ ThriftFault) (bytes : List ℕ) (size at types from : ℕ) (key value : Wire)
    → Ok (types, from) ≡ byte_at bytes at → Ok key ≡ known (wire_of (types / 16)) at → Ok value ≡ known (wire_of (types % 16)) at
    → pairs_end element bytes size at ≡ each_end (λ place. element key place >>= element value) size from
pairs_is element bytes size at types from key value here first second =
    ap (λ r. r >>= λ t. known (wire_of (t.0 / 16)) at >>= λ k. known (wire_of (t.0 % 16)) at >>= λ v. each_end (λ place. element k place >>= element v) size t.1) (sym here)
    ∙ ap (λ r. r >>= λ k. known (wire_of (types % 16)) at >>= λ v. each_end (λ place. element k place >>= element v) size from) (sym first)
    ∙ ap (λ r. r >>= λ v. each_end (λ place. element key place >>= element v) size from) (sym second)

pub pair_fault_first : (key value : ℕ → Result ℕ ThriftFault) (place : ℕ) (fault : ThriftFault) → Err fault ≡ key place → (key place >>= value) ≡ Err fault
pair_fault_first key value place fault here = rw (← here) refl

pub pair_second : (key value : ℕ → Result ℕ ThriftFault) (place middle : ℕ) (r : Result ℕ ThriftFault) → Ok middle ≡ key place → r ≡ value middle → (key place >>= value) ≡ r
pair_second key value place middle r first second = rw (← first) (sym second)

pub container_list : (inner : Bool → Wire → ℕ → Result ℕ ThriftFault) (bytes : List ℕ) (wire : Wire) (at : ℕ) → (wire ≡ wires.Map → ⊥) → (wire ≡ wires.Struct → ⊥)
    → container_end inner bytes wire at ≡ list_end (inner true) bytes at
container_list inner bytes wires.True at m s = refl
container_list inner bytes wires.False at m s = refl
container_list inner bytes wires.Byte at m s = refl
container_list inner bytes wires.I16 at m s = refl
container_list inner bytes wires.I32 at m s = refl
container_list inner bytes wires.I64 at m s = refl
container_list inner bytes wires.Double at m s = refl
container_list inner bytes wires.Binary at m s = refl
container_list inner bytes wires.List at m s = refl
container_list inner bytes wires.Set at m s = refl
container_list inner bytes wires.Map at m s = absurd (m refl)
container_list inner bytes wires.Struct at m s = absurd (s refl)

pub value_fault : (value : Wire → ℕ → Result ℕ ThriftFault) (bytes : List ℕ) (most : ℕ) (id : ℤ) (wire : Wire) (from : ℕ) (fault : ThriftFault) (whole : Result ℕ ThriftFault)
    → whole ≡ (value wire from >>= fields_end value bytes most id) → Err fault ≡ value wire from → Err fault ≡ whole
value_fault value bytes most id wire from fault whole before here = sym (before ∙ rw (← here) refl)

pub value_next : (value : Wire → ℕ → Result ℕ ThriftFault) (bytes : List ℕ) (most : ℕ) (id : ℤ) (wire : Wire) (from end : ℕ) (whole : Result ℕ ThriftFault)
    → whole ≡ (value wire from >>= fields_end value bytes most id) → Ok end ≡ value wire from → fields_end value bytes most id end ≡ whole
value_next value bytes most id wire from end whole before here = sym (before ∙ rw (← here) refl)
