-- Places within the bytes: what reading gives ends there, and a fault names a place there.
use Rattle.std.proofs.Common.{◌≡◌, ℕ, zero, suc, ◌+◌, ◌/◌, ◌%◌, ◌^◌, ◌≤◌, Bool, true, false, cond, ltb, eqb, List, length, take, drop, get_or, refl, arith, inl, inr, Result, Ok, Err, Option, Some, None}
use Rattle.std.specs.Prelude.{ℤ, pos, ◌+ℤ◌}
use Rattle.std.proofs.lemmas.Bool.{cases_Bool, ltb-false}
use Rattle.thrift_compact.specs.declared.fault.ThriftFault.{ThriftFault}
use Rattle.thrift_compact.specs.declared.fault.ThriftFault.TheVariants as thrift
use Rattle.thrift_compact.specs.declared.wire.Wire.{Wire}
use Rattle.thrift_compact.specs.declared.wire.Wire.TheVariants as wires
use Rattle.thrift_compact.specs.declared.wire.Field.{Field}
use Rattle.thrift_compact.specs.declared.wire.Field.TheVariants as fields
use Rattle.thrift_compact.specs.declared.wire.ListHead.{ListHead}
use Rattle.row_base.specs.Faults.{◌>>=◌}
use Rattle.thrift_compact.specs.Varints.{Varint, number, ends, long, varint, unzigzag}
use Rattle.thrift_compact.specs.Values.{varint_here, varint_at, number_at, size_at, behind, binary_at, byte_at, wire_of, known, field_here, fits_16, field_at, list_at}
use Rattle.thrift_compact.specs.Skipped.{each_end, field_end, fields_end, is_container, plain_end, list_end, pairs_end, map_end, container_end, value_end, skipped_at}
use Rattle.thrift_compact.proofs.Standing.{size_of}
use Rattle.thrift_compact.proofs.ReadingLaws.{varint_at_found}
use Rattle.parquet_meta.specs.Faults.{place_of}

-- what is read ends within so many bytes, and so does a fault
abbrev pub Stays : {A : Type 0} → (A → ℕ) → ℕ → Result A ThriftFault → Type 0
Stays end n (Ok x) = end x ≤ n
Stays end n (Err f) = place_of f ≤ n

abbrev pub behind_it : {A : Type 0} → A × ℕ → ℕ
behind_it k = k.1

abbrev itself : ℕ → ℕ
itself k = k

stays_bind : {A B : Type 0} (end : A → ℕ) (to : B → ℕ) (n : ℕ) (r : Result A ThriftFault) (f : A → Result B ThriftFault)
    → Stays end n r → ((x : A) → end x ≤ n → Stays to n (f x)) → Stays to n (r >>= f)
stays_bind end to n (Ok x) f h g = g x h
stays_bind end to n (Err e) f h g = h

stays_if : {A : Type 0} (end : A → ℕ) (n : ℕ) (b : Bool) (x y : Result A ThriftFault) → Stays end n x → Stays end n y → Stays end n (cond b x y)
stays_if end n true x y h g = h
stays_if end n false x y h g = g

-- ---- single values

behind_stays : (bytes : List ℕ) (at count : ℕ) → Stays itself (length bytes) (behind bytes at count)
behind_stays bytes at count = elim (cases_Bool (ltb (length bytes) (at + count))) [
  | inl over ↦ rw over (omega arith)
  | inr within ↦ rw within (ltb-false (length bytes) (at + count) within)
]

-- a fault names a place within so many bytes
abbrev Placed : {A : Type 0} → ℕ → Result A ThriftFault → Type 0
Placed n (Ok x) = Unit {0}
Placed n (Err f) = place_of f ≤ n

varint_here_placed : (bytes : List ℕ) (at : ℕ) → at ≤ length bytes → (v : Varint) → Placed (length bytes) (varint_here bytes at v)
varint_here_placed bytes at within (number value len) = elim (cases_Bool (ltb value (2 ^ 64))) [ inl e ↦ rw e tt | inr e ↦ rw e within ]
varint_here_placed bytes at within ends = omega arith
varint_here_placed bytes at within long = within

-- from where it ends, and where its fault is
stays_from : {A : Type 0} (end : A → ℕ) (n : ℕ) (r : Result A ThriftFault) → ((x : A) → r ≡ Ok x → end x ≤ n) → Placed n r → Stays end n r
stays_from end n (Ok x) h g = h x refl
stays_from end n (Err f) h g = g

varint_at_stays : (bytes : List ℕ) (at : ℕ) → at ≤ length bytes → Stays behind_it (length bytes) (varint_at bytes at)
unfolding varint_at
varint_at_stays bytes at within =
    stays_from behind_it (length bytes) (varint_at bytes at)
    (λ (k : ℕ × ℕ) e. let found = varint_at_found bytes at k.0 k.1 within e in (size_of bytes at found.0 k.1 found.2).1)
    (varint_here_placed bytes at within (varint 10 (drop at bytes)))

pub number_stays : (bytes : List ℕ) (at : ℕ) → at ≤ length bytes → Stays behind_it (length bytes) (number_at bytes at)
unfolding number_at
number_stays bytes at within =
    stays_bind behind_it behind_it (length bytes) (varint_at bytes at) (λ n. Ok (unzigzag n.0, n.1)) (varint_at_stays bytes at within) (λ k h. h)

size_stays : (bytes : List ℕ) (at : ℕ) → at ≤ length bytes → Stays behind_it (length bytes) (size_at bytes at)
unfolding size_at
size_stays bytes at within =
    stays_bind behind_it behind_it (length bytes) (varint_at bytes at) (λ n. cond (ltb n.0 (2 ^ 32)) (Ok n) (Err (thrift.Long at))) (varint_at_stays bytes at within)
    (λ k h. stays_if behind_it (length bytes) (ltb k.0 (2 ^ 32)) (Ok k) (Err (thrift.Long at)) h within)

pub binary_stays : (bytes : List ℕ) (at : ℕ) → at ≤ length bytes → Stays behind_it (length bytes) (binary_at bytes at)
unfolding binary_at
binary_stays bytes at within =
    stays_bind behind_it behind_it (length bytes) (size_at bytes at) (λ n. behind bytes n.1 n.0 >>= λ end. Ok (take n.0 (drop n.1 bytes), end)) (size_stays bytes at within)
    (λ k h. stays_bind itself behind_it (length bytes) (behind bytes k.1 k.0) (λ end. Ok (take k.0 (drop k.1 bytes), end)) (behind_stays bytes k.1 k.0) (λ end g. g))

byte_stays : (bytes : List ℕ) (at : ℕ) → Stays behind_it (length bytes) (byte_at bytes at)
unfolding byte_at
byte_stays bytes at =
    stays_bind itself behind_it (length bytes) (behind bytes at 1) (λ end. Ok (get_or bytes at 0, end)) (behind_stays bytes at 1) (λ end g. g)

known_stays : (n at to : ℕ) (found : Option Wire) → at ≤ n → to ≤ n → Stays (λ (w : Wire). to) n (known found at)
known_stays n at to (Some wire) h g = g
known_stays n at to None h g = h

field_here_stays : (n at : ℕ) (id : ℤ) (wire : Wire) (end : ℕ) → at ≤ n → end ≤ n → Stays behind_it n (field_here at id wire end)
field_here_stays n at id wire end h g = stays_if behind_it n (fits_16 id) (Ok (fields.Next id wire, end)) (Err (thrift.Long at)) g h

pub field_stays : (bytes : List ℕ) (last : ℤ) (at : ℕ) → at ≤ length bytes → Stays behind_it (length bytes) (field_at bytes last at)
unfolding field_at
field_stays bytes last at within =
    let n = length bytes in
    stays_bind behind_it behind_it n (byte_at bytes at) _ (byte_stays bytes at) (λ head h.
    stays_if behind_it n (eqb head.0 0) (Ok (fields.Stop, head.1)) _ h
    (stays_bind (λ (w : Wire). head.1) behind_it n (known (wire_of (head.0 % 16)) at) _ (known_stays n at head.1 (wire_of (head.0 % 16)) within h) (λ wire g.
    stays_if behind_it n (ltb head.0 16) _ (field_here at (last +ℤ pos (head.0 / 16)) wire head.1)
    (stays_bind behind_it behind_it n (number_at bytes head.1) (λ id. field_here at id.0 wire id.1) (number_stays bytes head.1 h) (λ id f. field_here_stays n at id.0 wire id.1 within f))
    (field_here_stays n at (last +ℤ pos (head.0 / 16)) wire head.1 within h))))

pub list_stays : (bytes : List ℕ) (at : ℕ) → at ≤ length bytes → Stays behind_it (length bytes) (list_at bytes at)
unfolding list_at
list_stays bytes at within =
    let n = length bytes in
    stays_bind behind_it behind_it n (byte_at bytes at) _ (byte_stays bytes at) (λ head h.
    stays_bind (λ (w : Wire). head.1) behind_it n (known (wire_of (head.0 % 16)) at) _ (known_stays n at head.1 (wire_of (head.0 % 16)) within h) (λ wire g.
    stays_if behind_it n (eqb (head.0 / 16) 15) _ _
    (stays_bind behind_it behind_it n (size_at bytes head.1) _ (size_stays bytes head.1 h) (λ size f. f))
    h))

-- ---- values that are skipped

-- each value from a place within the bytes stays within
abbrev Keeps : ℕ → (ℕ → Result ℕ ThriftFault) → Type 0
Keeps n one = (at : ℕ) → at ≤ n → Stays itself n (one at)

each_stays : (n : ℕ) (one : ℕ → Result ℕ ThriftFault) → Keeps n one → (count : ℕ) → Keeps n (each_end one count)
unfolding each_end
each_stays n one keeps zero at h = h
each_stays n one keeps (suc count) at h = stays_bind itself itself n (one at) (each_end one count) (keeps at h) (each_stays n one keeps count)

field_end_stays : (n : ℕ) (value : Wire → ℕ → Result ℕ ThriftFault) (others : ℤ → ℕ → Result ℕ ThriftFault) → ((wire : Wire) → Keeps n (value wire)) → ((id : ℤ) → Keeps n (others id))
    → (field : Field) → Keeps n (field_end value others field)
field_end_stays n value others h g fields.Stop at within = within
field_end_stays n value others h g (fields.Next id wire) at within = stays_bind itself itself n (value wire at) (others id) (h wire at within) (g id)

fields_stays : (bytes : List ℕ) (value : Wire → ℕ → Result ℕ ThriftFault) → ((wire : Wire) → Keeps (length bytes) (value wire)) → (most : ℕ) (last : ℤ) → Keeps (length bytes) (fields_end value bytes most last)
unfolding fields_end
fields_stays bytes value h zero last at within = omega arith
fields_stays bytes value h (suc most) last at within =
    stays_bind behind_it itself (length bytes) (field_at bytes last at) (λ field. field_end value (fields_end value bytes most) field.0 field.1) (field_stays bytes last at within)
    (λ field. field_end_stays (length bytes) value (fields_end value bytes most) h (λ id. fields_stays bytes value h most id) field.0 field.1)

varint_end_stays : (bytes : List ℕ) (at : ℕ) → at ≤ length bytes → Stays itself (length bytes) (varint_at bytes at >>= λ (n : ℕ × ℕ). Ok n.1)
varint_end_stays bytes at within = stays_bind behind_it itself (length bytes) (varint_at bytes at) (λ (n : ℕ × ℕ). Ok n.1) (varint_at_stays bytes at within) (λ k h. h)

plain_stays : (bytes : List ℕ) (element : Bool) (wire : Wire) → Keeps (length bytes) (plain_end bytes element wire)
plain_stays bytes element wires.True at h = stays_if itself (length bytes) element (behind bytes at 1) (Ok at) (behind_stays bytes at 1) h
plain_stays bytes element wires.False at h = stays_if itself (length bytes) element (behind bytes at 1) (Ok at) (behind_stays bytes at 1) h
plain_stays bytes element wires.Byte at h = behind_stays bytes at 1
plain_stays bytes element wires.I16 at h = varint_end_stays bytes at h
plain_stays bytes element wires.I32 at h = varint_end_stays bytes at h
plain_stays bytes element wires.I64 at h = varint_end_stays bytes at h
plain_stays bytes element wires.Double at h = behind_stays bytes at 8
plain_stays bytes element wires.Binary at h = stays_bind behind_it itself (length bytes) (binary_at bytes at) (λ (n : List ℕ × ℕ). Ok n.1) (binary_stays bytes at h) (λ k g. g)
plain_stays bytes element wires.List at h = h
plain_stays bytes element wires.Set at h = h
plain_stays bytes element wires.Map at h = h
plain_stays bytes element wires.Struct at h = h

list_end_stays : (bytes : List ℕ) (element : Wire → ℕ → Result ℕ ThriftFault) → ((wire : Wire) → Keeps (length bytes) (element wire)) → Keeps (length bytes) (list_end element bytes)
list_end_stays bytes element h at within =
    stays_bind behind_it itself (length bytes) (list_at bytes at) (λ (head : ListHead × ℕ). each_end (element head.0.wire) head.0.count head.1) (list_stays bytes at within)
    (λ head. each_stays (length bytes) (element head.0.wire) (h head.0.wire) head.0.count head.1)

pairs_end_stays : (bytes : List ℕ) (element : Wire → ℕ → Result ℕ ThriftFault) → ((wire : Wire) → Keeps (length bytes) (element wire)) → (size : ℕ) → Keeps (length bytes) (pairs_end element bytes size)
pairs_end_stays bytes element h size at within =
    let n = length bytes in
    stays_bind behind_it itself n (byte_at bytes at) _ (byte_stays bytes at) (λ types g.
    stays_bind (λ (w : Wire). types.1) itself n (known (wire_of (types.0 / 16)) at) _ (known_stays n at types.1 (wire_of (types.0 / 16)) within g) (λ key _.
    stays_bind (λ (w : Wire). types.1) itself n (known (wire_of (types.0 % 16)) at) _ (known_stays n at types.1 (wire_of (types.0 % 16)) within g) (λ value _.
    each_stays n (λ from. element key from >>= element value) (λ from f. stays_bind itself itself n (element key from) (element value) (h key from f) (h value)) size types.1 g)))

map_end_stays : (bytes : List ℕ) (element : Wire → ℕ → Result ℕ ThriftFault) → ((wire : Wire) → Keeps (length bytes) (element wire)) → Keeps (length bytes) (map_end element bytes)
map_end_stays bytes element h at within =
    stays_bind behind_it itself (length bytes) (size_at bytes at) (λ (size : ℕ × ℕ). cond (eqb size.0 0) (Ok size.1) (pairs_end element bytes size.0 size.1)) (size_stays bytes at within)
    (λ size g. stays_if itself (length bytes) (eqb size.0 0) (Ok size.1) (pairs_end element bytes size.0 size.1) g (pairs_end_stays bytes element h size.0 size.1 g))

container_stays : (bytes : List ℕ) (inner : Bool → Wire → ℕ → Result ℕ ThriftFault) → ((element : Bool) (wire : Wire) → Keeps (length bytes) (inner element wire)) → (wire : Wire)
    → Keeps (length bytes) (container_end inner bytes wire)
container_stays bytes inner h wires.Struct at within = fields_stays bytes (inner false) (h false) (suc (length bytes)) (pos 0) at within
container_stays bytes inner h wires.Map at within = map_end_stays bytes (inner true) (h true) at within
container_stays bytes inner h wires.True at within = list_end_stays bytes (inner true) (h true) at within
container_stays bytes inner h wires.False at within = list_end_stays bytes (inner true) (h true) at within
container_stays bytes inner h wires.Byte at within = list_end_stays bytes (inner true) (h true) at within
container_stays bytes inner h wires.I16 at within = list_end_stays bytes (inner true) (h true) at within
container_stays bytes inner h wires.I32 at within = list_end_stays bytes (inner true) (h true) at within
container_stays bytes inner h wires.I64 at within = list_end_stays bytes (inner true) (h true) at within
container_stays bytes inner h wires.Double at within = list_end_stays bytes (inner true) (h true) at within
container_stays bytes inner h wires.Binary at within = list_end_stays bytes (inner true) (h true) at within
container_stays bytes inner h wires.List at within = list_end_stays bytes (inner true) (h true) at within
container_stays bytes inner h wires.Set at within = list_end_stays bytes (inner true) (h true) at within

value_stays : (levels : ℕ) (bytes : List ℕ) (element : Bool) (wire : Wire) → Keeps (length bytes) (value_end levels bytes element wire)
unfolding value_end
value_stays zero bytes element wire at h =
    stays_if itself (length bytes) (is_container wire) (Err (thrift.Deep at)) (plain_end bytes element wire at) h (plain_stays bytes element wire at h)
value_stays (suc levels) bytes element wire at h =
    stays_if itself (length bytes) (is_container wire) (container_end (value_end levels bytes) bytes wire at) (plain_end bytes element wire at)
    (container_stays bytes (value_end levels bytes) (value_stays levels bytes) wire at h) (plain_stays bytes element wire at h)

pub skipped_stays : (bytes : List ℕ) (wire : Wire) (at : ℕ) → at ≤ length bytes → Stays behind_it (length bytes) (skipped_at bytes wire at)
skipped_stays bytes wire at h =
    stays_bind itself behind_it (length bytes) (value_end 16 bytes false wire at) (λ end. Ok (tt, end)) (value_stays 16 bytes false wire at h) (λ k g. g)
