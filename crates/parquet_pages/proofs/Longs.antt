-- Longs one behind the other are the chunks of eight bytes.
use Rattle.std.proofs.Common.{◌≡◌, ℕ, zero, suc, ◌*◌, ◌/◌, ◌<◌, ◌≤◌, Bool, true, false, leb, List, length, take, drop, map, refl, arith, Some, None}
use Rattle.std.proofs.lemmas.Bool.{le-leb, lt-leb, leb-true, leb-false}
use Rattle.std.proofs.lemmas.List.{length-drop}
use Rattle.std.specs.Simd.{first_chunks}
use Rattle.row_base.specs.declared.row.Kind.TheVariants as kind
use Rattle.parquet_pages.specs.Plain.{long_datum, plain_value, values_in_line}

long_here : (bytes : List ℕ) → 8 ≤ length bytes → plain_value kind.Long bytes ≡ Some (long_datum (take 8 bytes), drop 8 bytes)
unfolding plain_value
long_here bytes room = rw (le-leb 8 (length bytes) room) refl

no_long : (bytes : List ℕ) → length bytes < 8 → plain_value kind.Long bytes ≡ None
unfolding plain_value
no_long bytes few = rw (lt-leb 8 (length bytes) few) refl

longs_in : (count n : ℕ) (bytes : List ℕ) → count ≤ n → n * 8 ≤ length bytes
    → values_in_line kind.Long count bytes ≡ Some (map long_datum (take count (first_chunks 8 n bytes)))
unfolding values_in_line
longs_in zero n bytes most room = refl
longs_in (suc count) (suc n) bytes most room =
    let here : 8 ≤ length bytes = omega (arith, room) in
    let behind : n * 8 ≤ length (drop 8 bytes) = omega (arith, room, length-drop 8 bytes) in
    rw (long_here bytes here, longs_in count n (drop 8 bytes) (omega (arith, most)) behind) refl
longs_in (suc count) zero bytes most room = absurd (omega (arith, most))

no_longs_in : (count : ℕ) (bytes : List ℕ) → length bytes < count * 8 → values_in_line kind.Long count bytes ≡ None
unfolding values_in_line
no_longs_in zero bytes few = absurd (omega (arith, few))
no_longs_in (suc count) bytes few = by_room (leb 8 (length bytes)) refl (λ less. no_longs_in count (drop 8 bytes) less)
  where
    by_room : (b : Bool) → leb 8 (length bytes) ≡ b → (length (drop 8 bytes) < count * 8 → values_in_line kind.Long count (drop 8 bytes) ≡ None)
        → values_in_line kind.Long (suc count) bytes ≡ None
    by_room false e behind = rw (no_long bytes (leb-false 8 (length bytes) e)) refl
    by_room true e behind =
        let here : 8 ≤ length bytes = leb-true 8 (length bytes) e in
        rw (long_here bytes here, behind (omega (arith, few, here, length-drop 8 bytes))) refl

-- so many longs, where there are as many chunks
pub longs_there : (count : ℕ) (bytes : List ℕ) → count ≤ length bytes / 8
    → values_in_line kind.Long count bytes ≡ Some (map long_datum (take count (first_chunks 8 (length bytes / 8) bytes)))
longs_there count bytes most = longs_in count (length bytes / 8) bytes most (omega arith)

-- no longs, where there are fewer chunks
pub longs_missing : (count : ℕ) (bytes : List ℕ) → length bytes / 8 < count → values_in_line kind.Long count bytes ≡ None
longs_missing count bytes few = no_longs_in count bytes (omega (arith, few))
