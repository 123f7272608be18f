-- Packed values determine their bytes, and bytes that hold so many values determine these.
use Rattle.std.proofs.Common.{◌≡◌, ◌≢◌, ℕ, zero, suc, ◌+◌, ◌*◌, ◌/◌, ◌%◌, ◌^◌, ◌<◌, ◌≤◌, inl, inr, List, [], ◌∷◌, length, get_or, refl, sym, ap, ◌∙◌, arith}
use Rattle.std.proofs.Math.Nat.{zero-mul, mul_comm}
use Rattle.std.proofs.lemmas.Nat.{shr-shr, shr_split, mod-pow-add}
use Rattle.bit_pack.specs.Bits.{Packed, Packs, Unpacks, IsTooWide, most_values}
use Rattle.bit_pack.specs.declared.fault.PackFault.{PackFault}
use Rattle.bit_pack.specs.declared.fault.PackFault.TheVariants as packs
use Rattle.bit_pack.specs.Numbers.{number_in, fields, packed_number, bytes_of}
use Rattle.bit_pack.proofs.OneReading.{one_packed}
use Rattle.bit_pack.proofs.Wholes.{IsBytes, Packed-fields, length-fields, number_of-rest}
use Rattle.format_kernels.specs.Kernels.{packed, values_of}
use Rattle.format_kernels.proofs.States.{length-values_of, values_fit}

-- the fields of a number, packed again
packed_number-fields : (w n p c : ℕ) → packed_number w (fields w n p c) ≡ n / 2 ^ (p * w) % 2 ^ (c * w)
unfolding packed_number fields
packed_number-fields w n p zero = rw zero-mul (omega arith)
packed_number-fields w n p (suc c) =
    let x = n / 2 ^ (p * w) in
    let next : n / 2 ^ (suc p * w) ≡ x / 2 ^ w = ap (λ j. n / 2 ^ j) (grind arith) ∙ sym (shr-shr n (p * w) w) in
    let split : x % 2 ^ (suc c * w) ≡ (x / 2 ^ w % 2 ^ (c * w)) * 2 ^ w + x % 2 ^ w = ap (λ j. x % 2 ^ j) (grind arith) ∙ mod-pow-add x (c * w) w in
    let others : packed_number w (fields w n (suc p) c) ≡ x / 2 ^ w % 2 ^ (c * w) = packed_number-fields w n (suc p) c ∙ ap (λ m. m % 2 ^ (c * w)) next in
    rw (others, split) (omega (arith, mul_comm (x / 2 ^ w % 2 ^ (c * w)) (2 ^ w)))

-- the bytes of their number
bytes_again : (bytes : List ℕ) → IsBytes bytes → bytes_of (length bytes) (number_in bytes) ≡ bytes
unfolding bytes_of number_in
bytes_again [] small = refl
bytes_again (byte ∷ bytes) small =
    let fits : byte < 256 = small 0 in
    let low : (byte + 256 * number_in bytes) % 256 ≡ byte = omega arith in
    let high : (byte + 256 * number_in bytes) / 256 ≡ number_in bytes = omega arith in
    rw (low, high) (ap (λ (bs : List ℕ). byte ∷ bs) (bytes_again bytes (λ i. small (suc i))))

no_high : (n k : ℕ) → n / 2 ^ k ≡ 0 → n / 1 % 2 ^ k ≡ n
no_high n k e =
    let whole : n / 1 ≡ n = omega arith in
    let none : n / 2 ^ k * 2 ^ k ≡ 0 * 2 ^ k = ap (λ m. m * 2 ^ k) e in
    rw whole (omega (arith, shr_split n k, none))

pub packed_one : (w : ℕ) (values bytes : List ℕ) → IsBytes bytes → Packs w values bytes → bytes ≡ packed w values
unfolding packed
packed_one w values bytes small packs =
    let n = number_in bytes in
    let count = length values in
    let again : Packed w bytes (fields w n 0 count) = Packed-fields w bytes count (fields w n 0 count) small packs.packed.within refl in
    let same : values ≡ fields w n 0 count = one_packed w bytes values (fields w n 0 count) (sym (length-fields w n 0 count)) packs.packed again in
    let none : n / 2 ^ (count * w) ≡ 0 = sym (number_of-rest (count * w) bytes small) ∙ packs.padded in
    let number : packed_number w values ≡ n = ap (λ (xs : List ℕ). packed_number w xs) same ∙ packed_number-fields w n 0 count
    ∙ ap (λ j. n / 2 ^ j % 2 ^ (count * w)) (zero-mul w) ∙ no_high n (count * w) none in
    rw (number, ← packs.fewest) (sym (bytes_again bytes small))

pub unpacked_one : (w count : ℕ) (bytes values found : List ℕ) → length values ≡ count → Packs w values bytes → Unpacks w bytes count found → found ≡ values
unpacked_one w count bytes values found long packs unpacks = one_packed w bytes found values (unpacks.all ∙ sym long) unpacks.packed packs.packed

-- packing values of a width that fits them fails where memory is wanting alone
pub pack_fails : (width count : ℕ) (values : List ℕ) (e : PackFault) → values ≡ values_of width count → count ≤ most_values
    → ((asked : ℕ) → e ≡ packs.Width asked → (asked ≡ width) × IsTooWide width values) → (e ≡ packs.Count → (width ≤ 32) × (most_values < length values))
    → e ≢ packs.Short → width ≤ 32 → e ≡ packs.NoMemory
pack_fails width count values packs.Short made few wide large short narrow = absurd (short refl)
pack_fails width count values (packs.Width asked) made few wide large short narrow = elim ((wide asked refl).1) [
  | inl past ↦ absurd (omega arith)
  | inr found ↦
      let k = found.1.0 in
      let long : length values ≡ count = ap (λ (vs : List ℕ). length vs) made ∙ length-values_of width count in
      let fits : get_or values k 0 < 2 ^ width = rw made (values_fit width count narrow k (omega (arith, found.1.1))) in
      absurd (omega (arith, found.1.2))
]
pack_fails width count values packs.Count made few wide large short narrow =
    let long : length values ≡ count = ap (λ (vs : List ℕ). length vs) made ∙ length-values_of width count in
    absurd (omega (arith, (large refl).1))
pack_fails width count values packs.NoMemory made few wide large short narrow = refl

-- so does unpacking the bytes
pub unpack_fails : (width count : ℕ) (values bytes : List ℕ) (e : PackFault) → values ≡ values_of width count → count ≤ most_values → Packs width values bytes
    → ((asked : ℕ) → e ≡ packs.Width asked → (asked ≡ width) × (32 < width)) → (e ≡ packs.Count → (width ≤ 32) × (most_values < count))
    → (e ≡ packs.Short → (width ≤ 32) × (count ≤ most_values) × (8 * length bytes < count * width)) → width ≤ 32 → e ≡ packs.NoMemory
unpack_fails width count values bytes packs.Short made few packed wide large short narrow =
    let long : length values ≡ count = ap (λ (vs : List ℕ). length vs) made ∙ length-values_of width count in
    let within : count * width ≤ 8 * length bytes = rw long at packed.packed.within in
    absurd (omega (arith, (short refl).2))
unpack_fails width count values bytes (packs.Width asked) made few packed wide large short narrow = absurd (omega (arith, (wide asked refl).1))
unpack_fails width count values bytes packs.Count made few packed wide large short narrow = absurd (omega (arith, (large refl).1))
unpack_fails width count values bytes packs.NoMemory made few packed wide large short narrow = refl
