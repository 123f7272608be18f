-- Bits, bytes and fields as numbers.
use Rattle.std.proofs.Common.{◌≡◌, ℕ, zero, suc, ◌+◌, ◌-◌, ◌*◌, ◌/◌, ◌%◌, ◌^◌, ◌<◌, ◌≤◌, List, [], ◌∷◌, ◌++◌, length, take, drop, get_or, refl, sym, ap, ◌∙◌, arith, add-one, append_assoc, inl, inr}
use Rattle.std.specs.List.{flat_map}
use Rattle.std.proofs.Math.Nat.{pow-suc}
use Rattle.std.proofs.Math.Pow.{mod-mod-pow}
use Rattle.std.proofs.lemmas.Bool.{cases_lt}
use Rattle.std.specs.Int.{w8, w64, from_le_bytes}
use mir.Val.{Fits}
use Rattle.std.proofs.lemmas.List.{length-take, get_or-drop, get_or-take, get_or_past}
use Rattle.std.proofs.lemmas.Nat.{pow_pos, pow-add, shr-shr, mod-pow-add, field_of, shl_whole, or_shifted, or_comm, and_mask, mod_below}
use Rattle.std.specs.Prelude.{bit_or, bit_and}
use Rattle.bit_pack.specs.Bits.{low_bits, bit_list, number_of, value_at, Packed}
use Rattle.bit_pack.specs.Numbers.{number_in, fields}

-- each element is a byte
abbrev pub IsBytes : List ℕ → Type 0
IsBytes bytes = (i : ℕ) → get_or bytes i 0 < 256

pub bytes_fit : (bytes : List ℕ) → ((i : ℕ) → Fits w8 (get_or bytes i 0)) → IsBytes bytes
bytes_fit bytes fits i = omega (arith, fits i)

-- each element is a bit
abbrev IsBits : List ℕ → Type 0
IsBits [] = Unit {0}
IsBits (bit ∷ bits) = (bit < 2) × IsBits bits

add-one-back : (k : ℕ) → suc k ≡ k + 1
add-one-back k = omega arith

-- ---- bits

number_of-low_bits : (k n : ℕ) (rest : List ℕ) → number_of (low_bits k n ++ rest) ≡ n % 2 ^ k + 2 ^ k * number_of rest
unfolding low_bits number_of
number_of-low_bits zero n rest = omega arith
number_of-low_bits (suc k) n rest =
    let low : n % 2 ^ suc k ≡ n / 2 % 2 ^ k * 2 + n % 2 = ap (λ j. n % 2 ^ j) (add-one-back k) ∙ mod-pow-add n k 1 in
    let high : 2 ^ suc k * number_of rest ≡ 2 * (2 ^ k * number_of rest) = rw (pow-suc 2 k) (omega arith) in
    omega (arith, number_of-low_bits k (n / 2) rest, low, high)

number_of-bit_list : (bytes : List ℕ) → IsBytes bytes → number_of (bit_list bytes) ≡ number_in bytes
unfolding bit_list number_of number_in
number_of-bit_list [] fits = refl
number_of-bit_list (b ∷ bytes) fits =
    number_of-low_bits 8 b (flat_map (low_bits 8) bytes)
    ∙ omega (arith, number_of-bit_list bytes (λ i. fits (suc i)), fits 0)

IsBits-append : (xs ys : List ℕ) → IsBits xs → IsBits ys → IsBits (xs ++ ys)
IsBits-append [] ys p q = q
IsBits-append (x ∷ xs) ys p q = (p.0, IsBits-append xs ys p.1 q)

IsBits-low_bits : (k n : ℕ) → IsBits (low_bits k n)
unfolding low_bits
IsBits-low_bits zero n = tt
IsBits-low_bits (suc k) n = (omega arith, IsBits-low_bits k (n / 2))

IsBits-bit_list : (bytes : List ℕ) → IsBits (bit_list bytes)
unfolding bit_list
IsBits-bit_list [] = tt
IsBits-bit_list (b ∷ bytes) = IsBits-append (low_bits 8 b) (flat_map (low_bits 8) bytes) (IsBits-low_bits 8 b) (IsBits-bit_list bytes)

IsBits-drop : (n : ℕ) (bits : List ℕ) → IsBits bits → IsBits (drop n bits)
IsBits-drop zero bits fits = fits
IsBits-drop (suc n) [] fits = tt
IsBits-drop (suc n) (b ∷ bits) fits = IsBits-drop n bits fits.1

number_of-drop : (s : ℕ) (bits : List ℕ) → IsBits bits → number_of (drop s bits) ≡ number_of bits / 2 ^ s
unfolding number_of
number_of-drop zero bits fits = omega arith
number_of-drop (suc s) [] fits = omega (arith, pow_pos (suc s))
number_of-drop (suc s) (b ∷ bits) fits =
    let half : (b + 2 * number_of bits) / 2 ^ 1 ≡ number_of bits = omega (arith, fits.0) in
    number_of-drop s bits fits.1
    ∙ ap (λ n. n / 2 ^ s) (sym half)
    ∙ shr-shr (b + 2 * number_of bits) 1 s
    ∙ ap (λ k. (b + 2 * number_of bits) / 2 ^ k) (omega arith)

number_of-take : (w : ℕ) (bits : List ℕ) → IsBits bits → number_of (take w bits) ≡ number_of bits % 2 ^ w
unfolding number_of
number_of-take zero bits fits = omega arith
number_of-take (suc w) [] fits = omega (arith, pow_pos (suc w))
number_of-take (suc w) (b ∷ bits) fits =
    let half : (b + 2 * number_of bits) / 2 ^ 1 ≡ number_of bits = omega (arith, fits.0) in
    let low : (b + 2 * number_of bits) % 2 ^ 1 ≡ b = omega (arith, fits.0) in
    let whole : (b + 2 * number_of bits) % 2 ^ suc w ≡ number_of bits % 2 ^ w * 2 ^ 1 + b
    = ap (λ j. (b + 2 * number_of bits) % 2 ^ j) (add-one-back w) ∙ mod-pow-add (b + 2 * number_of bits) w 1 ∙ rw (half, low) refl in
    omega (arith, number_of-take w bits fits.1, whole)

-- ---- bytes

pub IsBytes-drop : (n : ℕ) (bytes : List ℕ) → IsBytes bytes → IsBytes (drop n bytes)
IsBytes-drop n bytes fits i = rw get_or-drop (fits (n + i))

IsBytes-take : (n : ℕ) (bytes : List ℕ) → IsBytes bytes → IsBytes (take n bytes)
IsBytes-take n bytes fits i =
    elim (cases_lt i n) [
      | inl lt ↦ rw (get_or-take n bytes i 0 lt) (fits i)
      | inr le ↦ rw (get_or_past (take n bytes) i 0 (omega (arith, length-take n bytes))) (omega arith)
    ]

pub number_in-from : (i : ℕ) (bytes : List ℕ) → number_in (drop i bytes) ≡ get_or bytes i 0 + 256 * number_in (drop (suc i) bytes)
unfolding number_in
number_in-from zero [] = refl
number_in-from zero (b ∷ bytes) = refl
number_in-from (suc i) [] = refl
number_in-from (suc i) (b ∷ bytes) = number_in-from i bytes

pub number_in-drop : (i : ℕ) (bytes : List ℕ) → IsBytes bytes → number_in (drop i bytes) ≡ number_in bytes / 2 ^ (8 * i)
number_in-drop zero bytes fits = omega arith
number_in-drop (suc i) bytes fits =
    let e : number_in (drop (suc i) bytes) ≡ number_in (drop i bytes) / 2 ^ 8 = omega (arith, number_in-from i bytes, fits i) in
    e ∙ ap (λ n. n / 2 ^ 8) (number_in-drop i bytes fits) ∙ shr-shr (number_in bytes) (8 * i) 8 ∙ ap (λ k. number_in bytes / 2 ^ k) (omega arith)

number_in-at : (bytes : List ℕ) (at i j : ℕ) → j ≡ i + 1 → number_in (drop (at + i) bytes) ≡ get_or bytes (at + i) 0 + 256 * number_in (drop (at + j) bytes)
number_in-at bytes at i j e =
    let next : suc (at + i) ≡ at + j = omega arith in
    rw (← next) (number_in-from (at + i) bytes)

eight_more : (i : ℕ) → 8 * suc i ≡ 8 * i + 8
eight_more i = omega arith

pub number_in-take : (i : ℕ) (bytes : List ℕ) → IsBytes bytes → number_in (take i bytes) ≡ number_in bytes % 2 ^ (8 * i)
unfolding number_in
number_in-take zero bytes fits = omega arith
number_in-take (suc i) [] fits = omega (arith, pow_pos (8 * suc i))
number_in-take (suc i) (b ∷ bytes) fits =
    let n = b + 256 * number_in bytes in
    let high : n / 2 ^ 8 ≡ number_in bytes = omega (arith, fits 0) in
    let low : n % 2 ^ 8 ≡ b = omega (arith, fits 0) in
    let whole : n % 2 ^ (8 * suc i) ≡ number_in bytes % 2 ^ (8 * i) * 2 ^ 8 + b
    = ap (λ k. n % 2 ^ k) (eight_more i) ∙ mod-pow-add n (8 * i) 8 ∙ rw (high, low) refl in
    omega (arith, number_in-take i bytes (λ j. fits (suc j)), whole)

-- eight bytes from a place on, as a word
pub word_is : (bytes : List ℕ) (at : ℕ) → IsBytes bytes
    → from_le_bytes w64 (get_or bytes at 0 ∷ get_or bytes (at + 1) 0 ∷ get_or bytes (at + 2) 0 ∷ get_or bytes (at + 3) 0 ∷ get_or bytes (at + 4) 0 ∷ get_or bytes (at + 5) 0 ∷ get_or bytes (at + 6) 0 ∷ get_or bytes (at + 7) 0 ∷ [])
    ≡ number_in bytes / 2 ^ (8 * at) % 2 ^ 64
word_is bytes at fits =
    let next : suc at ≡ at + 1 = omega arith in
    let zeroth : number_in (drop at bytes) ≡ get_or bytes at 0 + 256 * number_in (drop (at + 1) bytes) = rw (← next) (number_in-from at bytes) in
    rw (← number_in-drop at bytes fits)
    (omega (
      arith,
      zeroth,
      number_in-at bytes at 1 2 refl,
      number_in-at bytes at 2 3 refl,
      number_in-at bytes at 3 4 refl,
      number_in-at bytes at 4 5 refl,
      number_in-at bytes at 5 6 refl,
      number_in-at bytes at 6 7 refl,
      number_in-at bytes at 7 8 refl,
      fits at,
      fits (at + 1),
      fits (at + 2),
      fits (at + 3),
      fits (at + 4),
      fits (at + 5),
      fits (at + 6),
      fits (at + 7),
    ))

byte_more : (i : ℕ) → 2 ^ (8 * suc i) ≡ 256 * 2 ^ (8 * i)
byte_more i = ap (λ k. 2 ^ k) (omega arith) ∙ pow-add 2 8 (8 * i)

pub number_in-take_lt : (i : ℕ) (bytes : List ℕ) → IsBytes bytes → number_in (take i bytes) < 2 ^ (8 * i)
unfolding number_in
number_in-take_lt zero bytes fits = omega arith
number_in-take_lt (suc i) [] fits = pow_pos (8 * suc i)
number_in-take_lt (suc i) (b ∷ bytes) fits =
    omega (arith, number_in-take_lt i bytes (λ j. fits (suc j)), fits 0, byte_more i)

pub number_in-take_more : (i : ℕ) (bytes : List ℕ) → i < length bytes → number_in (take (suc i) bytes) ≡ number_in (take i bytes) + get_or bytes i 0 * 2 ^ (8 * i)
unfolding number_in
number_in-take_more i [] lt = absurd (omega arith)
number_in-take_more zero (b ∷ bytes) lt = omega arith
number_in-take_more (suc i) (b ∷ bytes) lt =
    let e : get_or bytes i 0 * 2 ^ (8 * suc i) ≡ 256 * (get_or bytes i 0 * 2 ^ (8 * i)) = rw (byte_more i) (omega arith) in
    omega (arith, number_in-take_more i bytes (omega arith), e)

word_split : (r word : ℕ) → r ≤ word → word ≡ (word - r) + r
word_split r word le = omega arith

-- a field of a word that was cut out of a number is a field of the number
pub field_at : (n at r w word : ℕ) → r + w ≤ word → n / 2 ^ at % 2 ^ word / 2 ^ r % 2 ^ w ≡ n / 2 ^ (at + r) % 2 ^ w
field_at n at r w word within =
    ap (λ k. n / 2 ^ at % 2 ^ k / 2 ^ r % 2 ^ w) (word_split r word (omega arith))
    ∙ ap (λ m. m % 2 ^ w) (field_of (n / 2 ^ at) (word - r) r)
    ∙ ap (λ k. n / 2 ^ at / 2 ^ r % 2 ^ k % 2 ^ w) (word_split w (word - r) (omega arith))
    ∙ mod-mod-pow (n / 2 ^ at / 2 ^ r) (word - r - w) w
    ∙ ap (λ m. m % 2 ^ w) (shr-shr n at r)

-- one bit of bytes
byte_bit : (bytes : List ℕ) (at : ℕ) → IsBytes bytes → get_or bytes (at / 8) 0 / 2 ^ (at % 8) % 2 ≡ number_in bytes / 2 ^ at % 2
byte_bit bytes at fits =
    let byte : get_or bytes (at / 8) 0 ≡ number_in bytes / 2 ^ (8 * (at / 8)) % 2 ^ 8
    = rw (← number_in-drop (at / 8) bytes fits) (omega (arith, number_in-from (at / 8) bytes, fits (at / 8))) in
    ap (λ b. b / 2 ^ (at % 8) % 2) byte
    ∙ field_at (number_in bytes) (8 * (at / 8)) (at % 8) 1 8 (omega arith)
    ∙ ap (λ k. number_in bytes / 2 ^ k % 2) (omega arith)

pub plain_step : (bytes : List ℕ) (s bit : ℕ) → IsBytes bytes → bit < 32
    → bit_or (number_in bytes / 2 ^ s % 2 ^ bit) (bit_and (get_or bytes ((s + bit) / 8) 0 / 2 ^ ((s + bit) % 8)) 1 * 2 ^ bit % 2 ^ 32) ≡ number_in bytes / 2 ^ s % 2 ^ (bit + 1)
plain_step bytes s bit fits lt =
    let n = number_in bytes / 2 ^ s in
    let found : bit_and (get_or bytes ((s + bit) / 8) 0 / 2 ^ ((s + bit) % 8)) 1 ≡ n / 2 ^ bit % 2
    = and_mask (get_or bytes ((s + bit) / 8) 0 / 2 ^ ((s + bit) % 8)) 1 ∙ byte_bit bytes (s + bit) fits ∙ ap (λ m. m % 2) (sym (shr-shr (number_in bytes) s bit)) in
    let whole : (n / 2 ^ bit % 2) * 2 ^ bit % 2 ^ 32 ≡ (n / 2 ^ bit % 2) * 2 ^ bit = shl_whole (n / 2 ^ bit % 2) 1 bit 32 (omega arith) (omega arith) in
    let low : n % 2 ^ bit < 2 ^ bit = mod_below n (2 ^ bit) (pow_pos bit) in
    ap (λ x. bit_or (n % 2 ^ bit) (x * 2 ^ bit % 2 ^ 32)) found
    ∙ ap (λ x. bit_or (n % 2 ^ bit) x) whole
    ∙ or_comm (n % 2 ^ bit) ((n / 2 ^ bit % 2) * 2 ^ bit)
    ∙ or_shifted (n / 2 ^ bit % 2) bit (n % 2 ^ bit) low
    ∙ sym (mod-pow-add n 1 bit)
    ∙ ap (λ k. n % 2 ^ k) (omega arith)

pub value_at_is : (width : ℕ) (bytes : List ℕ) (place : ℕ) → IsBytes bytes → value_at width bytes place ≡ number_in bytes / 2 ^ (place * width) % 2 ^ width
unfolding value_at
value_at_is width bytes place fits =
    number_of-take width (drop (place * width) (bit_list bytes)) (IsBits-drop (place * width) (bit_list bytes) (IsBits-bit_list bytes))
    ∙ ap (λ n. n % 2 ^ width) (number_of-drop (place * width) (bit_list bytes) (IsBits-bit_list bytes))
    ∙ ap (λ n. n / 2 ^ (place * width) % 2 ^ width) (number_of-bit_list bytes fits)

pub number_of-rest : (s : ℕ) (bytes : List ℕ) → IsBytes bytes → number_of (drop s (bit_list bytes)) ≡ number_in bytes / 2 ^ s
number_of-rest s bytes fits = number_of-drop s (bit_list bytes) (IsBits-bit_list bytes) ∙ ap (λ n. n / 2 ^ s) (number_of-bit_list bytes fits)

pub short_step : (bytes : List ℕ) (i : ℕ) → IsBytes bytes → i < length bytes → i < 8
    → bit_or (number_in (take i bytes)) (get_or bytes i 0 * 2 ^ (8 * i) % 2 ^ 64) ≡ number_in (take (i + 1) bytes)
short_step bytes i fits lt small =
    let whole : get_or bytes i 0 * 2 ^ (8 * i) % 2 ^ 64 ≡ get_or bytes i 0 * 2 ^ (8 * i) = shl_whole (get_or bytes i 0) 8 (8 * i) 64 (fits i) (omega arith) in
    rw (whole, or_comm, or_shifted (get_or bytes i 0) (8 * i) (number_in (take i bytes)) (number_in-take_lt i bytes fits), add-one)
    (omega (arith, number_in-take_more i bytes lt))

-- ---- fields

pub length-fields : (w n p c : ℕ) → length (fields w n p c) ≡ c
unfolding fields
length-fields w n p zero = refl
length-fields w n p (suc c) = ap suc (length-fields w n (suc p) c)

pub get_or-fields : (w n p c k d : ℕ) → k < c → get_or (fields w n p c) k d ≡ n / 2 ^ ((p + k) * w) % 2 ^ w
unfolding fields
get_or-fields w n p zero k d lt = absurd (omega arith)
get_or-fields w n p (suc c) zero d lt = ap (λ j. n / 2 ^ (j * w) % 2 ^ w) (omega arith)
get_or-fields w n p (suc c) (suc k) d lt = get_or-fields w n (suc p) c k d (omega arith) ∙ ap (λ j. n / 2 ^ (j * w) % 2 ^ w) (omega arith)

pub Packed-fields : (w : ℕ) (bytes : List ℕ) (count : ℕ) (values : List ℕ) → IsBytes bytes → count * w ≤ 8 * length bytes
    → values ≡ fields w (number_in bytes) 0 count → Packed w bytes values
Packed-fields w bytes count values fits within e =
    let long : length values ≡ count = ap length e ∙ length-fields w (number_in bytes) 0 count in
    record {
      within = rw long within;
      each = λ k lt. ap (λ xs. get_or xs k 0) e ∙ get_or-fields w (number_in bytes) 0 count k 0 (omega arith)
          ∙ ap (λ j. number_in bytes / 2 ^ (j * w) % 2 ^ w) (omega arith) ∙ sym (value_at_is w bytes k fits);
    }

-- the value at a place of a group, cut out of the word at a byte before it
pub wide_is : (n s at w : ℕ) → 8 * at ≤ s → (s - 8 * at) + w ≤ 64 → n / 2 ^ (8 * at) % 2 ^ 64 / 2 ^ (s - 8 * at) % 2 ^ w ≡ n / 2 ^ s % 2 ^ w
wide_is n s at w low high = field_at n (8 * at) (s - 8 * at) w 64 high ∙ ap (λ k. n / 2 ^ k % 2 ^ w) (omega arith)

suc_add_left : (a b : ℕ) → suc a + b ≡ suc (a + b)
suc_add_left a b = omega arith

pub fields-append : (w n p a b : ℕ) → fields w n p (a + b) ≡ fields w n p a ++ fields w n (p + a) b
unfolding fields
fields-append w n p zero b = ap (λ c. fields w n p c) (omega arith) ∙ ap (λ q. fields w n q b) (omega arith)
fields-append w n p (suc a) b =
    ap (λ c. fields w n p c) (suc_add_left a b)
    ∙ ap (λ (xs : List ℕ). n / 2 ^ (p * w) % 2 ^ w ∷ xs) (fields-append w n (suc p) a b ∙ ap (λ q. fields w n (suc p) a ++ fields w n q b) (omega arith))

-- the fields of a number that was cut out of a larger one
fields-cut : (w n at c word p q : ℕ) → (p + c) * w ≤ word → at + p * w ≡ q * w → fields w (n / 2 ^ at % 2 ^ word) p c ≡ fields w n q c
unfolding fields
fields-cut w n at zero word p q within e = refl
fields-cut w n at (suc c) word p q within e =
    let here : n / 2 ^ at % 2 ^ word / 2 ^ (p * w) % 2 ^ w ≡ n / 2 ^ (q * w) % 2 ^ w
    = field_at n at (p * w) w word (grind arith) ∙ ap (λ k. n / 2 ^ k % 2 ^ w) e in
    let rest : fields w (n / 2 ^ at % 2 ^ word) (suc p) c ≡ fields w n (suc q) c
    = fields-cut w n at c word (suc p) (suc q) (grind arith) (grind arith) in
    ap (λ x. x ∷ fields w (n / 2 ^ at % 2 ^ word) (suc p) c) here ∙ ap (λ (xs : List ℕ). n / 2 ^ (q * w) % 2 ^ w ∷ xs) rest

-- one group more
pub group_more : (w group : ℕ) (bytes : List ℕ) → IsBytes bytes → group * w + w ≤ length bytes
    → fields w (number_in bytes) 0 (8 * group) ++ fields w (number_in (take w (drop (group * w) bytes))) 0 8 ≡ fields w (number_in bytes) 0 (8 * (group + 1))
group_more w group bytes fits within =
    let cut : number_in (take w (drop (group * w) bytes)) ≡ number_in bytes / 2 ^ (8 * (group * w)) % 2 ^ (8 * w)
    = number_in-take w (drop (group * w) bytes) (IsBytes-drop (group * w) bytes fits) ∙ ap (λ m. m % 2 ^ (8 * w)) (number_in-drop (group * w) bytes fits) in
    ap (λ m. fields w (number_in bytes) 0 (8 * group) ++ fields w m 0 8) cut
    ∙ ap (λ (xs : List ℕ). fields w (number_in bytes) 0 (8 * group) ++ xs) (fields-cut w (number_in bytes) (8 * (group * w)) 8 (8 * w) 0 (8 * group) (omega arith) (omega arith))
    ∙ sym (fields-append w (number_in bytes) 0 (8 * group) 8 ∙ ap (λ p. fields w (number_in bytes) 0 (8 * group) ++ fields w (number_in bytes) p 8) (omega arith))
    ∙ ap (λ c. fields w (number_in bytes) 0 c) (omega arith)

pub one_more_field : (w n p c : ℕ) → fields w n p c ++ (n / 2 ^ ((p + c) * w) % 2 ^ w) ∷ [] ≡ fields w n p (c + 1)
unfolding fields
one_more_field w n p c = sym (fields-append w n p c 1)

-- ---- steps of loops

pub groups_step : (w group : ℕ) (bytes start out new : List ℕ) → IsBytes bytes → group * w + w ≤ length bytes
    → out ≡ start ++ fields w (number_in bytes) 0 (8 * group)
    → new ≡ out ++ fields w (number_in (take (group * w + w - group * w) (drop (group * w) bytes))) 0 8
    → new ≡ start ++ fields w (number_in bytes) 0 (8 * (group + 1))
groups_step w group bytes start out new fits within before after =
    let cut : group * w + w - group * w ≡ w = omega arith in
    after
    ∙ ap (λ k. out ++ fields w (number_in (take k (drop (group * w) bytes))) 0 8) cut
    ∙ ap (λ (xs : List ℕ). xs ++ fields w (number_in (take w (drop (group * w) bytes))) 0 8) before
    ∙ append_assoc start (fields w (number_in bytes) 0 (8 * group)) (fields w (number_in (take w (drop (group * w) bytes))) 0 8)
    ∙ ap (λ (xs : List ℕ). start ++ xs) (group_more w group bytes fits within)

pub rest_step : (w first place : ℕ) (bytes start out new : List ℕ) → IsBytes bytes → first ≤ place
    → out ≡ start ++ fields w (number_in bytes) first (place - first)
    → new ≡ out ++ value_at w bytes place ∷ []
    → new ≡ start ++ fields w (number_in bytes) first (place + 1 - first)
rest_step w first place bytes start out new fits le before after =
    let n = number_in bytes in
    let here : first + (place - first) ≡ place = omega arith in
    let more : place - first + 1 ≡ place + 1 - first = omega arith in
    after
    ∙ ap (λ x. out ++ x ∷ []) (value_at_is w bytes place fits)
    ∙ ap (λ (xs : List ℕ). xs ++ (n / 2 ^ (place * w) % 2 ^ w) ∷ []) before
    ∙ append_assoc start (fields w n first (place - first)) ((n / 2 ^ (place * w) % 2 ^ w) ∷ [])
    ∙ ap (λ p. start ++ (fields w n first (place - first) ++ (n / 2 ^ (p * w) % 2 ^ w) ∷ [])) (sym here)
    ∙ ap (λ (xs : List ℕ). start ++ xs) (one_more_field w n first (place - first) ∙ ap (λ c. fields w n first c) more)

pub rest_joined : (w n first count : ℕ) (start middle new : List ℕ) → first ≤ count
    → middle ≡ start ++ fields w n 0 first → new ≡ middle ++ fields w n first (count - first) → new ≡ start ++ fields w n 0 count
rest_joined w n first count start middle new le before after =
    let all : first + (count - first) ≡ count = omega arith in
    let from : 0 + first ≡ first = omega arith in
    after
    ∙ ap (λ (xs : List ℕ). xs ++ fields w n first (count - first)) before
    ∙ append_assoc start (fields w n 0 first) (fields w n first (count - first))
    ∙ ap (λ p. start ++ (fields w n 0 first ++ fields w n p (count - first))) (sym from)
    ∙ ap (λ (xs : List ℕ). start ++ xs) (sym (fields-append w n 0 first (count - first)) ∙ ap (λ c. fields w n 0 c) all)
