-- Two identifiers of statements that are one text are one number.
use Rattle.std.proofs.Common.{◌≡◌, ℕ, zero, suc, ◌+◌, ◌*◌, ◌/◌, ◌%◌, ◌^◌, ◌<◌, List, length, All, Bool, true, false, if◌then◌else◌, Some, inl, refl, subst, sym, ap, ◌∙◌, arith}
use Rattle.std.specs.Int.{byte_at, bytes_high_first}
use Rattle.std.proofs.lemmas.Nat.{same_from_place}
use Rattle.std.proofs.lemmas.List.Elements.{All-cons}
use Rattle.std.proofs.Math.Arith.{mod-mul}
use Rattle.std.proofs.Math.Nat.{mod-eq_of_lt}
use Rattle.std.proofs.lemmas.Bool.Decides.{nat_tests}
use Rattle.uuid.specs.Text.{hyphenated_text, lower, parsed_hyphenated, hex_digit, nibble, is_hyphen_place, digit_place}
use Rattle.uuid.proofs.TextLemmas.{by_index_length, by_index_at, nibble_small}
use Rattle.uuid.proofs.RoundTrips.{parses_hyphenated_text}
use Rattle.table_rules.specs.Names.{id_number, id_text}
use Rattle.table_rules.specs.Told.{IsGraphic}

pub length-bytes : (k n : ℕ) → length (bytes_high_first k n) ≡ k
length-bytes zero n = refl
length-bytes (suc k) n = omega (arith, length-bytes k n)

byte_small : (k n : ℕ) → byte_at k n < 256
byte_small zero n = omega arith
byte_small (suc k) n = omega arith

pub bytes_small : (k n : ℕ) → All (λ b. b < 256) (bytes_high_first k n)
bytes_small zero n = λ i d within. absurd (omega arith)
bytes_small (suc k) n = All-cons (λ b. b < 256) (byte_at k n) (bytes_high_first k n) (byte_small k n) (bytes_small k n)

power_positive : (k : ℕ) → 0 < 256 ^ k
power_positive zero = omega arith
power_positive (suc k) = omega (arith, power_positive k)

byte_is : (k n : ℕ) → byte_at k n ≡ n / 256 ^ k % 256
byte_is zero n = omega arith
byte_is (suc k) n = refl

low_bytes : (k n : ℕ) → n % 256 ^ suc k ≡ byte_at k n * 256 ^ k + n % 256 ^ k
low_bytes k n =
    let some : 0 < 256 ^ k = power_positive k in
    let power : 256 ^ suc k ≡ 256 * 256 ^ k = omega arith in
    ap (λ b. n % b) power ∙ mod-mul n {m = 256} {c = 256 ^ k} (omega arith) some ∙ ap (λ b. b * 256 ^ k + n % 256 ^ k) (sym (byte_is k n))

same_low : (k n m : ℕ) → bytes_high_first k n ≡ bytes_high_first k m → n % 256 ^ k ≡ m % 256 ^ k
same_low zero n m e = omega arith
same_low (suc k) n m e =
    let head : byte_at k n ≡ byte_at k m = cc in
    let tail : bytes_high_first k n ≡ bytes_high_first k m = cc in
    low_bytes k n ∙ ap (λ b. b * 256 ^ k + n % 256 ^ k) head ∙ ap (λ r. byte_at k m * 256 ^ k + r) (same_low k n m tail) ∙ sym (low_bytes k m)

mod_same : (n m b : ℕ) → n < b → m < b → n % b ≡ m % b → n ≡ m
mod_same n m b ln lm e = sym (mod-eq_of_lt ln) ∙ e ∙ mod-eq_of_lt lm

pub length-id : (n : ℕ) → length (id_text n) ≡ 36
length-id n = by_index_length 36 _

same_parsed : (xs ys : List ℕ) → length xs ≡ 16 → length ys ≡ 16 → All (λ b. b < 256) xs → All (λ b. b < 256) ys → hyphenated_text lower xs ≡ hyphenated_text lower ys → xs ≡ ys
same_parsed xs ys lx ly sx sy e =
    let p : Some xs ≡ Some ys = parses_hyphenated_text lower xs (inl refl) lx sx ∙ ap parsed_hyphenated e ∙ sym (parses_hyphenated_text lower ys (inl refl) ly sy) in cc

pub same_id : (n m : ℕ) → n < 2 ^ 128 → m < 2 ^ 128 → id_text n ≡ id_text m → n ≡ m
same_id n m ln lm e =
    let bytes : bytes_high_first 16 n ≡ bytes_high_first 16 m = same_parsed (bytes_high_first 16 n) (bytes_high_first 16 m) (length-bytes 16 n) (length-bytes 16 m) (bytes_small 16 n) (bytes_small 16 m) e in
    mod_same n m (256 ^ 16) ln lm (same_low 16 n m bytes)

-- the number of a statement by its lowest 32 bits, the 16 bits above them and the rest
by_parts : (high actor statement : ℕ) → high * 2 ^ 80 + 8 * 2 ^ 76 + 2 * 2 ^ 62 + actor * 2 ^ 32 + statement ≡ (high * 2 ^ 48 + (8 * 2 ^ 44 + 2 * 2 ^ 30) + actor) * 2 ^ 32 + statement
by_parts high actor statement = omega arith

high_small : (start : ℕ) → start % 2 ^ 48 < 2 ^ 48
high_small start = omega arith

pub id_small : (start actor statement : ℕ) → actor < 2 ^ 16 → statement < 2 ^ 32 → id_number start actor statement < 2 ^ 128
id_small start actor statement la ls = omega (arith, high_small start)

pub same_parts : (start other a b x y : ℕ) → a < 2 ^ 16 → b < 2 ^ 16 → x < 2 ^ 32 → y < 2 ^ 32 → id_number start a x ≡ id_number other b y → (start % 2 ^ 48 ≡ other % 2 ^ 48) × (a ≡ b) × (x ≡ y)
same_parts start other a b x y la lb lx ly e =
    let h : ℕ = start % 2 ^ 48 in
    let k : ℕ = other % 2 ^ 48 in
    let c : ℕ = 8 * 2 ^ 44 + 2 * 2 ^ 30 in
    let low = same_from_place (h * 2 ^ 48 + c + a) x (k * 2 ^ 48 + c + b) y (2 ^ 32) lx ly (sym (by_parts h a x) ∙ e ∙ by_parts k b y) in
    let same : h * 2 ^ 48 + (c + a) ≡ k * 2 ^ 48 + (c + b) = omega (arith, low.0) in
    let high = same_from_place h (c + a) k (c + b) (2 ^ 48) (omega arith) (omega arith) same in
    (high.0, omega (arith, high.1), low.1)

-- an identifier has lower-case digits and hyphens
hex_graphic : (d : ℕ) → d < 16 → IsGraphic (hex_digit lower d)
hex_graphic d small = (grind (arith, nat_tests), grind (arith, nat_tests), (λ (e : hex_digit lower d ≡ 37). grind (arith, nat_tests)), (λ (e : hex_digit lower d ≡ 58). grind (arith, nat_tests)))

place_graphic : (hyphen_here : Bool) (d : ℕ) → d < 16 → IsGraphic (if hyphen_here then 45 else hex_digit lower d)
place_graphic true d small = (omega arith, omega arith, (λ (e : 45 ≡ 37). omega arith), (λ (e : 45 ≡ 58). omega arith))
place_graphic false d small = hex_graphic d small

pub id_graphic : (n : ℕ) → All IsGraphic (id_text n)
id_graphic n = λ i d within.
    let bs : List ℕ = bytes_high_first 16 n in
    let short : i < 36 = omega (arith, length-id n) in
    subst IsGraphic (sym (by_index_at 36 (λ k. if is_hyphen_place k then 45 else hex_digit lower (nibble bs (digit_place k))) i d short))
    (place_graphic (is_hyphen_place i) (nibble bs (digit_place i)) (nibble_small bs (digit_place i)))
