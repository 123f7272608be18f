-- Packed numbers, and the bytes of numbers.
use Rattle.std.proofs.Common.{◌≡◌, ◌⊎◌, ℕ, zero, suc, ◌+◌, ◌-◌, ◌*◌, ◌/◌, ◌%◌, ◌^◌, ◌<◌, ◌≤◌, List, [], ◌∷◌, ◌++◌, length, take, drop, get_or, refl, sym, ap, ◌∙◌, arith, append_assoc, inl, inr, subst, take-add, zero-mul, replicate, ltb, mul_comm}
use Rattle.std.proofs.Math.Nat.{pow-suc, mul-zero, add-mul-div_left, add-mul-mod_self_left, div-eq_of_lt, mod-eq_of_lt, pow-le-pow_right}
use Rattle.std.specs.Int.{w32, w128, to_le_bytes, bytes_low_first, byte_at}
use Rattle.std.specs.Prelude.{bit_or, EachIndex, SomeIndex, MatchBool, slice_index}
use Rattle.std.proofs.lemmas.Bool.{cases_lt, le-ltb, lt-ltb}
use borrow.Author.Count.{below_more}
use Rattle.std.proofs.lemmas.Nat.{pow_pos, pow-add, shr-shr, mod-pow-add, shl_whole, or_shifted, mul-le, shr_below, or_lt, le_or_l, le_or_r, one_shl}
use Rattle.std.proofs.lemmas.List.{places, same_lists, length-take, length-take-le, length-drop, get_or-take, get_or-drop, take-append-drop, drop-replicate, get_or_append_left, get_or-append_right, take_at, drop_at}
use Rattle.bit_pack.specs.Bits.{Packs}
use Rattle.bit_pack.proofs.Wholes.{IsBytes, value_at_is, number_of-rest}
use Rattle.bit_pack.specs.Numbers.{number_in, packed_number, bytes_of}

-- ---- packed numbers

width_more : (w k : ℕ) → w * suc k ≡ w + w * k
width_more w k = grind arith

distributed : (a p b q : ℕ) → a * (p + b * q) ≡ a * p + a * b * q
distributed a p b q = grind arith

pub packed_number-append : (w : ℕ) (xs ys : List ℕ) → packed_number w (xs ++ ys) ≡ packed_number w xs + 2 ^ (w * length xs) * packed_number w ys
unfolding packed_number
packed_number-append w [] ys = rw mul-zero (omega arith)
packed_number-append w (x ∷ xs) ys =
    let more : 2 ^ (w * suc (length xs)) ≡ 2 ^ w * 2 ^ (w * length xs) = ap (λ k. 2 ^ k) (width_more w (length xs)) ∙ pow-add 2 w (w * length xs) in
    let p = packed_number w xs in
    rw more (omega (arith, ap (λ n. 2 ^ w * n) (packed_number-append w xs ys), distributed (2 ^ w) p (2 ^ (w * length xs)) (packed_number w ys)))

digit_lt : (a x p b : ℕ) → x < a → p < b → x + a * p < a * b
digit_lt a x p b lt below = omega (arith, mul-le a (p + 1) a b (omega arith) (omega arith))

pub packed_number-lt : (w : ℕ) (xs : List ℕ) → EachIndex xs (λ k. get_or xs k 0 < 2 ^ w) → packed_number w xs < 2 ^ (w * length xs)
unfolding packed_number
packed_number-lt w [] fits = rw mul-zero (omega arith)
packed_number-lt w (x ∷ xs) fits =
    let more : 2 ^ (w * suc (length xs)) ≡ 2 ^ w * 2 ^ (w * length xs) = ap (λ k. 2 ^ k) (width_more w (length xs)) ∙ pow-add 2 w (w * length xs) in
    rw more (digit_lt (2 ^ w) x (packed_number w xs) (2 ^ (w * length xs)) (fits 0 (omega arith)) (packed_number-lt w xs (λ k lt. fits (suc k) (omega arith))))

-- ---- bytes of numbers

pub length-bytes_of : (c n : ℕ) → length (bytes_of c n) ≡ c
unfolding bytes_of
length-bytes_of zero n = refl
length-bytes_of (suc c) n = ap suc (length-bytes_of c (n / 256))

suc_add_left : (a b : ℕ) → suc a + b ≡ suc (a + b)
suc_add_left a b = omega arith

pub bytes_of-append : (a b n : ℕ) → bytes_of (a + b) n ≡ bytes_of a n ++ bytes_of b (n / 2 ^ (8 * a))
unfolding bytes_of
bytes_of-append zero b n = ap (λ c. bytes_of c n) (omega arith) ∙ ap (λ m. bytes_of b m) (omega arith)
bytes_of-append (suc a) b n =
    let e : n / 256 / 2 ^ (8 * a) ≡ n / 2 ^ (8 * suc a) = shr-shr n 8 (8 * a) ∙ ap (λ k. n / 2 ^ k) (omega arith) in
    ap (λ c. bytes_of c n) (suc_add_left a b)
    ∙ ap (λ (bs : List ℕ). n % 256 ∷ bs) (bytes_of-append a b (n / 256) ∙ ap (λ m. bytes_of a (n / 256) ++ bytes_of b m) e)

-- the bytes depend on the low bits alone
pub bytes_of-low : (c m n : ℕ) → m % 2 ^ (8 * c) ≡ n % 2 ^ (8 * c) → bytes_of c m ≡ bytes_of c n
unfolding bytes_of
bytes_of-low zero m n e = refl
bytes_of-low (suc c) m n e =
    let split : (k : ℕ) → k % 2 ^ (8 * suc c) ≡ (k / 2 ^ 8 % 2 ^ (8 * c)) * 2 ^ 8 + k % 2 ^ 8
    = λ k. ap (λ j. k % 2 ^ j) (omega arith) ∙ mod-pow-add k (8 * c) 8 in
    let first : m % 256 ≡ n % 256 = omega (arith, e, split m, split n) in
    let others : m / 2 ^ 8 % 2 ^ (8 * c) ≡ n / 2 ^ 8 % 2 ^ (8 * c) = omega (arith, e, split m, split n) in
    ap (λ x. x ∷ bytes_of c (m / 256)) first ∙ ap (λ (bs : List ℕ). n % 256 ∷ bs) (bytes_of-low c (m / 256) (n / 256) others)

pub take-bytes_of : (a c n : ℕ) → a ≤ c → take a (bytes_of c n) ≡ bytes_of a n
unfolding bytes_of
take-bytes_of zero c n le = refl
take-bytes_of (suc a) zero n le = absurd (omega arith)
take-bytes_of (suc a) (suc c) n le = ap (λ (bs : List ℕ). n % 256 ∷ bs) (take-bytes_of a c (n / 256) (omega arith))

pow_of_pow : (i : ℕ) → 2 ^ (8 * suc i) ≡ 256 ^ suc i
pow_of_pow zero = refl
pow_of_pow (suc i) = ap (λ k. 2 ^ k) (omega arith) ∙ pow-add 2 (8 * suc i) 8 ∙ ap (λ m. m * 256) (pow_of_pow i) ∙ sym (pow-suc 256 (suc i))

byte_at_is : (i n : ℕ) → byte_at i n ≡ n / 2 ^ (8 * i) % 256
byte_at_is zero n = omega arith
byte_at_is (suc i) n = ap (λ m. n / m % 256) (sym (pow_of_pow i))

low_first_is : (i k n : ℕ) → bytes_low_first i k n ≡ bytes_of k (n / 2 ^ (8 * i))
unfolding bytes_of
low_first_is i zero n = refl
low_first_is i (suc k) n =
    let e : n / 2 ^ (8 * suc i) ≡ n / 2 ^ (8 * i) / 256 = ap (λ j. n / 2 ^ j) (omega arith) ∙ sym (shr-shr n (8 * i) 8) in
    ap (λ x. x ∷ bytes_low_first (suc i) k n) (byte_at_is i n)
    ∙ ap (λ (bs : List ℕ). n / 2 ^ (8 * i) % 256 ∷ bs) (low_first_is (suc i) k n ∙ ap (λ m. bytes_of k m) e)

pub front_of_word : (a n : ℕ) → a ≤ 16 → take a (to_le_bytes w128 n) ≡ bytes_of a n
front_of_word a n le = ap (λ (bs : List ℕ). take a bs) (low_first_is 0 16 n ∙ ap (λ m. bytes_of 16 m) (omega arith)) ∙ take-bytes_of a 16 n le

pub number_in-bytes_of : (c n : ℕ) → number_in (bytes_of c n) ≡ n % 2 ^ (8 * c)
unfolding number_in bytes_of
number_in-bytes_of zero n = omega arith
number_in-bytes_of (suc c) n =
    let split : n % 2 ^ (8 * suc c) ≡ (n / 2 ^ 8 % 2 ^ (8 * c)) * 2 ^ 8 + n % 2 ^ 8
    = ap (λ j. n % 2 ^ j) (omega arith) ∙ mod-pow-add n (8 * c) 8 in
    omega (arith, split, number_in-bytes_of c (n / 256))

-- ---- the kernel

-- one value more below a packed number
or_next : (w x a k : ℕ) → w ≤ 32 → k ≤ 96 → x < 2 ^ k → a < 2 ^ w → bit_or (x * 2 ^ w % 2 ^ 128) a ≡ a + 2 ^ w * x
or_next w x a k narrow room below low =
    let whole : x * 2 ^ w % 2 ^ 128 ≡ x * 2 ^ w = shl_whole x k w 128 below (omega arith) in
    rw (whole, or_shifted x w a low) (grind arith)

pub four_is : (w a b c d : ℕ) → w ≤ 32 → a < 2 ^ w → b < 2 ^ w → c < 2 ^ w → d < 2 ^ w
    → (bit_or (bit_or (bit_or (d * 2 ^ w % 2 ^ 128) c * 2 ^ w % 2 ^ 128) b * 2 ^ w % 2 ^ 128) a ≡ packed_number w (a ∷ b ∷ c ∷ d ∷ []))
    × (packed_number w (a ∷ b ∷ c ∷ d ∷ []) < 2 ^ (4 * w))
unfolding packed_number
four_is w a b c d narrow la lb lc ld =
    let one : bit_or (d * 2 ^ w % 2 ^ 128) c ≡ c + 2 ^ w * d = or_next w d c w narrow (omega arith) ld lc in
    let one_below : c + 2 ^ w * d < 2 ^ (2 * w) = below w c d w (2 * w) (omega arith) lc ld in
    let two : bit_or ((c + 2 ^ w * d) * 2 ^ w % 2 ^ 128) b ≡ b + 2 ^ w * (c + 2 ^ w * d) = or_next w (c + 2 ^ w * d) b (2 * w) narrow (omega arith) one_below lb in
    let two_below : b + 2 ^ w * (c + 2 ^ w * d) < 2 ^ (3 * w) = below w b (c + 2 ^ w * d) (2 * w) (3 * w) (omega arith) lb one_below in
    let three : bit_or ((b + 2 ^ w * (c + 2 ^ w * d)) * 2 ^ w % 2 ^ 128) a ≡ a + 2 ^ w * (b + 2 ^ w * (c + 2 ^ w * d))
    = or_next w (b + 2 ^ w * (c + 2 ^ w * d)) a (3 * w) narrow (omega arith) two_below la in
    let three_below : a + 2 ^ w * (b + 2 ^ w * (c + 2 ^ w * d)) < 2 ^ (4 * w) = below w a (b + 2 ^ w * (c + 2 ^ w * d)) (3 * w) (4 * w) (omega arith) la two_below in
    let last : d + 2 ^ w * 0 ≡ d = omega arith in
    (rw (one, two, three, last) refl, rw last three_below)
  where
    below : (w x y j k : ℕ) → k ≡ w + j → x < 2 ^ w → y < 2 ^ j → x + 2 ^ w * y < 2 ^ k
    below w x y j k e lx ly = rw (e, pow-add) (digit_lt (2 ^ w) x y (2 ^ j) lx ly)

-- a number in front of which low bits are cut off
pub shr_sum : (k x y : ℕ) → (x + 2 ^ k * y) / 2 ^ k ≡ x / 2 ^ k + y
shr_sum k x y = add-mul-div_left x y (pow_pos k)

-- the nibble that the first four values leave
pub rest_odd : (w low high : ℕ) → w ≤ 32 → w % 2 ≡ 1 → low < 2 ^ (4 * w) → high < 2 ^ (4 * w)
    → bit_or (high * 16 % 2 ^ 128) (low / 2 ^ (8 * (w / 2))) ≡ (low + 2 ^ (4 * w) * high) / 2 ^ (8 * (w / 2))
rest_odd w low high narrow odd small large =
    let h = w / 2 in
    let bits : 4 * w ≡ 4 + 8 * h = omega arith in
    let whole : high * 2 ^ 4 % 2 ^ 128 ≡ high * 2 ^ 4 = shl_whole high (4 * w) 4 128 large (omega arith) in
    let nibble : low / 2 ^ (8 * h) < 2 ^ 4 = shr_below low 4 (8 * h) (subst (λ k. low < 2 ^ k) bits small) in
    let split : 2 ^ (4 * w) * high ≡ 2 ^ (8 * h) * (16 * high) = rw (bits, pow-add 2 4 (8 * h)) (grind arith) in
    ap (λ m. bit_or m (low / 2 ^ (8 * h))) whole
    ∙ or_shifted high 4 (low / 2 ^ (8 * h)) nibble
    ∙ rw (split, shr_sum (8 * h) low (16 * high)) (omega arith)

-- bytes beside one another
pub bytes_of-join : (a b x y : ℕ) → x < 2 ^ (8 * a) → bytes_of a x ++ bytes_of b y ≡ bytes_of (a + b) (x + 2 ^ (8 * a) * y)
bytes_of-join a b x y lt =
    let low : (x + 2 ^ (8 * a) * y) % 2 ^ (8 * a) ≡ x % 2 ^ (8 * a) = add-mul-mod_self_left x (2 ^ (8 * a)) y in
    let none : x / 2 ^ (8 * a) ≡ 0 = div-eq_of_lt lt in
    let high : (x + 2 ^ (8 * a) * y) / 2 ^ (8 * a) ≡ y = shr_sum (8 * a) x y ∙ omega (arith, none) in
    sym (bytes_of-append a b (x + 2 ^ (8 * a) * y)
    ∙ ap (λ (bs : List ℕ). bs ++ bytes_of b ((x + 2 ^ (8 * a) * y) / 2 ^ (8 * a))) (bytes_of-low a (x + 2 ^ (8 * a) * y) x low)
    ∙ ap (λ m. bytes_of a x ++ bytes_of b m) high)

eight_values : (xs : List ℕ) → length xs ≡ 8
    → xs ≡ get_or xs 0 0 ∷ get_or xs 1 0 ∷ get_or xs 2 0 ∷ get_or xs 3 0 ∷ get_or xs 4 0 ∷ get_or xs 5 0 ∷ get_or xs 6 0 ∷ get_or xs 7 0 ∷ []
eight_values xs e = same_lists _ _ e (λ k d lt. grind (arith, places))

-- the two halves of a group
pub group_is : (w : ℕ) (values : List ℕ) (low high : ℕ) → length values ≡ 8
    → low ≡ packed_number w (get_or values 0 0 ∷ get_or values 1 0 ∷ get_or values 2 0 ∷ get_or values 3 0 ∷ [])
    → high ≡ packed_number w (get_or values 4 0 ∷ get_or values 5 0 ∷ get_or values 6 0 ∷ get_or values 7 0 ∷ [])
    → bytes_of (w / 2) low ++ bytes_of (w - w / 2) ((low + 2 ^ (4 * w) * high) / 2 ^ (8 * (w / 2))) ≡ bytes_of w (packed_number w values)
group_is w values low high long first second =
    let h = w / 2 in
    let turned : w * 4 ≡ 4 * w = omega arith in
    let apart : 4 * w ≡ 8 * h + (4 * w - 8 * h) = omega arith in
    let halves : w ≡ h + (w - h) = omega arith in
    let total : packed_number w values ≡ low + 2 ^ (4 * w) * high
    = ap (λ (xs : List ℕ). packed_number w xs) (eight_values values long)
    ∙ packed_number-append w (get_or values 0 0 ∷ get_or values 1 0 ∷ get_or values 2 0 ∷ get_or values 3 0 ∷ []) (get_or values 4 0 ∷ get_or values 5 0 ∷ get_or values 6 0 ∷ get_or values 7 0 ∷ [])
    ∙ ap (λ m. m + 2 ^ (w * 4) * packed_number w (get_or values 4 0 ∷ get_or values 5 0 ∷ get_or values 6 0 ∷ get_or values 7 0 ∷ [])) (sym first)
    ∙ ap (λ m. low + 2 ^ (w * 4) * m) (sym second)
    ∙ ap (λ k. low + 2 ^ k * high) turned in
    let split : 2 ^ (4 * w) * high ≡ 2 ^ (8 * h) * (2 ^ (4 * w - 8 * h) * high)
    = ap (λ k. 2 ^ k * high) apart ∙ rw (pow-add 2 (8 * h) (4 * w - 8 * h)) (grind arith) in
    let same : (low + 2 ^ (4 * w) * high) % 2 ^ (8 * h) ≡ low % 2 ^ (8 * h)
    = ap (λ m. (low + m) % 2 ^ (8 * h)) split ∙ add-mul-mod_self_left low (2 ^ (8 * h)) (2 ^ (4 * w - 8 * h) * high) in
    sym (ap (λ m. bytes_of w m) total
    ∙ ap (λ c. bytes_of c (low + 2 ^ (4 * w) * high)) halves
    ∙ bytes_of-append h (w - h) (low + 2 ^ (4 * w) * high)
    ∙ ap (λ (bs : List ℕ). bs ++ bytes_of (w - h) ((low + 2 ^ (4 * w) * high) / 2 ^ (8 * h))) (bytes_of-low h (low + 2 ^ (4 * w) * high) low same))

-- ---- whole lists of values

abbrev pub AllFit : ℕ → List ℕ → Type 0
AllFit w values = (k : ℕ) → k < length values → get_or values k 0 < 2 ^ w

pub AllFit-take : (w n : ℕ) (values : List ℕ) → AllFit w values → AllFit w (take n values)
AllFit-take w n values fits k lt =
    let within : k < n = omega (arith, length-take n values) in
    rw (get_or-take n values k 0 within) (fits k (omega (arith, length-take n values)))

pub AllFit-drop : (w n : ℕ) (values : List ℕ) → AllFit w values → AllFit w (drop n values)
AllFit-drop w n values fits k lt = rw get_or-drop (fits (n + k) (omega (arith, length-drop n values)))

-- one group more
pub groups_more : (w group : ℕ) (values start out new : List ℕ) → AllFit w values → 8 * group + 8 ≤ length values
    → out ≡ start ++ bytes_of (group * w) (packed_number w (take (8 * group) values))
    → new ≡ out ++ bytes_of w (packed_number w (take 8 (drop (8 * group) values)))
    → new ≡ start ++ bytes_of ((group + 1) * w) (packed_number w (take (8 * (group + 1)) values))
groups_more w group values start out new fits within before after =
    let xs = take (8 * group) values in
    let ys = take 8 (drop (8 * group) values) in
    let long : length xs ≡ 8 * group = length-take-le (8 * group) values (omega arith) in
    let bits : w * length xs ≡ 8 * (group * w) = rw long (grind arith) in
    let below : packed_number w xs < 2 ^ (8 * (group * w)) = subst (λ k. packed_number w xs < 2 ^ k) bits (packed_number-lt w xs (AllFit-take w (8 * group) values fits)) in
    let both : xs ++ ys ≡ take (8 * (group + 1)) values
    = sym (ap (λ k. take k values) (omega arith) ∙ take-add (8 * group) 8 values) in
    let total : packed_number w xs + 2 ^ (8 * (group * w)) * packed_number w ys ≡ packed_number w (take (8 * (group + 1)) values)
    = sym (ap (λ (zs : List ℕ). packed_number w zs) (sym both) ∙ packed_number-append w xs ys ∙ ap (λ k. packed_number w xs + 2 ^ k * packed_number w ys) bits) in
    after
    ∙ ap (λ (zs : List ℕ). zs ++ bytes_of w (packed_number w ys)) before
    ∙ append_assoc start (bytes_of (group * w) (packed_number w xs)) (bytes_of w (packed_number w ys))
    ∙ ap (λ (zs : List ℕ). start ++ zs) (bytes_of-join (group * w) w (packed_number w xs) (packed_number w ys) below ∙ ap (λ m. bytes_of (group * w + w) m) total ∙ ap (λ c. bytes_of c (packed_number w (take (8 * (group + 1)) values))) (grind arith))

-- the values behind the last group
pub rest_more : (w groups : ℕ) (values start out new : List ℕ) → AllFit w values → 8 * groups ≤ length values
    → out ≡ start ++ bytes_of (groups * w) (packed_number w (take (8 * groups) values))
    → new ≡ out ++ bytes_of ((length (drop (8 * groups) values) * w + 7) / 8) (packed_number w (drop (8 * groups) values))
    → new ≡ start ++ bytes_of ((length values * w + 7) / 8) (packed_number w values)
rest_more w groups values start out new fits within before after =
    let xs = take (8 * groups) values in
    let ys = drop (8 * groups) values in
    let long : length xs ≡ 8 * groups = length-take-le (8 * groups) values (omega arith) in
    let bits : w * length xs ≡ 8 * (groups * w) = rw long (grind arith) in
    let below : packed_number w xs < 2 ^ (8 * (groups * w)) = subst (λ k. packed_number w xs < 2 ^ k) bits (packed_number-lt w xs (AllFit-take w (8 * groups) values fits)) in
    let total : packed_number w xs + 2 ^ (8 * (groups * w)) * packed_number w ys ≡ packed_number w values
    = sym (ap (λ (zs : List ℕ). packed_number w zs) (sym (take-append-drop (8 * groups) values)) ∙ packed_number-append w xs ys ∙ ap (λ k. packed_number w xs + 2 ^ k * packed_number w ys) bits) in
    let count : length values ≡ 8 * groups + length ys = omega (arith, length-drop (8 * groups) values) in
    let size : groups * w + (length ys * w + 7) / 8 ≡ (length values * w + 7) / 8 = rw count (byte_sum groups (length ys) w) in
    after
    ∙ ap (λ (zs : List ℕ). zs ++ bytes_of ((length ys * w + 7) / 8) (packed_number w ys)) before
    ∙ append_assoc start (bytes_of (groups * w) (packed_number w xs)) (bytes_of ((length ys * w + 7) / 8) (packed_number w ys))
    ∙ ap (λ (zs : List ℕ). start ++ zs) (bytes_of-join (groups * w) ((length ys * w + 7) / 8) (packed_number w xs) (packed_number w ys) below ∙ ap (λ m. bytes_of (groups * w + (length ys * w + 7) / 8) m) total ∙ ap (λ c. bytes_of c (packed_number w values)) size)
  where
    byte_sum : (g r w : ℕ) → g * w + (r * w + 7) / 8 ≡ ((8 * g + r) * w + 7) / 8
    byte_sum g r w = omega arith

-- zeros behind the values
packed_number-zeros : (w n : ℕ) → packed_number w (replicate n 0) ≡ 0
unfolding packed_number
packed_number-zeros w zero = refl
packed_number-zeros w (suc n) = rw (packed_number-zeros w n) (omega arith)

pub packed_number-padded : (w n : ℕ) (values : List ℕ) → packed_number w (values ++ replicate n 0) ≡ packed_number w values
packed_number-padded w n values = packed_number-append w values (replicate n 0) ∙ rw (packed_number-zeros w n) (omega arith)

-- ---- reading what was packed

get_or-packed : (w : ℕ) (values : List ℕ) (k : ℕ) → AllFit w values → k < length values → packed_number w values / 2 ^ (k * w) % 2 ^ w ≡ get_or values k 0
unfolding packed_number
get_or-packed w [] k fits lt = absurd (omega arith)
get_or-packed w (v ∷ values) zero fits lt =
    let p = packed_number w values in
    let e : (v + 2 ^ w * p) / 2 ^ (0 * w) ≡ v + 2 ^ w * p = rw zero-mul (omega arith) in
    rw e (add-mul-mod_self_left v (2 ^ w) p ∙ mod-eq_of_lt (fits 0 (omega arith)))
get_or-packed w (v ∷ values) (suc k) fits lt =
    let p = packed_number w values in
    let none : v / 2 ^ w ≡ 0 = div-eq_of_lt (fits 0 (omega arith)) in
    let e : (v + 2 ^ w * p) / 2 ^ (suc k * w) ≡ p / 2 ^ (k * w)
    = ap (λ j. (v + 2 ^ w * p) / 2 ^ j) (grind arith) ∙ sym (shr-shr (v + 2 ^ w * p) w (k * w)) ∙ ap (λ m. m / 2 ^ (k * w)) (shr_sum w v p ∙ omega (arith, none)) in
    rw e (get_or-packed w values k (λ j below. fits (suc j) (omega arith)) (omega arith))

IsBytes-bytes_of : (c n : ℕ) → IsBytes (bytes_of c n)
unfolding bytes_of
IsBytes-bytes_of zero n i = omega arith
IsBytes-bytes_of (suc c) n zero = omega arith
IsBytes-bytes_of (suc c) n (suc i) = IsBytes-bytes_of c (n / 256) i

pub Packs-bytes : (w : ℕ) (values bytes : List ℕ) → AllFit w values → bytes ≡ bytes_of ((length values * w + 7) / 8) (packed_number w values) → Packs w values bytes
Packs-bytes w values bytes fits e =
    let c = (length values * w + 7) / 8 in
    let p = packed_number w values in
    let long : length bytes ≡ c = ap length e ∙ length-bytes_of c p in
    let small : IsBytes bytes = subst (λ (bs : List ℕ). IsBytes bs) (sym e) (IsBytes-bytes_of c p) in
    let below : p < 2 ^ (length values * w) = subst (λ k. p < 2 ^ k) (mul_comm w (length values)) (packed_number-lt w values fits) in
    let wide : p < 2 ^ (8 * c) = omega (arith, below, pow_le (length values * w) (8 * c) (omega arith)) in
    let number : number_in bytes ≡ p = ap (λ (bs : List ℕ). number_in bs) e ∙ number_in-bytes_of c p ∙ mod-eq_of_lt wide in
    record {
      packed = record {
        within = omega (arith, long);
        each = λ k lt. sym (value_at_is w bytes k small ∙ ap (λ n. n / 2 ^ (k * w) % 2 ^ w) number ∙ get_or-packed w values k fits lt);
      };
      fewest = long;
      padded = number_of-rest (length values * w) bytes small ∙ ap (λ n. n / 2 ^ (length values * w)) number ∙ div-eq_of_lt below;
    }
  where
    pow_le : (i j : ℕ) → i ≤ j → 2 ^ i ≤ 2 ^ j
    pow_le i j le = pow-le-pow_right (omega arith) le

-- ---- the test of all values at once

abbrev pub Seen : ℕ → List ℕ → ℕ → ℕ → Type 0
Seen w values index seen =
    ((seen < 2 ^ w) × ((k : ℕ) → k < index → get_or values k 0 < 2 ^ w))
    ⊎ ((2 ^ w ≤ seen) × ((k : ℕ) × (k < length values) × (2 ^ w ≤ get_or values k 0)))

pub Seen-more : (w : ℕ) (values : List ℕ) (index seen : ℕ) → index < length values → Seen w values index seen → Seen w values (index + 1) (bit_or seen (get_or values index 0))
Seen-more w values index seen lt (inr h) = inr (omega (arith, h.0, le_or_l seen (get_or values index 0)), h.1)
Seen-more w values index seen lt (inl h) =
    elim (cases_lt (get_or values index 0) (2 ^ w)) [
      | inl below ↦ inl (or_lt w seen (get_or values index 0) h.0 below, below_more _ _ h.1 below)
      | inr above ↦ inr (omega (arith, above, le_or_r seen (get_or values index 0)), (index, lt, above))
    ]

pub Seen-all : (w : ℕ) (values : List ℕ) (seen index : ℕ) → w ≤ 32 → length values ≤ index → Seen w values index seen
    → MatchBool (ltb seen (1 * 2 ^ w % 2 ^ 64)) (EachIndex values (λ k. slice_index values k < 2 ^ w)) (SomeIndex values (λ k. 2 ^ w ≤ slice_index values k))
Seen-all w values seen index narrow end (inl h) =
    let width : w < 64 = omega arith in
    rw (one_shl w 64 width, lt-ltb seen (2 ^ w) h.0) (λ k lt. h.1 k (omega arith))
Seen-all w values seen index narrow end (inr h) =
    let width : w < 64 = omega arith in
    rw (one_shl w 64 width, le-ltb seen (2 ^ w) h.0) h.1

-- ---- fewer than eight values, with zeros behind them

pub few_padded : (w : ℕ) (values : List ℕ) → length values < 8
    → packed_number w (values ++ drop (length values) (replicate 8 0)) ≡ packed_number w values
few_padded w values few = rw drop-replicate (packed_number-padded w (8 - length values) values)

pub zeros_at : (n k : ℕ) → get_or (replicate {A = ℕ} n 0) k 0 ≡ 0
zeros_at zero k = refl
zeros_at (suc n) zero = refl
zeros_at (suc n) (suc k) = zeros_at n k

pub few_fit : (w : ℕ) (values : List ℕ) → AllFit w values → AllFit w (values ++ drop (length values) (replicate 8 0))
few_fit w values fits k lt =
    elim (cases_lt k (length values)) [
      | inl within ↦ rw get_or_append_left (fits k within)
      | inr past ↦
          let zero_at : get_or (values ++ drop (length values) (replicate 8 0)) k 0 ≡ 0
          = get_or-append_right values (drop (length values) (replicate 8 0)) (length values) k 0 refl past ∙ get_or-drop (length values) (replicate 8 0) (k - length values) 0 ∙ zeros_at 8 (length values + (k - length values)) in
          rw zero_at (pow_pos w)
    ]

-- the front of what was appended
pub truncated : (c n m at : ℕ) (start appended : List ℕ) → at ≡ length start + c → c ≤ m → appended ≡ start ++ bytes_of m n → take at appended ≡ start ++ bytes_of c n
truncated c n m at start appended e le whole =
    ap (λ (bs : List ℕ). take at bs) whole ∙ ap (λ k. take k (start ++ bytes_of m n)) e
    ∙ take-append-add c start (bytes_of m n) ∙ ap (λ (bs : List ℕ). start ++ bs) (take-bytes_of c m n le)
  where
    take-append-add : (c : ℕ) (xs ys : List ℕ) → take (length xs + c) (xs ++ ys) ≡ xs ++ take c ys
    take-append-add c xs ys = take-add (length xs) c (xs ++ ys) ∙ rw (take_at xs ys (length xs) refl, drop_at xs ys (length xs) refl) refl

pub front_of_word32 : (a n : ℕ) → a ≤ 4 → take a (to_le_bytes w32 n) ≡ bytes_of a n
front_of_word32 a n le = ap (λ (bs : List ℕ). take a bs) (low_first_is 0 4 n ∙ ap (λ m. bytes_of 4 m) (omega arith)) ∙ take-bytes_of a 4 n le

bytes_of-zero : (d : ℕ) → bytes_of d 0 ≡ replicate d 0
unfolding bytes_of
bytes_of-zero zero = refl
bytes_of-zero (suc d) = ap (λ (bs : List ℕ). 0 ∷ bs) (bytes_of-zero d)

-- zeros behind the bytes of a number that they hold
pub bytes_of-zeros : (c d n : ℕ) → n < 2 ^ (8 * c) → bytes_of c n ++ replicate d 0 ≡ bytes_of (c + d) n
bytes_of-zeros c d n lt =
    sym (bytes_of-append c d n ∙ ap (λ m. bytes_of c n ++ bytes_of d m) (div-eq_of_lt lt) ∙ ap (λ (bs : List ℕ). bytes_of c n ++ bs) (bytes_of-zero d))

pub two_pow_le : (i j : ℕ) → i ≤ j → 2 ^ i ≤ 2 ^ j
two_pow_le i j le = pow-le-pow_right (omega arith) le

pub packed_below : (w : ℕ) (values : List ℕ) → AllFit w values → packed_number w values < 2 ^ (8 * ((length values * w + 7) / 8))
packed_below w values fits =
    let below : packed_number w values < 2 ^ (w * length values) = packed_number-lt w values fits in
    let le : w * length values ≤ 8 * ((length values * w + 7) / 8) = omega arith in
    omega (arith, below, two_pow_le (w * length values) (8 * ((length values * w + 7) / 8)) le)
