-- What is written as the hybrid, and that it reads back.
use Rattle.std.proofs.Common.{◌≡◌, ◌⊎◌, ℕ, zero, suc, ◌+◌, ◌-◌, ◌*◌, ◌/◌, ◌%◌, ◌^◌, ◌<◌, ◌≤◌, Bool, true, false, List, [], ◌∷◌, ◌++◌, length, take, drop, get_or, replicate, refl, sym, ap, ◌∙◌, subst, arith, append_assoc, inl, inr, eqb, ◌&&◌}
use Rattle.std.specs.List.{list_all}
use Rattle.std.proofs.Math.Nat.{mod-eq_of_lt}
use Rattle.std.proofs.Math.Dec.{eqb-suc-zero}
use Rattle.std.proofs.lemmas.Bool.{cases_lt, lt-ltb, le-ltb, eqb-true}
use Rattle.std.proofs.lemmas.Nat.{pow_pos, pow-add, mul-le}
use Rattle.std.proofs.lemmas.List.{length-append, length-replicate, take_at, drop_at, take_all, append-nil, get_or_append_left, get_or-append_right}
use Rattle.bit_pack.specs.Bits.{Packs, most_values}
use Rattle.bit_pack.specs.Numbers.{number_in, packed_number, bytes_of}
use Rattle.bit_pack.specs.Hybrid.{varint_number, varint_of, hybrid_of, run_of, stretch_of, IsHeader, IsRun, IsStretch, run, stretch, none, more, Reads, byte_width}
use Rattle.bit_pack.proofs.Sums.{AllFit, bytes_of-zeros, packed_below, Packs-bytes, packed_number-padded, zeros_at, two_pow_le, length-bytes_of, number_in-bytes_of}

-- one byte of a varint more
pub varint_next : (most rest : ℕ) (out new total : List ℕ) → 128 ≤ rest → rest < 2 ^ (7 * most) → new ≡ out ++ (rest % 128 + 128) ∷ []
    → out ++ varint_of most rest ≡ total → (m : ℕ) × (0 < m) × (rest / 128 < 2 ^ (7 * m)) × (new ++ varint_of m (rest / 128) ≡ total)
unfolding varint_of
varint_next zero rest out new total large below e whole = absurd (omega arith)
varint_next (suc zero) rest out new total large below e whole = absurd (omega arith)
varint_next (suc (suc m)) rest out new total large below e whole =
    let more_bits : 2 ^ (7 * suc (suc m)) ≡ 128 * 2 ^ (7 * suc m) = ap (λ k. 2 ^ k) (seven (suc m)) ∙ pow-add 2 7 (7 * suc m) in (
      suc m,
      omega arith,
      omega (arith, more_bits),
      ap (λ (xs : List ℕ). xs ++ varint_of (suc m) (rest / 128)) e
          ∙ append_assoc out ((rest % 128 + 128) ∷ []) (varint_of (suc m) (rest / 128))
          ∙ (rw (le-ltb rest 128 large) at whole),
    )
  where
    seven : (i : ℕ) → 7 * suc i ≡ 7 + 7 * i
    seven i = omega arith

pub varint_end : (most rest : ℕ) (out new total : List ℕ) → 0 < most → rest < 128 → new ≡ out ++ rest ∷ [] → out ++ varint_of most rest ≡ total → new ≡ total
unfolding varint_of
varint_end zero rest out new total some small e whole = absurd (omega arith)
varint_end (suc most) rest out new total some small e whole = e ∙ (rw (lt-ltb rest 128 small) at whole)

pub group_room : (n w : ℕ) → (n * w + 7) / 8 ≤ (n + 7) / 8 * w
group_room n w =
    let whole : n * w ≤ 8 * ((n + 7) / 8) * w = mul-le n w (8 * ((n + 7) / 8)) w (omega arith) (omega arith) in
    omega (arith, whole)

-- a stretch's bytes
pub stretch_bytes : (w : ℕ) (values : List ℕ) → AllFit w values
    → bytes_of ((length values * w + 7) / 8) (packed_number w values) ++ replicate ((length values + 7) / 8 * w - (length values * w + 7) / 8) 0
    ≡ bytes_of ((length values + 7) / 8 * w) (packed_number w values)
stretch_bytes w values fits =
    let n = length values in
    let room : (n * w + 7) / 8 + ((n + 7) / 8 * w - (n * w + 7) / 8) ≡ (n + 7) / 8 * w = omega (arith, group_room n w) in
    bytes_of-zeros ((n * w + 7) / 8) ((n + 7) / 8 * w - (n * w + 7) / 8) (packed_number w values) (packed_below w values fits)
    ∙ ap (λ c. bytes_of c (packed_number w values)) room

and_true : (a b : Bool) → (a && b) ≡ true → (a ≡ true) × (b ≡ true)
and_true true b e = (refl, e)
and_true false b e = absurd cc

-- all values are the first one
all_same : (value : ℕ) (values : List ℕ) → list_all (λ other. eqb other value) values ≡ true → values ≡ replicate (length values) value
all_same value [] e = refl
all_same value (x ∷ xs) e =
    let both = and_true (eqb x value) (list_all (λ other. eqb other value) xs) e in
    ap (λ y. y ∷ xs) (eqb-true x value both.0) ∙ ap (λ (ys : List ℕ). value ∷ ys) (all_same value xs both.1)

pub hybrid_of-none : (w : ℕ) (values : List ℕ) → eqb (length values) 0 ≡ true → hybrid_of w values ≡ []
unfolding hybrid_of
hybrid_of-none w values empty = rw empty refl

pub hybrid_of-run : (w : ℕ) (values : List ℕ) → eqb (length values) 0 ≡ false → list_all (λ other. eqb other (get_or values 0 0)) values ≡ true
    → hybrid_of w values ≡ run_of w (length values) (get_or values 0 0)
unfolding hybrid_of
hybrid_of-run w values some same = rw (some, same) refl

pub hybrid_of-stretch : (w : ℕ) (values : List ℕ) → eqb (length values) 0 ≡ false → list_all (λ other. eqb other (get_or values 0 0)) values ≡ false
    → hybrid_of w values ≡ stretch_of w ((length values + 7) / 8) values
unfolding hybrid_of
hybrid_of-stretch w values some same = rw (some, same) refl

-- ---- what is written reads back

length-varint_of : (most n : ℕ) → length (varint_of most n) ≤ most
unfolding varint_of
length-varint_of zero n = omega arith
length-varint_of (suc most) n =
    elim (cases_lt n 128) [
      | inl lt ↦ rw (lt-ltb n 128 lt) (omega arith)
      | inr le ↦ rw (le-ltb n 128 le) (omega (arith, length-varint_of most (n / 128)))
    ]

goes_on_more : (b : ℕ) (xs tail : List ℕ) → 128 ≤ b → ((k : ℕ) → k + 1 < length xs → 128 ≤ get_or (xs ++ tail) k 0) → (k : ℕ) → k + 1 < suc (length xs) → 128 ≤ get_or (b ∷ (xs ++ tail)) k 0
goes_on_more b xs tail large rest zero lt = large
goes_on_more b xs tail large rest (suc k) lt = rest k (omega arith)

record HeaderOf (most n : ℕ) (tail : List ℕ) : Type 0 where
  some : 0 < length (varint_of most n)
  goes_on : (k : ℕ) → k + 1 < length (varint_of most n) → 128 ≤ get_or (varint_of most n ++ tail) k 0
  ends : get_or (varint_of most n ++ tail) (length (varint_of most n) - 1) 0 < 128
  means : n ≡ varint_number (take (length (varint_of most n)) (varint_of most n ++ tail))

header_small : (most n : ℕ) (tail : List ℕ) → n < 128 → HeaderOf (suc most) n tail
unfolding varint_of varint_number
header_small most n tail lt =
    let small = lt-ltb n 128 lt in
    record {
      some = rw small (omega arith);
      goes_on = rw small (λ k within. absurd (omega arith));
      ends = rw small lt;
      means = rw small (omega arith);
    }

header_large : (most n : ℕ) (tail : List ℕ) → 128 ≤ n → HeaderOf most (n / 128) tail → HeaderOf (suc most) n tail
unfolding varint_of varint_number
header_large most n tail le rest =
    let large = le-ltb n 128 le in
    let xs = varint_of most (n / 128) in
    let last : suc (length xs) - 1 ≡ suc (length xs - 1) = omega (arith, rest.some) in
    record {
      some = rw large (omega arith);
      goes_on = rw large (goes_on_more (n % 128 + 128) xs tail (omega arith) rest.goes_on);
      ends = rw (large, last) rest.ends;
      means = rw large (omega (arith, rest.means));
    }

header_of : (most n : ℕ) (tail : List ℕ) → 0 < most → n < 2 ^ (7 * most) → HeaderOf most n tail
header_of zero n tail some lt = absurd (omega arith)
header_of (suc most) n tail some lt =
    let bits : 2 ^ (7 * suc most) ≡ 128 * 2 ^ (7 * most) = ap (λ k. 2 ^ k) (seven most) ∙ pow-add 2 7 (7 * most) in
    elim (cases_lt n 128) [
      | inl small ↦ header_small most n tail small
      | inr large ↦ header_large most n tail large (header_of most (n / 128) tail (left most bits large lt) (omega (arith, bits)))
    ]
  where
    seven : (i : ℕ) → 7 * suc i ≡ 7 + 7 * i
    seven i = omega arith

    left : (m : ℕ) → 2 ^ (7 * suc m) ≡ 128 * 2 ^ (7 * m) → 128 ≤ n → n < 2 ^ (7 * suc m) → 0 < m
    left zero bits large lt = absurd (omega arith)
    left (suc m) bits large lt = omega arith

pub IsHeader-varint_of : (n : ℕ) (tail : List ℕ) → n < 2 ^ 35 → IsHeader (varint_of 5 n ++ tail) (length (varint_of 5 n)) n
IsHeader-varint_of n tail lt =
    let h = header_of 5 n tail (omega arith) lt in
    record {
      some = h.some;
      few = length-varint_of 5 n;
      within = omega (arith, length-append (varint_of 5 n) tail);
      goes_on = h.goes_on;
      ends = h.ends;
      means = h.means;
    }

reads_run : (w n v : ℕ) → w ≤ 32 → n ≤ most_values → v < 2 ^ w → Reads w (run_of w n v) n (replicate n v)
reads_run w n v narrow few fits =
    let bytes = run_of w n v in
    let len = length (varint_of 5 (2 * n)) in
    let body : drop len bytes ≡ bytes_of (byte_width w) v = drop_at (varint_of 5 (2 * n)) (bytes_of (byte_width w) v) len refl in
    let below : v < 2 ^ (8 * byte_width w) = omega (arith, fits, two_pow_le w (8 * byte_width w) (omega arith)) in
    let value : v ≡ number_in (take (byte_width w) (drop len bytes))
    = sym (ap (λ (bs : List ℕ). number_in (take (byte_width w) bs)) body
    ∙ ap (λ (bs : List ℕ). number_in bs) (take_all (byte_width w) (bytes_of (byte_width w) v) (omega (arith, length-bytes_of (byte_width w) v)))
    ∙ number_in-bytes_of (byte_width w) v ∙ mod-eq_of_lt below) in
    let piece : IsRun w bytes len n v = record {
      header = IsHeader-varint_of (2 * n) (bytes_of (byte_width w) v) (omega arith);
      few = few;
      within = omega (arith, length-append (varint_of 5 (2 * n)) (bytes_of (byte_width w) v), length-bytes_of (byte_width w) v);
      means = value;
      narrow = fits;
    } in
    record {
      narrow = narrow;
      few = few;
      rest = drop (len + byte_width w) bytes;
      all = replicate n v ++ [];
      pieces = more (len + byte_width w) (replicate n v) (run len n v piece) none;
      enough = omega (arith, length-append (replicate n v) [], length-replicate n v);
      first = sym (take_at (replicate n v) [] n (length-replicate n v));
    }

-- zeros behind values that fit
AllFit-padded : (w d : ℕ) (values : List ℕ) → AllFit w values → AllFit w (values ++ replicate d 0)
AllFit-padded w d values fits k lt =
    elim (cases_lt k (length values)) [
      | inl within ↦ rw get_or_append_left (fits k within)
      | inr past ↦
          let zero_at : ◌≡◌ {A = ℕ} (get_or (values ++ replicate d 0) k 0) 0
          = get_or-append_right values (replicate d 0) (length values) k 0 refl past ∙ zeros_at d (k - length values) in
          rw zero_at (pow_pos w)
    ]

reads_stretch : (w : ℕ) (values : List ℕ) → w ≤ 32 → length values ≤ most_values → AllFit w values → Reads w (stretch_of w ((length values + 7) / 8) values) (length values) values
reads_stretch w values narrow few fits =
    let n = length values in
    let g = (n + 7) / 8 in
    let bytes = stretch_of w g values in
    let packed = bytes_of (g * w) (packed_number w values) in
    let padded = values ++ replicate (8 * g - n) 0 in
    let len = length (varint_of 5 (2 * g + 1)) in
    let body : drop len bytes ≡ packed = drop_at (varint_of 5 (2 * g + 1)) packed len refl in
    let long : length padded ≡ 8 * g = omega (arith, length-append values (replicate (8 * g - n) 0), length-replicate {A = ℕ} (8 * g - n) 0) in
    let size : g * w ≡ (length padded * w + 7) / 8 = rw long (omega arith) in
    let same : packed ≡ bytes_of ((length padded * w + 7) / 8) (packed_number w padded)
    = ap (λ c. bytes_of c (packed_number w values)) size ∙ ap (λ m. bytes_of ((length padded * w + 7) / 8) m) (sym (packed_number-padded w (8 * g - n) values)) in
    let packs : Packs w padded packed = Packs-bytes w padded packed (AllFit-padded w (8 * g - n) values fits) same in
    let piece : IsStretch w bytes len g padded = record {
      header = IsHeader-varint_of (2 * g + 1) packed (omega arith);
      few = omega arith;
      within = omega (arith, length-append (varint_of 5 (2 * g + 1)) packed, length-bytes_of (g * w) (packed_number w values));
      all = long;
      packed = rw body packs.packed;
    } in
    record {
      narrow = narrow;
      few = few;
      rest = drop (len + g * w) bytes;
      all = padded ++ [];
      pieces = more (len + g * w) padded (stretch len g padded piece) none;
      enough = omega (arith, length-append padded [], long);
      first = sym (ap (λ (xs : List ℕ). take n xs) (append-nil padded) ∙ take_at values (replicate (8 * g - n) 0) n refl);
    }

bool_cases : (b : Bool) → (b ≡ true) ⊎ (b ≡ false)
bool_cases true = inl refl
bool_cases false = inr refl

-- what is written reads back
pub hybrid_reads : (w : ℕ) (values bytes : List ℕ) → w ≤ 32 → length values ≤ most_values → AllFit w values → bytes ≡ hybrid_of w values → Reads w bytes (length values) values
hybrid_reads w [] bytes narrow few fits e =
    record { narrow = narrow; few = few; rest = bytes; all = []; pieces = none; enough = omega arith; first = refl }
hybrid_reads w (v ∷ values) bytes narrow few fits e =
    elim (bool_cases (list_all (λ other. eqb other v) (v ∷ values))) [
      | inl same ↦
          subst (λ (bs : List ℕ). Reads w bs (length (v ∷ values)) (v ∷ values)) (sym (e ∙ hybrid_of-run w (v ∷ values) (eqb-suc-zero (length values)) same))
          (subst (λ (xs : List ℕ). Reads w (run_of w (length (v ∷ values)) v) (length (v ∷ values)) xs) (sym (all_same v (v ∷ values) same))
          (reads_run w (length (v ∷ values)) v narrow few (fits 0 (omega arith))))
      | inr apart ↦
          subst (λ (bs : List ℕ). Reads w bs (length (v ∷ values)) (v ∷ values)) (sym (e ∙ hybrid_of-stretch w (v ∷ values) (eqb-suc-zero (length values)) apart))
          (reads_stretch w (v ∷ values) narrow few fits)
    ]
