-- The hybrid is read as it is spelled, and only where it is spelled.
use Rattle.std.proofs.Common.{◌≡◌, ◌⊎◌, ℕ, zero, suc, ◌+◌, ◌-◌, ◌*◌, ◌/◌, ◌%◌, ◌^◌, ◌<◌, ◌≤◌, true, false, ◌&&◌, cond, ltb, leb, eqb, List, [], ◌∷◌, ◌++◌, length, take, drop, replicate, get_or, refl, sym, ap, subst, ◌∙◌, arith, inl, inr, Some, None, option_map}
use Rattle.std.proofs.lemmas.Bool.{cases_Bool, lt-ltb, le-leb, lt-leb, leb-true, ltb-true, eq-eqb, ne_eqb, eqb-true, eqb-false, and_parts}
use Rattle.std.proofs.lemmas.List.{length-append, length-take-le, length-drop, take-take}
use Rattle.bit_pack.specs.Bits.{value_at, Packed, most_values}
use Rattle.bit_pack.specs.Numbers.{number_in}
use Rattle.bit_pack.specs.Hybrid.{IsHeader, byte_width, IsRun, IsStretch, IsPiece, run, stretch, Pieces, none, more, Reads, StopsAt, HasLargeHeader, EndsEarly, HasWideValue}
use Rattle.bit_pack.proofs.OneReading.{one_packed, no_stop, large_apart, short_apart, wide_apart}
use Rattle.parquet_pages.specs.Hybrids.{values_from, unpacked, header_in, run_in, stretch_in, piece_in, pieces_in, hybrid_values}
use Rattle.parquet_pages.proofs.Chains.{bind_some, map_some, test_some, inside, at_some, pair_of}
use Rattle.parquet_pages.proofs.Headers.{Header, header_found, header_only}

-- ---- packed values

pub length-values_from : (w : ℕ) (bytes : List ℕ) (p c : ℕ) → length (values_from w bytes p c) ≡ c
unfolding values_from
length-values_from w bytes p zero = refl
length-values_from w bytes p (suc c) = ap suc (length-values_from w bytes (suc p) c)

get_or-values_from : (w : ℕ) (bytes : List ℕ) (p c k : ℕ) → k < c → get_or (values_from w bytes p c) k 0 ≡ value_at w bytes (p + k)
unfolding values_from
get_or-values_from w bytes p zero k lt = absurd (omega arith)
get_or-values_from w bytes p (suc c) zero lt = ap (value_at w bytes) (omega arith)
get_or-values_from w bytes p (suc c) (suc k) lt = get_or-values_from w bytes (suc p) c k (omega arith) ∙ ap (value_at w bytes) (omega arith)

pub Packed-values_from : (w : ℕ) (bytes : List ℕ) (count : ℕ) → count * w ≤ 8 * length bytes → Packed w bytes (values_from w bytes 0 count)
Packed-values_from w bytes count within =
    let long = length-values_from w bytes 0 count in
    record {
      within = rw long within;
      each = λ k lt. get_or-values_from w bytes 0 count k (omega arith) ∙ ap (value_at w bytes) (omega arith);
    }

-- what the bytes begin with is what is read of them
pub values_from-Packed : (w : ℕ) (bytes values : List ℕ) (count : ℕ) → length values ≡ count → Packed w bytes values → values_from w bytes 0 count ≡ values
values_from-Packed w bytes values count all packed =
    let within : count * w ≤ 8 * length bytes = subst (λ n. n * w ≤ 8 * length bytes) all packed.within in
    one_packed w bytes (values_from w bytes 0 count) values (length-values_from w bytes 0 count ∙ sym all) (Packed-values_from w bytes count within) packed

pub unpacked_found : (w count : ℕ) (bytes values : List ℕ) → length values ≡ count → Packed w bytes values → unpacked w count bytes ≡ Some values
unfolding unpacked
unpacked_found w count bytes values all packed =
    let within : count * w ≤ 8 * length bytes = subst (λ n. n * w ≤ 8 * length bytes) all packed.within in
    rw (le-leb (count * w) (8 * length bytes) within) (ap Some (values_from-Packed w bytes values count all packed))

pub unpacked_short : (w count : ℕ) (bytes : List ℕ) → 8 * length bytes < count * w → unpacked w count bytes ≡ None
unfolding unpacked
unpacked_short w count bytes short = rw (lt-leb (count * w) (8 * length bytes) short) refl

-- ---- pieces

header_of : (bytes : List ℕ) (len number : ℕ) → IsHeader bytes len number → Header 5 bytes len number
header_of bytes len number h = record { some = h.some; few = h.few; within = h.within; goes_on = h.goes_on; ends = h.ends; means = h.means }

of_header : (bytes : List ℕ) (len number : ℕ) → Header 5 bytes len number → IsHeader bytes len number
of_header bytes len number h = record { some = h.some; few = h.few; within = h.within; goes_on = h.goes_on; ends = h.ends; means = h.means }

run_found : (w len copies value : ℕ) (bytes : List ℕ) → IsRun w bytes len copies value
    → run_in w copies len bytes ≡ Some (len + byte_width w, replicate copies value)
unfolding run_in
run_found w len copies value bytes r =
    let fits : ltb (number_in (take (byte_width w) (drop len bytes))) (2 ^ w) ≡ true = subst (λ n. ltb n (2 ^ w) ≡ true) r.means (lt-ltb value (2 ^ w) r.narrow) in
    rw (le-leb copies most_values r.few, le-leb (len + byte_width w) (length bytes) r.within, fits)
    (ap Some (pair_of (len + byte_width w) (len + byte_width w) (replicate copies (number_in (take (byte_width w) (drop len bytes)))) (replicate copies value)
    refl (ap (λ n. replicate copies n) (sym r.means))))

stretch_found : (w len groups : ℕ) (bytes values : List ℕ) → IsStretch w bytes len groups values
    → stretch_in w groups len bytes ≡ Some (len + groups * w, values)
unfolding stretch_in
stretch_found w len groups bytes values s =
    rw (le-leb (8 * groups) most_values s.few, le-leb (len + groups * w) (length bytes) s.within)
    (ap Some (pair_of (len + groups * w) (len + groups * w) (values_from w (drop len bytes) 0 (8 * groups)) values
    refl (values_from-Packed w (drop len bytes) values (8 * groups) s.all s.packed)))

piece_found : {w : ℕ} {bytes : List ℕ} {len : ℕ} {values : List ℕ} → IsPiece w bytes len values → piece_in w bytes ≡ Some (len, values)
unfolding piece_in
piece_found {w} {bytes} (run len copies value r) =
    let header = header_found 5 bytes len (2 * copies) (header_of bytes len (2 * copies) r.header) in
    let even : (2 * copies) % 2 ≡ 0 = omega arith in
    let half : (2 * copies) / 2 ≡ copies = omega arith in
    rw (header, eq-eqb ((2 * copies) % 2) 0 even, half) (run_found w len copies value bytes r)
piece_found {w} {bytes} (stretch len groups values s) =
    let header = header_found 5 bytes len (2 * groups + 1) (header_of bytes len (2 * groups + 1) s.header) in
    let odd : eqb ((2 * groups + 1) % 2) 0 ≡ false = ne_eqb ((2 * groups + 1) % 2) 0 (λ e. omega (arith, e)) in
    let half : (2 * groups + 1) / 2 ≡ groups = omega arith in
    rw (header, odd, half) (stretch_found w len groups bytes values s)

run_only : (w len copies number : ℕ) (bytes : List ℕ) (len' : ℕ) (values : List ℕ) → IsHeader bytes len number → number ≡ 2 * copies
    → run_in w copies len bytes ≡ Some (len', values) → IsPiece w bytes len' values
unfolding run_in
run_only w len copies number bytes len' values header even e =
    let value = number_in (take (byte_width w) (drop len bytes)) in
    let a = leb copies most_values in
    let b = leb (len + byte_width w) (length bytes) in
    let d = ltb value (2 ^ w) in
    let p = test_some (a && b && d) (Some (len + byte_width w, replicate copies value)) (len', values) e in
    let tests = and_parts (a && b) d p.0 in
    let first = and_parts a b tests.0 in
    let piece : IsPiece w bytes (len + byte_width w) (replicate copies value) = run len copies value (record {
      header = subst (λ n. IsHeader bytes len n) even header;
      few = leb-true copies most_values first.0;
      within = leb-true (len + byte_width w) (length bytes) first.1;
      means = refl;
      narrow = ltb-true value (2 ^ w) tests.1;
    }) in
    subst (λ (h : ℕ × List ℕ). IsPiece w bytes h.0 h.1) (inside (len + byte_width w, replicate copies value) (len', values) p.1) piece

stretch_only : (w len groups number : ℕ) (bytes : List ℕ) (len' : ℕ) (values : List ℕ) → IsHeader bytes len number → number ≡ 2 * groups + 1
    → stretch_in w groups len bytes ≡ Some (len', values) → IsPiece w bytes len' values
unfolding stretch_in
stretch_only w len groups number bytes len' values header odd e =
    let read = values_from w (drop len bytes) 0 (8 * groups) in
    let a = leb (8 * groups) most_values in
    let b = leb (len + groups * w) (length bytes) in
    let p = test_some (a && b) (Some (len + groups * w, read)) (len', values) e in
    let tests = and_parts a b p.0 in
    let within : len + groups * w ≤ length bytes = leb-true (len + groups * w) (length bytes) tests.1 in
    let left = length-drop len bytes in
    let room : 8 * groups * w ≤ 8 * length (drop len bytes) = omega (arith, within, left) in
    let piece : IsPiece w bytes (len + groups * w) read = stretch len groups read (record {
      header = subst (λ n. IsHeader bytes len n) odd header;
      few = leb-true (8 * groups) most_values tests.0;
      within = within;
      all = length-values_from w (drop len bytes) 0 (8 * groups);
      packed = Packed-values_from w (drop len bytes) (8 * groups) room;
    }) in
    subst (λ (h : ℕ × List ℕ). IsPiece w bytes h.0 h.1) (inside (len + groups * w, read) (len', values) p.1) piece

piece_only : (w : ℕ) (bytes : List ℕ) (len : ℕ) (values : List ℕ) → piece_in w bytes ≡ Some (len, values) → IsPiece w bytes len values
unfolding piece_in
piece_only w bytes len values e =
    let p = bind_some (header_in 5 bytes)
    (λ h. cond (eqb (h.1 % 2) 0) (run_in w (h.1 / 2) h.0 bytes) (stretch_in w (h.1 / 2) h.0 bytes)) (len, values) e in
    let header = of_header bytes p.0.0 p.0.1 (header_only 5 bytes p.0.0 p.0.1 p.1) in
    by_parity p.0.0 p.0.1 header p.2
  where
    by_parity : (front number : ℕ) → IsHeader bytes front number
        → cond (eqb (number % 2) 0) (run_in w (number / 2) front bytes) (stretch_in w (number / 2) front bytes) ≡ Some (len, values)
        → IsPiece w bytes len values
    by_parity front number header e = elim (cases_Bool (eqb (number % 2) 0)) [
      | inl t ↦
          let even : number ≡ 2 * (number / 2) = omega (arith, eqb-true (number % 2) 0 t) in
          run_only w front (number / 2) number bytes len values header even (rw t at e)
      | inr f ↦
          let some : (number % 2 ≡ 0) → ⊥ = eqb-false (number % 2) 0 f in
          let odd : number ≡ 2 * (number / 2) + 1 = omega (arith, some) in
          stretch_only w front (number / 2) number bytes len values header odd (rw f at e)
    ]

pub piece_size : {w : ℕ} {bytes : List ℕ} {len : ℕ} {values : List ℕ} → IsPiece w bytes len values → (0 < len) × (len ≤ length bytes)
piece_size (run len copies value r) = (omega (arith, r.header.some), r.within)
piece_size (stretch len groups values s) = (omega (arith, s.header.some), s.within)

-- ---- all pieces

-- the first values of two lists, where the second is cut already
take_beside : (count others : ℕ) (first tail : List ℕ) → count ≤ length first + others → take count (first ++ take others tail) ≡ take count (first ++ tail)
take_beside zero others first tail le = refl
take_beside (suc count) others [] tail le = take-take (suc count) others tail (omega (arith, le))
take_beside (suc count) others (x ∷ first) tail le = ap (λ (xs : List ℕ). x ∷ xs) (take_beside count others first tail (omega (arith, le)))

nothing_read : (most w : ℕ) (bytes : List ℕ) → pieces_in most w bytes 0 ≡ Some []
unfolding pieces_in
nothing_read zero w bytes = refl
nothing_read (suc most) w bytes = refl

next_read : (most w count : ℕ) (bytes : List ℕ) (len : ℕ) (first tail : List ℕ) → eqb count 0 ≡ false → piece_in w bytes ≡ Some (len, first)
    → pieces_in most w (drop len bytes) (count - length first) ≡ Some tail → pieces_in (suc most) w bytes count ≡ Some (take count (first ++ tail))
unfolding pieces_in
next_read most w count bytes len first tail some piece rest = rw (some, piece, rest) refl

-- so many values that were spelled are read
pieces_found : {w : ℕ} {bytes rest all : List ℕ} (most count : ℕ) → Pieces w bytes rest all → count ≤ length all → length bytes ≤ most
    → pieces_in most w bytes count ≡ Some (take count all)
pieces_found {w} {bytes} {rest} {all} most zero pieces enough room = nothing_read most w bytes
pieces_found most (suc count) none enough room = absurd (omega (arith, enough))
pieces_found {w} {bytes} {rest} (zero) (suc count) (more {values = tail} len first piece pieces) enough room =
    absurd (omega (arith, room, (piece_size piece).0, (piece_size piece).1))
pieces_found {w} {bytes} {rest} (suc most) (suc count) (more {values = tail} len first piece pieces) enough room =
    let size = piece_size piece in
    let missing : suc count - length first ≤ length tail = omega (arith, enough, length-append first tail) in
    let left : length (drop len bytes) ≤ most = omega (arith, room, size.0, size.1, length-drop len bytes) in
    let rest' = pieces_found most (suc count - length first) pieces missing left in
    next_read most w (suc count) bytes len first (take (suc count - length first) tail) (ne_eqb (suc count) 0 (λ e. omega (arith, e))) (piece_found piece) rest'
    ∙ ap Some (take_beside (suc count) (suc count - length first) first tail (omega arith))

-- what was read stands there
record Spelled (w : ℕ) (bytes : List ℕ) (count : ℕ) (values : List ℕ) : Type 0 where
  pub rest : List ℕ
  pub all : List ℕ
  pub pieces : Pieces w bytes rest all
  pub enough : count ≤ length all
  pub first : values ≡ take count all

spelled_none : (w : ℕ) (bytes : List ℕ) (count : ℕ) (values : List ℕ) → count ≡ 0 → [] ≡ values → Spelled w bytes count values
spelled_none w bytes count values none_left e = record {
  rest = bytes;
  all = [];
  pieces = none;
  enough = omega (arith, none_left);
  first = sym e ∙ ap (λ k. take k []) (sym none_left);
}

spelled_more : (w : ℕ) (bytes : List ℕ) (count len : ℕ) (first tail values : List ℕ) → IsPiece w bytes len first
    → Spelled w (drop len bytes) (count - length first) tail → take count (first ++ tail) ≡ values → Spelled w bytes count values
spelled_more w bytes count len first tail values piece s e = record {
  rest = s.rest;
  all = first ++ s.all;
  pieces = more len first piece s.pieces;
  enough = omega (arith, s.enough, length-append first s.all);
  first = sym e ∙ ap (λ (xs : List ℕ). take count (first ++ xs)) s.first ∙ take_beside count (count - length first) first s.all (omega arith);
}

pieces_only : (most w : ℕ) (bytes : List ℕ) (count : ℕ) (values : List ℕ) → pieces_in most w bytes count ≡ Some values → Spelled w bytes count values
unfolding pieces_in
pieces_only zero w bytes count values e =
    let p = test_some (eqb count 0) (Some []) values e in
    spelled_none w bytes count values (eqb-true count 0 p.0) (inside [] values p.1)
pieces_only (suc most) w bytes count values e = elim (cases_Bool (eqb count 0)) [
  | inl t ↦ spelled_none w bytes count values (eqb-true count 0 t) (inside [] values (rw t at e))
  | inr f ↦
      let p = bind_some (piece_in w bytes) (λ p. option_map (λ (vs : List ℕ). take count (p.1 ++ vs)) (pieces_in most w (drop p.0 bytes) (count - length p.1))) values (rw f at e) in
      let q = map_some (λ (vs : List ℕ). take count (p.0.1 ++ vs)) (pieces_in most w (drop p.0.0 bytes) (count - length p.0.1)) values p.2 in
      let rest = pieces_only most w (drop p.0.0 bytes) (count - length p.0.1) q.0 q.1 in
      spelled_more w bytes count p.0.0 p.0.1 q.0 values (piece_only w bytes p.0.0 p.0.1 p.1) rest q.2
]

-- ---- the hybrid as a whole

pub hybrid_found : (w : ℕ) (bytes : List ℕ) (count : ℕ) (values : List ℕ) → Reads w bytes count values → hybrid_values w bytes count ≡ Some values
unfolding hybrid_values
hybrid_found w bytes count values r =
    rw (le-leb w 32 r.narrow, le-leb count most_values r.few)
    (pieces_found (length bytes) count r.pieces r.enough (omega arith) ∙ ap Some (sym r.first))

pub hybrid_only : (w : ℕ) (bytes : List ℕ) (count : ℕ) (values : List ℕ) → hybrid_values w bytes count ≡ Some values → Reads w bytes count values
unfolding hybrid_values
hybrid_only w bytes count values e =
    let p = test_some (leb w 32 && leb count most_values) (pieces_in (length bytes) w bytes count) values e in
    let tests = and_parts (leb w 32) (leb count most_values) p.0 in
    let s = pieces_only (length bytes) w bytes count values p.1 in
    record {
      narrow = leb-true w 32 tests.0;
      few = leb-true count most_values tests.1;
      rest = s.rest;
      all = s.all;
      pieces = s.pieces;
      enough = s.enough;
      first = s.first;
    }

-- nothing is read where the relation does not hold
none_read : (w : ℕ) (bytes : List ℕ) (count : ℕ) → ((values : List ℕ) → Reads w bytes count values → ⊥) → hybrid_values w bytes count ≡ None
none_read w bytes count never = at_some (hybrid_values w bytes count) (λ values e. never values (hybrid_only w bytes count values e))

pub hybrid_short : (w : ℕ) (bytes : List ℕ) (count : ℕ) → StopsAt w bytes count (EndsEarly w) → hybrid_values w bytes count ≡ None
hybrid_short w bytes count stop =
    none_read w bytes count (λ values r. no_stop w count bytes values (EndsEarly w) (λ rest len xs fails piece. short_apart fails piece) r stop)

pub hybrid_wide : (w : ℕ) (bytes : List ℕ) (count : ℕ) → (32 < w) ⊎ StopsAt w bytes count (HasWideValue w) → hybrid_values w bytes count ≡ None
hybrid_wide w bytes count (inl wide) = none_read w bytes count (λ values r. omega (arith, wide, r.narrow))
hybrid_wide w bytes count (inr stop) =
    none_read w bytes count (λ values r. no_stop w count bytes values (HasWideValue w) (λ rest len xs fails piece. wide_apart fails piece) r stop)

pub hybrid_large : (w : ℕ) (bytes : List ℕ) (count : ℕ) → ((w ≤ 32) × (most_values < count)) ⊎ StopsAt w bytes count HasLargeHeader → hybrid_values w bytes count ≡ None
hybrid_large w bytes count (inl many) = none_read w bytes count (λ values r. omega (arith, many.1, r.few))
hybrid_large w bytes count (inr stop) =
    none_read w bytes count (λ values r. no_stop w count bytes values HasLargeHeader (λ rest len xs fails piece. large_apart fails piece) r stop)

pub all_read : (w : ℕ) (bytes : List ℕ) (count : ℕ) (values : List ℕ) → Reads w bytes count values → length values ≡ count
all_read w bytes count values r = ap length r.first ∙ length-take-le count r.all r.enough
