-- Headers and pieces of the hybrid.
use Rattle.std.proofs.Common.{◌≡◌, ℕ, zero, suc, ◌+◌, ◌-◌, ◌*◌, ◌/◌, ◌%◌, ◌^◌, ◌<◌, ◌≤◌, List, [], ◌∷◌, ◌++◌, length, take, drop, get_or, min, replicate, refl, sym, ap, ◌∙◌, subst, arith, add-one, append_assoc, inl, inr, ◌≢◌}
use Rattle.std.specs.Prelude.{bit_or}
use Rattle.std.proofs.lemmas.Bool.{cases_lt}
use Rattle.std.proofs.lemmas.Nat.{pow_pos, pow-add, shl_whole, or_shifted, or_comm}
use Rattle.std.proofs.lemmas.List.{length-drop, length-take, take_at, take_all, take-replicate, drop-drop, append-nil, length-replicate}
use Rattle.bit_pack.specs.Bits.{most_values}
use Rattle.bit_pack.specs.Numbers.{number_in, fields}
use Rattle.bit_pack.specs.Hybrid.{varint_number, IsHeader, IsPiece, run, stretch, Pieces, none, more, byte_width, HasWideValue}
use Rattle.bit_pack.specs.Steps.{AddsRun, AddsStretch, AddsPiece, ReadSoFar}
use Rattle.bit_pack.proofs.Wholes.{IsBytes, IsBytes-drop, Packed-fields, length-fields, fields-append}

seven_more : (i : ℕ) → 2 ^ (7 * suc i) ≡ 128 * 2 ^ (7 * i)
seven_more i = ap (λ k. 2 ^ k) (next i) ∙ pow-add 2 7 (7 * i)
  where
    next : (i : ℕ) → 7 * suc i ≡ 7 + 7 * i
    next i = omega arith

varint_below : (i : ℕ) (bytes : List ℕ) → varint_number (take i bytes) < 2 ^ (7 * i)
unfolding varint_number
varint_below zero bytes = omega arith
varint_below (suc i) [] = pow_pos (7 * suc i)
varint_below (suc i) (b ∷ bytes) = omega (arith, varint_below i bytes, seven_more i)

varint_take : (i : ℕ) (bytes : List ℕ) → i < length bytes → varint_number (take (suc i) bytes) ≡ varint_number (take i bytes) + get_or bytes i 0 % 128 * 2 ^ (7 * i)
unfolding varint_number
varint_take i [] lt = absurd (omega arith)
varint_take zero (b ∷ bytes) lt = omega arith
varint_take (suc i) (b ∷ bytes) lt =
    let e : get_or bytes i 0 % 128 * 2 ^ (7 * suc i) ≡ 128 * (get_or bytes i 0 % 128 * 2 ^ (7 * i)) = rw (seven_more i) (omega arith) in
    omega (arith, varint_take i bytes (omega arith), e)

-- one byte of a header more
pub header_step : (bytes : List ℕ) (i : ℕ) → i < length bytes → i < 5
    → bit_or (varint_number (take i bytes)) (get_or bytes i 0 % 128 * 2 ^ (7 * i) % 2 ^ 64) ≡ varint_number (take (i + 1) bytes)
header_step bytes i lt small =
    let whole : get_or bytes i 0 % 128 * 2 ^ (7 * i) % 2 ^ 64 ≡ get_or bytes i 0 % 128 * 2 ^ (7 * i)
    = shl_whole (get_or bytes i 0 % 128) 7 (7 * i) 64 (omega arith) (omega arith) in
    rw (whole, or_comm, or_shifted (get_or bytes i 0 % 128) (7 * i) (varint_number (take i bytes)) (varint_below i bytes), add-one)
    (omega (arith, varint_take i bytes lt))

-- ---- values up to a count

take_beside : {X : Type 0} (count : ℕ) (xs ys : List X) → length xs ≤ count → take count (xs ++ ys) ≡ xs ++ take (count - length xs) ys
take_beside {X} count [] ys le =
    let none_off : count ≡ count - 0 = omega arith in
    ap (λ k. take k ys) none_off
take_beside {X} zero (x ∷ xs) ys le = absurd (omega arith)
take_beside {X} (suc count) (x ∷ xs) ys le =
    let one_off : count - length xs ≡ suc count - suc (length xs) = omega arith in
    ap (λ (zs : List X). x ∷ zs) (take_beside count xs ys (omega arith) ∙ ap (λ k. xs ++ take k ys) one_off)

take_copies : (m n v : ℕ) → take m (replicate n v) ≡ replicate (min n m) v
take_copies m n v =
    elim (cases_lt n m) [
      | inl lt ↦ take_all m (replicate n v) (omega (arith, length-replicate n v)) ∙ ap (λ k. replicate k v) (omega arith)
      | inr le ↦ take-replicate m n v le ∙ ap (λ k. replicate k v) (omega arith)
    ]

take-fields : (m w n p c : ℕ) → take m (fields w n p c) ≡ fields w n p (min c m)
take-fields m w n p c =
    elim (cases_lt c m) [
      | inl lt ↦ take_all m (fields w n p c) (omega (arith, length-fields w n p c)) ∙ ap (λ k. fields w n p k) (omega arith)
      | inr le ↦
          let all : c ≡ m + (c - m) = omega arith in
          ap (λ k. take m (fields w n p k)) all ∙ ap (λ (xs : List ℕ). take m xs) (fields-append w n p m (c - m))
          ∙ take_at (fields w n p m) (fields w n (p + m) (c - m)) m (length-fields w n p m) ∙ ap (λ k. fields w n p k) (omega arith)
    ]

-- ---- one piece

pub run_piece : (w : ℕ) (bytes : List ℕ) (len number count : ℕ) (old new rest : List ℕ) → length old ≤ count
    → IsHeader bytes len number → number % 2 ≡ 0 → AddsRun w (drop len bytes) (number / 2) count old new rest → AddsPiece w bytes count old new rest
run_piece w bytes len number count old new rest le header even adds =
    let value = number_in (take (byte_width w) (drop len bytes)) in
    let twice : number ≡ 2 * (number / 2) = omega arith in
    let within : len + byte_width w ≤ length bytes = omega (arith, header.within, adds.within, length-drop len bytes) in (
      len + byte_width w,
      replicate (number / 2) value,
      run len (number / 2) value (record {
        header = subst (λ k. IsHeader bytes len k) twice header;
        few = adds.few;
        within = within;
        means = refl;
        narrow = adds.narrow;
      }),
      omega (arith, header.some),
      within,
      adds.added ∙ sym (take_beside count old (replicate (number / 2) value) le ∙ ap (λ (xs : List ℕ). old ++ xs) (take_copies (count - length old) (number / 2) value)),
      adds.left ∙ drop-drop (byte_width w) len bytes,
    )

pub stretch_piece : (w : ℕ) (bytes : List ℕ) (len number count : ℕ) (old new rest : List ℕ) → IsBytes bytes → length old ≤ count
    → IsHeader bytes len number → number % 2 ≢ 0 → AddsStretch w (drop len bytes) (number / 2) count old new rest → AddsPiece w bytes count old new rest
stretch_piece w bytes len number count old new rest fits le header odd adds =
    let g = number / 2 in
    let n = number_in (drop len bytes) in
    let twice : number ≡ 2 * g + 1 = omega arith in
    let within : len + g * w ≤ length bytes = omega (arith, header.within, adds.within, length-drop len bytes) in
    let inside : 8 * g * w ≤ 8 * length (drop len bytes) = omega (arith, adds.within) in (
      len + g * w,
      fields w n 0 (8 * g),
      stretch len g (fields w n 0 (8 * g)) (record {
        header = subst (λ k. IsHeader bytes len k) twice header;
        few = adds.few;
        within = within;
        all = length-fields w n 0 (8 * g);
        packed = Packed-fields w (drop len bytes) (8 * g) (fields w n 0 (8 * g)) (IsBytes-drop len bytes fits) inside refl;
      }),
      omega (arith, header.some),
      within,
      adds.added ∙ sym (take_beside count old (fields w n 0 (8 * g)) le ∙ ap (λ (xs : List ℕ). old ++ xs) (take-fields (count - length old) w n 0 (8 * g))),
      adds.left ∙ drop-drop (g * w) len bytes,
    )

-- ---- pieces one behind the other

pub Pieces-push : {w : ℕ} {bytes rest values : List ℕ} (len : ℕ) (last : List ℕ) → Pieces w bytes rest values → IsPiece w rest len last → Pieces w bytes (drop len rest) (values ++ last)
Pieces-push {w} {bytes} len last none piece = subst (λ (xs : List ℕ). Pieces w bytes (drop len bytes) xs) (append-nil last) (more len last piece none)
Pieces-push {w} {bytes} {rest} len last (more {values = values} k first head tail) piece =
    subst (λ (xs : List ℕ). Pieces w bytes (drop len rest) xs) (sym (append_assoc first values last)) (more k first head (Pieces-push len last tail piece))

-- a front that is too short is the whole
all_missing : (count : ℕ) (all : List ℕ) → length (take count all) < count → take count all ≡ all
all_missing count all lt = take_all count all (omega (arith, length-take count all))

-- one piece more was read
pub read_more : (w : ℕ) (bytes : List ℕ) (count : ℕ) (rest values new left : List ℕ) → length values < count
    → ReadSoFar w bytes count rest values → AddsPiece w rest count values new left → ReadSoFar w bytes count left new
read_more w bytes count rest values new left missing (all, pieces, first) (len, last, piece, some, within, added, behind) =
    let whole : values ≡ all = first ∙ all_missing count all (omega (arith, ap length first)) in (
      all ++ last,
      subst (λ (xs : List ℕ). Pieces w bytes xs (all ++ last)) (sym behind) (Pieces-push len last pieces piece),
      added ∙ ap (λ (xs : List ℕ). take count (xs ++ last)) whole,
    )

-- nothing was read yet
pub read_none : (w : ℕ) (bytes : List ℕ) (count : ℕ) (values : List ℕ) → values ≡ [] → ReadSoFar w bytes count bytes values
read_none w bytes count values e = ([], none, e ∙ sym (take_all count [] (omega arith)))

pub HasWideValue-run : (w : ℕ) (bytes : List ℕ) (len number : ℕ) → IsHeader bytes len number → number % 2 ≡ 0 → number / 2 ≤ most_values
    → byte_width w ≤ length (drop len bytes) → 2 ^ w ≤ number_in (take (byte_width w) (drop len bytes)) → HasWideValue w bytes
HasWideValue-run w bytes len number header even few within wide =
    let twice : number ≡ 2 * (number / 2) = omega arith in
    (len, number / 2, subst (λ k. IsHeader bytes len k) twice header, few, omega (arith, header.within, within, length-drop len bytes), wide)
