-- The header of a piece is read where it stands.
use Rattle.std.proofs.Common.{◌≡◌, ℕ, zero, suc, ◌+◌, ◌-◌, ◌*◌, ◌%◌, ◌<◌, ◌≤◌, List, [], ◌∷◌, length, take, get_or, refl, sym, ap, subst, ◌∙◌, arith, add-one, inl, inr, Some}
use Rattle.std.proofs.lemmas.Bool.{cases_lt, lt-ltb, le-ltb}
use Rattle.bit_pack.specs.Hybrid.{varint_number}
use Rattle.parquet_pages.specs.Hybrids.{header_in}
use Rattle.parquet_pages.proofs.Chains.{map_some, inside, pair_of}

-- the same as `IsHeader`, for any number of bytes
pub record Header (most : ℕ) (bytes : List ℕ) (len number : ℕ) : Type 0 where
  pub some : 0 < len
  pub few : len ≤ most
  pub within : len ≤ length bytes
  pub goes_on : (k : ℕ) → k + 1 < len → 128 ≤ get_or bytes k 0
  pub ends : get_or bytes (len - 1) 0 < 128
  pub means : number ≡ varint_number (take len bytes)

last : (byte : ℕ) (bytes : List ℕ) (len number : ℕ) → len ≡ 1 → byte < 128 → number ≡ varint_number (take len (byte ∷ bytes)) → ◌≡◌ {A = ℕ × ℕ} (1, byte) (len, number)
unfolding varint_number
last byte bytes len number one small means =
    let value : byte ≡ number = omega (arith, means ∙ ap (λ k. varint_number (take k (byte ∷ bytes))) one) in
    pair_of 1 len byte number (sym one) value

at_end : (byte : ℕ) (bytes : List ℕ) (n : ℕ) → 0 < n → get_or (byte ∷ bytes) (suc n - 1) 0 ≡ get_or bytes (n - 1) 0
at_end byte bytes zero some = absurd (omega arith)
at_end byte bytes (suc n) some =
    let outer : suc (suc n) - 1 ≡ suc n = omega arith in
    let inner : n ≡ suc n - 1 = omega arith in
    ap (λ k. get_or (byte ∷ bytes) k 0) outer ∙ ap (λ k. get_or bytes k 0) inner

later : (most byte : ℕ) (bytes : List ℕ) (len number : ℕ) → Header (suc most) (byte ∷ bytes) (suc (suc len)) number
    → Header most bytes (suc len) (varint_number (take (suc len) bytes))
later most byte bytes len number h = record {
  some = omega arith;
  few = omega (arith, h.few);
  within = omega (arith, h.within);
  goes_on = λ k lt. h.goes_on (suc k) (omega (arith, lt));
  ends = subst (λ k. k < 128) (at_end byte bytes (suc len) (omega arith)) h.ends;
  means = refl;
}

pub header_found : (most : ℕ) (bytes : List ℕ) (len number : ℕ) → Header most bytes len number → header_in most bytes ≡ Some (len, number)
unfolding header_in varint_number
header_found zero bytes len number h = absurd (omega (arith, h.some, h.few))
header_found (suc most) [] len number h = absurd (omega (arith, h.some, h.within))
header_found (suc most) (byte ∷ bytes) zero number h = absurd (omega (arith, h.some))
header_found (suc most) (byte ∷ bytes) (suc zero) number h =
    rw (lt-ltb byte 128 h.ends) (ap Some (last byte bytes 1 number refl h.ends h.means))
header_found (suc most) (byte ∷ bytes) (suc (suc len)) number h =
    let on : 128 ≤ byte = h.goes_on 0 (omega arith) in
    let rest = header_found most bytes (suc len) (varint_number (take (suc len) bytes)) (later most byte bytes len number h) in
    rw (le-ltb byte 128 on, rest) (ap Some (joined byte (varint_number (take (suc len) bytes)) (suc len) number h.means))
  where
    joined : (byte value len number : ℕ) → number ≡ byte % 128 + 128 * value → ◌≡◌ {A = ℕ × ℕ} (len + 1, byte % 128 + 128 * value) (suc len, number)
    joined byte value len number e = pair_of (len + 1) (suc len) (byte % 128 + 128 * value) number (omega arith) (sym e)

more_header : (most byte : ℕ) (bytes : List ℕ) (len number : ℕ) → 128 ≤ byte → Header most bytes len number
    → Header (suc most) (byte ∷ bytes) (len + 1) (byte % 128 + 128 * number)
unfolding varint_number
more_header most byte bytes len number on h = record {
  some = omega arith;
  few = omega (arith, h.few);
  within = omega (arith, h.within);
  goes_on = λ k lt. goes k lt;
  ends = subst (λ k. get_or (byte ∷ bytes) (k - 1) 0 < 128) (sym (add-one len)) (subst (λ k. k < 128) (sym (at_end byte bytes len h.some)) h.ends);
  means = ap (λ k. byte % 128 + 128 * k) h.means ∙ ap (λ k. varint_number (take k (byte ∷ bytes))) (sym (add-one len));
}
  where
    goes : (k : ℕ) → k + 1 < len + 1 → 128 ≤ get_or (byte ∷ bytes) k 0
    goes zero lt = on
    goes (suc k) lt = h.goes_on k (omega (arith, lt))

last_header : (most byte : ℕ) (bytes : List ℕ) → byte < 128 → Header (suc most) (byte ∷ bytes) 1 byte
unfolding varint_number
last_header most byte bytes lt = record {
  some = omega arith;
  few = omega arith;
  within = omega arith;
  goes_on = λ k one. absurd (omega (arith, one));
  ends = lt;
  means = omega arith;
}

pub header_only : (most : ℕ) (bytes : List ℕ) (len number : ℕ) → header_in most bytes ≡ Some (len, number) → Header most bytes len number
unfolding header_in
header_only zero bytes len number e = absurd cc
header_only (suc most) [] len number e = absurd cc
header_only (suc most) (byte ∷ bytes) len number e = elim (cases_lt byte 128) [
  | inl lt ↦
      let same = inside (1, byte) (len, number) (rw (lt-ltb byte 128 lt) at e) in
      subst (λ (h : ℕ × ℕ). Header (suc most) (byte ∷ bytes) h.0 h.1) same (last_header most byte bytes lt)
  | inr on ↦
      let step = rw (le-ltb byte 128 on) at e in
      let p = map_some (λ (h : ℕ × ℕ). (h.0 + 1, byte % 128 + 128 * h.1)) (header_in most bytes) (len, number) step in
      let rest = header_only most bytes p.0.0 p.0.1 p.1 in
      subst (λ (h : ℕ × ℕ). Header (suc most) (byte ∷ bytes) h.0 h.1) p.2 (more_header most byte bytes p.0.0 p.0.1 on rest)
]
