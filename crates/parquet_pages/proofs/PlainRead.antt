-- PLAIN values are read where they stand, and only there.
use Rattle.std.proofs.Common.{◌≡◌, ℕ, zero, suc, ◌*◌, ◌≤◌, ℤ, pos, neg_ℤ, Bool, true, false, ◌&&◌, cond, leb, List, [], ◌∷◌, ◌++◌, length, take, drop, map, refl, sym, ap, subst, ◌∙◌, arith, Some, None, option_map, option_and_then}
use Rattle.std.specs.Int.{w32, from_le_bytes}
use lib.Dec.{T}
use lib.Signed.{le_z}
use Rattle.std.specs.Str.{is_utf8}
use Rattle.std.proofs.lemmas.Str.{is_utf8-from_IsUtf8, IsUtf8-from_is_utf8}
use Rattle.std.proofs.lemmas.Bool.{le-leb, leb-true, and_parts, and_from}
use Rattle.std.proofs.lemmas.List.{length-append, length-take-le, take-append-drop, take_at, drop_at, length-map}
use Rattle.bit_pack.specs.Bits.{Packed}
use Rattle.row_base.specs.declared.limits.TheConstants.{MAX_TEXT_BYTES}
use Rattle.row_base.specs.Dates.{IsDayNumber}
use Rattle.row_base.specs.declared.row.Datum.{Datum}
use Rattle.row_base.specs.declared.row.Datum.TheVariants as datum
use Rattle.row_base.specs.declared.row.Kind.{Kind}
use Rattle.row_base.specs.declared.row.Kind.TheVariants as kind
use Rattle.parquet_pages.specs.Hybrids.{values_from, unpacked}
use Rattle.parquet_pages.specs.Plain.{cut, block_in, long_of, integer_of, is_day_number, is_text, text_datum, plain_value, values_in_line, boolean_of, booleans_in, plain_values}
use Rattle.parquet_pages.specs.Grammar.{IsText, Block, PlainValue, long, integer, date, string, InLine, done, next, InBits, PlainValues}
use Rattle.parquet_pages.proofs.Chains.{bind_some, map_some, bind_at, map_at, test_some, inside}
use Rattle.parquet_pages.proofs.Pieces.{length-values_from, Packed-values_from, unpacked_found}

-- ---- pieces of bytes

pub cut_at : (n : ℕ) (front rest : List ℕ) → length front ≡ n → cut n (front ++ rest) ≡ Some (front, rest)
cut_at n front rest here =
    let room : n ≤ length (front ++ rest) = omega (arith, here, length-append front rest) in
    rw (le-leb n (length (front ++ rest)) room, take_at front rest n here, drop_at front rest n here) refl

pub cut_is : (n : ℕ) (bytes : List ℕ) (c : List ℕ × List ℕ) → cut n bytes ≡ Some c → (bytes ≡ c.0 ++ c.1) × (length c.0 ≡ n)
cut_is n bytes c e =
    let p = test_some (leb n (length bytes)) (Some (take n bytes, drop n bytes)) c e in
    let same = inside (take n bytes, drop n bytes) c p.1 in
    let whole : (bytes ≡ take n bytes ++ drop n bytes) × (length (take n bytes) ≡ n)
    = (sym (take-append-drop n bytes), length-take-le n bytes (leb-true n (length bytes) p.0)) in
    subst (λ (d : List ℕ × List ℕ). (bytes ≡ d.0 ++ d.1) × (length d.0 ≡ n)) same whole

pub block_found : (bytes block rest : List ℕ) → Block bytes block rest → block_in bytes ≡ Some (block, rest)
unfolding block_in
block_found bytes block rest b =
    ap (λ (bs : List ℕ). option_and_then (λ (f : List ℕ × List ℕ). cut (from_le_bytes w32 f.0) f.1) (cut 4 bs)) b.whole
    ∙ bind_at (cut 4 (b.front ++ (block ++ rest))) (λ (f : List ℕ × List ℕ). cut (from_le_bytes w32 f.0) f.1) (b.front, block ++ rest) (cut_at 4 b.front (block ++ rest) b.four)
    ∙ cut_at (from_le_bytes w32 b.front) block rest (sym b.counted)

pub block_only : (bytes : List ℕ) (b : List ℕ × List ℕ) → block_in bytes ≡ Some b → Block bytes b.0 b.1
unfolding block_in
block_only bytes b e =
    let p = bind_some (cut 4 bytes) (λ (f : List ℕ × List ℕ). cut (from_le_bytes w32 f.0) f.1) b e in
    let outer = cut_is 4 bytes p.0 p.1 in
    let inner = cut_is (from_le_bytes w32 p.0.0) p.0.1 b p.2 in
    record {
      front = p.0.0;
      whole = outer.0 ∙ ap (λ (bs : List ℕ). p.0.0 ++ bs) inner.0;
      four = outer.1;
      counted = sym inner.1;
    }

-- ---- one value

text_found : (bytes : List ℕ) → IsText bytes → text_datum bytes ≡ Some (datum.Text bytes)
text_found bytes t = rw (le-leb (length bytes) MAX_TEXT_BYTES t.short, is_utf8-from_IsUtf8 bytes t.utf8) refl

text_only : (bytes : List ℕ) (v : Datum) → text_datum bytes ≡ Some v → IsText bytes × (datum.Text bytes ≡ v)
text_only bytes v e =
    let p = test_some (leb (length bytes) MAX_TEXT_BYTES && is_utf8 bytes) (Some (datum.Text bytes)) v e in
    let tests = and_parts (leb (length bytes) MAX_TEXT_BYTES) (is_utf8 bytes) p.0 in
    (record { short = leb-true (length bytes) MAX_TEXT_BYTES tests.0; utf8 = IsUtf8-from_is_utf8 bytes tests.1 }, inside (datum.Text bytes) v p.1)

tells : (b : Bool) → T b → b ≡ true
tells true h = refl
tells false h = absurd h

holds : (b : Bool) → b ≡ true → T b
holds true e = tt
holds false e = absurd cc

day_found : (n : ℤ) → IsDayNumber n → is_day_number n ≡ true
day_found n h = and_from (le_z (neg_ℤ (pos 719_162)) n) (le_z n (pos 2_932_896)) (tells (le_z (neg_ℤ (pos 719_162)) n) h.0.le) (tells (le_z n (pos 2_932_896)) h.1.le)

day_only : (n : ℤ) → is_day_number n ≡ true → IsDayNumber n
day_only n h =
    let p = and_parts (le_z (neg_ℤ (pos 719_162)) n) (le_z n (pos 2_932_896)) h in
    (record { le = holds (le_z (neg_ℤ (pos 719_162)) n) p.0 }, record { le = holds (le_z n (pos 2_932_896)) p.1 })

pub value_found : {k : Kind} {bytes rest : List ℕ} {v : Datum} → PlainValue k bytes v rest → plain_value k bytes ≡ Some (v, rest)
unfolding plain_value
value_found (long text rest eight) = map_at (λ (c : List ℕ × List ℕ). (datum.Long (long_of c.0), c.1)) (cut 8 (text ++ rest)) (text, rest) (cut_at 8 text rest eight)
value_found (integer text rest four) = map_at (λ (c : List ℕ × List ℕ). (datum.Integer (integer_of c.0), c.1)) (cut 4 (text ++ rest)) (text, rest) (cut_at 4 text rest four)
value_found (date text rest four day) =
    bind_at (cut 4 (text ++ rest)) (λ (c : List ℕ × List ℕ). cond (is_day_number (integer_of c.0)) (Some (datum.Date (integer_of c.0), c.1)) None) (text, rest) (cut_at 4 text rest four)
    ∙ (rw (day_found (integer_of text) day) refl)
value_found (string bytes text rest block is_text) =
    bind_at (block_in bytes) (λ (b : List ℕ × List ℕ). option_map (λ (d : Datum). (d, b.1)) (text_datum b.0)) (text, rest) (block_found bytes text rest block)
    ∙ map_at (λ (d : Datum). (d, rest)) (text_datum text) (datum.Text text) (text_found text is_text)

-- a value and what is behind it
pub Reading : Kind → List ℕ → Datum × List ℕ → Type 0
Reading k bytes r = PlainValue k bytes r.0 r.1

whole_back : (bytes front rest : List ℕ) (k : Kind) (v : Datum) → bytes ≡ front ++ rest → PlainValue k (front ++ rest) v rest → PlainValue k bytes v rest
whole_back bytes front rest k v e value = subst (λ (bs : List ℕ). PlainValue k bs v rest) (sym e) value

pub value_only : (k : Kind) (bytes : List ℕ) (r : Datum × List ℕ) → plain_value k bytes ≡ Some r → PlainValue k bytes r.0 r.1
unfolding plain_value
value_only kind.Long bytes r e =
    let p = map_some (λ (c : List ℕ × List ℕ). (datum.Long (long_of c.0), c.1)) (cut 8 bytes) r e in
    let c = cut_is 8 bytes p.0 p.1 in
    subst (λ (q : Datum × List ℕ). PlainValue kind.Long bytes q.0 q.1) p.2
    (whole_back bytes p.0.0 p.0.1 kind.Long (datum.Long (long_of p.0.0)) c.0 (long p.0.0 p.0.1 c.1))
value_only kind.Integer bytes r e =
    let p = map_some (λ (c : List ℕ × List ℕ). (datum.Integer (integer_of c.0), c.1)) (cut 4 bytes) r e in
    let c = cut_is 4 bytes p.0 p.1 in
    subst (λ (q : Datum × List ℕ). PlainValue kind.Integer bytes q.0 q.1) p.2
    (whole_back bytes p.0.0 p.0.1 kind.Integer (datum.Integer (integer_of p.0.0)) c.0 (integer p.0.0 p.0.1 c.1))
value_only kind.Boolean bytes r e = absurd cc
value_only kind.String bytes r e =
    let p = bind_some (block_in bytes) (λ (b : List ℕ × List ℕ). option_map (λ (d : Datum). (d, b.1)) (text_datum b.0)) r e in
    let q = map_some (λ (d : Datum). (d, p.0.1)) (text_datum p.0.0) r p.2 in
    let t = text_only p.0.0 q.0 q.1 in
    let text : PlainValue kind.String bytes (datum.Text p.0.0) p.0.1 = string bytes p.0.0 p.0.1 (block_only bytes p.0 p.1) t.0 in
    let named : PlainValue kind.String bytes q.0 p.0.1 = subst (λ (d : Datum). PlainValue kind.String bytes d p.0.1) t.1 text in
    subst (λ (s : Datum × List ℕ). PlainValue kind.String bytes s.0 s.1) q.2 named
value_only kind.Date bytes r e =
    let p = bind_some (cut 4 bytes) (λ (c : List ℕ × List ℕ). cond (is_day_number (integer_of c.0)) (Some (datum.Date (integer_of c.0), c.1)) None) r e in
    let c = cut_is 4 bytes p.0 p.1 in
    let q = test_some (is_day_number (integer_of p.0.0)) (Some (datum.Date (integer_of p.0.0), p.0.1)) r p.2 in
    subst (λ (s : Datum × List ℕ). PlainValue kind.Date bytes s.0 s.1) (inside (datum.Date (integer_of p.0.0), p.0.1) r q.1)
    (whole_back bytes p.0.0 p.0.1 kind.Date (datum.Date (integer_of p.0.0)) c.0 (date p.0.0 p.0.1 c.1 (day_only (integer_of p.0.0) q.0)))

-- ---- values in line

pub line_found : {k : Kind} {bytes : List ℕ} {vs : List Datum} → InLine k bytes vs → values_in_line k (length vs) bytes ≡ Some vs
unfolding values_in_line
line_found (done bytes) = refl
line_found {k} (next bytes rest v vs value others) =
    let here : plain_value k bytes ≡ Some (v, rest) = value_found value in
    let behind : values_in_line k (length vs) rest ≡ Some vs = line_found others in
    rw (here, behind) refl

pub line_only : (k : Kind) (count : ℕ) (bytes : List ℕ) (vs : List Datum) → values_in_line k count bytes ≡ Some vs → (length vs ≡ count) × InLine k bytes vs
unfolding values_in_line
line_only k zero bytes vs e = subst (λ (ds : List Datum). (length ds ≡ 0) × InLine k bytes ds) (inside [] vs e) (refl, done bytes)
line_only k (suc count) bytes vs e =
    let p = bind_some (plain_value k bytes) (λ (v : Datum × List ℕ). option_map (λ (ds : List Datum). v.0 ∷ ds) (values_in_line k count v.1)) vs e in
    let q = map_some (λ (ds : List Datum). p.0.0 ∷ ds) (values_in_line k count p.0.1) vs p.2 in
    let rest = line_only k count p.0.1 q.0 q.1 in
    let first : PlainValue k bytes p.0.0 p.0.1 = value_only k bytes p.0 p.1 in
    let all : (length (p.0.0 ∷ q.0) ≡ suc count) × InLine k bytes (p.0.0 ∷ q.0) = (ap suc rest.0, next bytes p.0.1 p.0.0 q.0 first rest.1) in
    subst (λ (ds : List Datum). (length ds ≡ suc count) × InLine k bytes ds) q.2 all

-- ---- booleans

pub bits_found : (bytes : List ℕ) (vs : List Datum) (count : ℕ) → length vs ≡ count → InBits bytes vs → booleans_in count bytes ≡ Some vs
unfolding booleans_in
bits_found bytes vs count all b =
    let long : length b.bits ≡ count = sym (length-map b.bits boolean_of) ∙ sym (ap length b.means) ∙ all in
    map_at (map boolean_of) (unpacked 1 count bytes) b.bits (unpacked_found 1 count bytes b.bits long b.packed) ∙ ap Some (sym b.means)

pub bits_only : (count : ℕ) (bytes : List ℕ) (vs : List Datum) → booleans_in count bytes ≡ Some vs → (length vs ≡ count) × InBits bytes vs
unfolding booleans_in unpacked
bits_only count bytes vs e =
    let p = map_some (map boolean_of) (unpacked 1 count bytes) vs e in
    let q = test_some (leb (count * 1) (8 * length bytes)) (Some (values_from 1 bytes 0 count)) p.0 p.1 in
    let same : values_from 1 bytes 0 count ≡ p.0 = inside (values_from 1 bytes 0 count) p.0 q.1 in
    let within : count * 1 ≤ 8 * length bytes = leb-true (count * 1) (8 * length bytes) q.0 in
    let packed : Packed 1 bytes p.0 = subst (λ (bs : List ℕ). Packed 1 bytes bs) same (Packed-values_from 1 bytes count within) in
    let long : length p.0 ≡ count = ap length (sym same) ∙ length-values_from 1 bytes 0 count in
    (ap length (sym p.2) ∙ length-map p.0 boolean_of ∙ long, record { bits = p.0; packed = packed; means = sym p.2 })

-- ---- values of a kind

pub plain_found : (k : Kind) (count : ℕ) (bytes : List ℕ) (vs : List Datum) → length vs ≡ count → PlainValues k bytes vs → plain_values k count bytes ≡ Some vs
unfolding plain_values
plain_found kind.Boolean count bytes vs all b = bits_found bytes vs count all b
plain_found kind.Long count bytes vs all b = ap (λ n. values_in_line kind.Long n bytes) (sym all) ∙ line_found b
plain_found kind.Integer count bytes vs all b = ap (λ n. values_in_line kind.Integer n bytes) (sym all) ∙ line_found b
plain_found kind.String count bytes vs all b = ap (λ n. values_in_line kind.String n bytes) (sym all) ∙ line_found b
plain_found kind.Date count bytes vs all b = ap (λ n. values_in_line kind.Date n bytes) (sym all) ∙ line_found b

pub plain_only : (k : Kind) (count : ℕ) (bytes : List ℕ) (vs : List Datum) → plain_values k count bytes ≡ Some vs → (length vs ≡ count) × PlainValues k bytes vs
unfolding plain_values
plain_only kind.Boolean count bytes vs e = bits_only count bytes vs e
plain_only kind.Long count bytes vs e = line_only kind.Long count bytes vs e
plain_only kind.Integer count bytes vs e = line_only kind.Integer count bytes vs e
plain_only kind.String count bytes vs e = line_only kind.String count bytes vs e
plain_only kind.Date count bytes vs e = line_only kind.Date count bytes vs e
