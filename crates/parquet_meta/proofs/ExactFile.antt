-- The footer of a file is read exactly where the file ends with its text, what stands behind it, their length and the magic.
use Rattle.std.proofs.Common.{◌≡◌, ℕ, ◌+◌, ◌-◌, ◌≤◌, Bool, true, false, not, cond, ltb, List, ◌++◌, length, take, drop, refl, sym, ap, ◌∙◌, subst, arith, Ok, Err}
use Rattle.std.specs.Prelude.{codes, ◌&&◌}
use Rattle.std.specs.Str.{bytes_eq}
use Rattle.std.specs.Int.{w32, from_le_bytes}
use Rattle.std.proofs.lemmas.Bool.{ltb-false, le-ltb}
use Rattle.std.proofs.lemmas.List.{append_assoc, length-append, take-append-drop, take_at, drop_at, length-take-le, length-drop, drop-drop}
use Rattle.std.proofs.lemmas.Slice.Eq.{bytes_eq-Decides}
use Rattle.thrift_compact.specs.Laws.{Stands}
use Rattle.thrift_compact.proofs.Standing.{front_of, stands_make}
use Rattle.parquet_meta.specs.declared.fault.FileFault.TheVariants as faults
use Rattle.parquet_meta.specs.declared.meta.FileMeta.{FileMeta}
use Rattle.row_base.specs.declared.limits.TheConstants.{MAX_OBJECT_BYTES}
use Rattle.row_base.specs.Faults.{◌>>=◌}
use Rattle.parquet_meta.specs.Pieces.{Piece}
use Rattle.parquet_meta.specs.Footer.{is_size, has_magic, footer_len, footer_piece, footer_found, file_in, footer_of}
use Rattle.parquet_meta.specs.Grammar.{SpellsFile, IsFile}
use Rattle.parquet_meta.proofs.Exact.{bind_ok, bind_from, ok_inside, guard_ok}
use Rattle.parquet_meta.proofs.ExactFooter.{file_finds, file_takes}

-- ---- tests

both_true : (a b : Bool) → (a && b) ≡ true → (a ≡ true) × (b ≡ true)
both_true true b e = (refl, e)
both_true false b e = absurd cc

true_both : (a b : Bool) → a ≡ true → b ≡ true → (a && b) ≡ true
true_both a b p q = rw (p, q) refl

not_false : (a : Bool) → not a ≡ false → a ≡ true
not_false true e = refl
not_false false e = absurd cc

not_true : (a : Bool) → not a ≡ true → a ≡ false
not_true true e = absurd cc
not_true false e = refl

-- the bytes of a list, cut at its places
abbrev Cut : List ℕ → ℕ → Type 0
Cut file len = file ≡ take 4 file ++ (take (length file - 12 - len) (drop 4 file) ++ (take len (drop (length file - 8 - len) file)
    ++ (take 4 (drop (length file - 8) file) ++ drop (length file - 4) file)))

cut : (file : List ℕ) (len : ℕ) → len + 12 ≤ length file → Cut file len
cut file len small =
    let n = length file in
    let first : file ≡ take 4 file ++ drop 4 file = sym (take-append-drop 4 file) in
    let second : drop 4 file ≡ take (n - 12 - len) (drop 4 file) ++ drop (n - 8 - len) file
    = sym (take-append-drop (n - 12 - len) (drop 4 file)) ∙ ap (λ (bs : List ℕ). take (n - 12 - len) (drop 4 file) ++ bs) (drop-drop (n - 12 - len) 4 file ∙ ap (λ k. drop k file) (omega (arith, small))) in
    let third : drop (n - 8 - len) file ≡ take len (drop (n - 8 - len) file) ++ drop (n - 8) file
    = sym (take-append-drop len (drop (n - 8 - len) file)) ∙ ap (λ (bs : List ℕ). take len (drop (n - 8 - len) file) ++ bs) (drop-drop len (n - 8 - len) file ∙ ap (λ k. drop k file) (omega (arith, small))) in
    let fourth : drop (n - 8) file ≡ take 4 (drop (n - 8) file) ++ drop (n - 4) file
    = sym (take-append-drop 4 (drop (n - 8) file)) ∙ ap (λ (bs : List ℕ). take 4 (drop (n - 8) file) ++ bs) (drop-drop 4 (n - 8) file ∙ ap (λ k. drop k file) (omega (arith, small))) in
    first
    ∙ ap (λ (bs : List ℕ). take 4 file ++ bs) (second ∙ ap (λ (bs : List ℕ). take (n - 12 - len) (drop 4 file) ++ bs) (third ∙ ap (λ (bs : List ℕ). take len (drop (n - 8 - len) file) ++ bs) fourth))

-- what the tests of a file's ends say
record Framed (file : List ℕ) (piece : Piece) : Type 0 where
  least : footer_len file + 12 ≤ length file
  most : length file ≤ MAX_OBJECT_BYTES
  front : take 4 file ≡ codes "PAR1"
  back : drop (length file - 4) file ≡ codes "PAR1"
  is : piece ≡ footer_piece file (footer_len file)

framed : (file : List ℕ) (piece : Piece) → footer_found file ≡ Ok piece → Framed file piece
unfolding footer_found
framed file piece e =
    let a = guard_ok (not (is_size (length file))) faults.Short
    (cond (not (has_magic file)) (Err faults.Magic) (cond (ltb (length file) (footer_len file + 12)) (Err faults.Footer) (Ok (footer_piece file (footer_len file))))) piece e in
    let b = guard_ok (not (has_magic file)) faults.Magic (cond (ltb (length file) (footer_len file + 12)) (Err faults.Footer) (Ok (footer_piece file (footer_len file)))) piece a.1 in
    let c = guard_ok (ltb (length file) (footer_len file + 12)) faults.Footer (Ok (footer_piece file (footer_len file))) piece b.1 in
    let sizes = both_true (not (ltb (length file) 12)) (not (ltb MAX_OBJECT_BYTES (length file))) (not_false (is_size (length file)) a.0) in
    let ends = both_true (bytes_eq (take 4 file) (codes "PAR1")) (bytes_eq (drop (length file - 4) file) (codes "PAR1")) (not_false (has_magic file) b.0) in
    record {
      least = ltb-false (length file) (footer_len file + 12) c.0;
      most = ltb-false MAX_OBJECT_BYTES (length file) (not_true (ltb MAX_OBJECT_BYTES (length file)) sizes.1);
      front = (bytes_eq-Decides (take 4 file) (codes "PAR1")).0 ends.0;
      back = (bytes_eq-Decides (drop (length file - 4) file) (codes "PAR1")).0 ends.1;
      is = sym (ok_inside (footer_piece file (footer_len file)) piece c.1);
    }

pub footers_found : (file : List ℕ) (meta : FileMeta) → footer_of file ≡ Ok meta → IsFile file meta
unfolding footer_of
footers_found file meta e =
    let p = bind_ok (footer_found file) (λ piece. file_in piece 0 0 >>= λ m. Ok m.0) meta e in
    let q = bind_ok (file_in p.0 0 0) (λ m. Ok m.0) meta p.2 in
    let same : q.0.0 ≡ meta = ok_inside q.0.0 meta q.2 in
    let h = framed file p.0 p.1 in
    let found = file_finds p.0 0 0 q.0.0 q.0.1 (omega arith) q.1 in
    let n = length file in
    let len = footer_len file in
    let here : take len (drop (n - 8 - len) file) ≡ found.0 ++ found.2.rest
    = ap (λ (piece : Piece). piece.bytes) (sym h.is) ∙ front_of p.0.bytes 0 found.0 q.0.1 found.2 in
    let four : length (take 4 (drop (n - 8) file)) ≡ 4 = length-take-le 4 (drop (n - 8) file) (omega (arith, length-drop (n - 8) file, h.least)) in
    let whole : length (take len (drop (n - 8 - len) file)) ≡ len = length-take-le len (drop (n - 8 - len) file) (omega (arith, length-drop (n - 8 - len) file, h.least)) in
    let sum : len ≡ length found.0 + length found.2.rest = sym whole ∙ ap length here ∙ length-append found.0 found.2.rest in
    record {
      pages = take (n - 12 - len) (drop 4 file);
      text = found.0;
      rest = found.2.rest;
      size = take 4 (drop (n - 8) file);
      spelled = subst (λ (m : FileMeta). SpellsFile found.0 m) same found.1;
      four = four;
      counted = sum;
      whole = cut file len h.least
          ∙ ap (λ (bs : List ℕ). bs ++ (take (n - 12 - len) (drop 4 file) ++ (take len (drop (n - 8 - len) file) ++ (take 4 (drop (n - 8) file) ++ drop (n - 4) file)))) h.front
          ∙ ap (λ (bs : List ℕ). codes "PAR1" ++ (take (n - 12 - len) (drop 4 file) ++ (bs ++ (take 4 (drop (n - 8) file) ++ drop (n - 4) file)))) here
          ∙ ap (λ (bs : List ℕ). codes "PAR1" ++ (take (n - 12 - len) (drop 4 file) ++ ((found.0 ++ found.2.rest) ++ (take 4 (drop (n - 8) file) ++ bs)))) h.back;
      small = h.most;
    }

-- ---- a file put together

abbrev joined : List ℕ → List ℕ → List ℕ → List ℕ
joined pages body size = codes "PAR1" ++ (pages ++ (body ++ (size ++ codes "PAR1")))

length-joined : (pages body size : List ℕ) → length size ≡ 4 → length (joined pages body size) ≡ length pages + length body + 12
length-joined pages body size four =
    let a = length-append (codes "PAR1") (pages ++ (body ++ (size ++ codes "PAR1"))) in
    let b = length-append pages (body ++ (size ++ codes "PAR1")) in
    let c = length-append body (size ++ codes "PAR1") in
    let d = length-append size (codes "PAR1") in
    omega (arith, a, b, c, d, four)

drop-body : (pages body size : List ℕ) (at : ℕ) → at ≡ length pages + 4 → drop at (joined pages body size) ≡ body ++ (size ++ codes "PAR1")
drop-body pages body size at here =
    ap (λ (bs : List ℕ). drop at bs) (sym (append_assoc (codes "PAR1") pages (body ++ (size ++ codes "PAR1"))))
    ∙ drop_at (codes "PAR1" ++ pages) (body ++ (size ++ codes "PAR1")) at (omega (arith, length-append (codes "PAR1") pages, here))

drop-size : (pages body size : List ℕ) (at : ℕ) → at ≡ length pages + 4 + length body → drop at (joined pages body size) ≡ size ++ codes "PAR1"
drop-size pages body size at here =
    ap (λ k. drop k (joined pages body size)) (omega (arith, here))
    ∙ sym (drop-drop (length body) (length pages + 4) (joined pages body size))
    ∙ ap (λ (bs : List ℕ). drop (length body) bs) (drop-body pages body size (length pages + 4) refl)
    ∙ drop_at body (size ++ codes "PAR1") (length body) refl

drop-magic : (pages body size : List ℕ) (at : ℕ) → length size ≡ 4 → at ≡ length pages + 8 + length body → drop at (joined pages body size) ≡ codes "PAR1"
drop-magic pages body size at four here =
    ap (λ k. drop k (joined pages body size)) (omega (arith, here))
    ∙ sym (drop-drop 4 (length pages + 4 + length body) (joined pages body size))
    ∙ ap (λ (bs : List ℕ). drop 4 bs) (drop-size pages body size (length pages + 4 + length body) refl)
    ∙ drop_at size (codes "PAR1") 4 four

joined_found : (pages body size : List ℕ) → length size ≡ 4 → from_le_bytes w32 size ≡ length body → length (joined pages body size) ≤ MAX_OBJECT_BYTES
    → footer_found (joined pages body size) ≡ Ok (record { bytes = body; start = length pages + 4 })
unfolding footer_found
joined_found pages body size four counted small =
    let file = joined pages body size in
    let n : length file ≡ length pages + length body + 12 = length-joined pages body size four in
    let big : is_size (length file) ≡ true = true_both (not (ltb (length file) 12)) (not (ltb MAX_OBJECT_BYTES (length file))) (ap not (le-ltb (length file) 12 (omega (arith, n)))) (ap not (le-ltb MAX_OBJECT_BYTES (length file) small)) in
    let front : take 4 file ≡ codes "PAR1" = take_at (codes "PAR1") (pages ++ (body ++ (size ++ codes "PAR1"))) 4 refl in
    let back : drop (length file - 4) file ≡ codes "PAR1" = drop-magic pages body size (length file - 4) four (omega (arith, n)) in
    let magic : has_magic file ≡ true = true_both (bytes_eq (take 4 file) (codes "PAR1")) (bytes_eq (drop (length file - 4) file) (codes "PAR1"))
    ((bytes_eq-Decides (take 4 file) (codes "PAR1")).1 front) ((bytes_eq-Decides (drop (length file - 4) file) (codes "PAR1")).1 back) in
    let tail : take 4 (drop (length file - 8) file) ≡ size
    = ap (λ (bs : List ℕ). take 4 bs) (drop-size pages body size (length file - 8) (omega (arith, n))) ∙ take_at size (codes "PAR1") 4 four in
    let len : footer_len file ≡ length body = ap (from_le_bytes w32) tail ∙ counted in
    let fits : ltb (length file) (footer_len file + 12) ≡ false = le-ltb (length file) (footer_len file + 12) (omega (arith, n, len)) in
    let start : length file - 8 - footer_len file ≡ length pages + 4 = omega (arith, n, len) in
    let bytes : take (footer_len file) (drop (length file - 8 - footer_len file) file) ≡ body
    = ap (λ (bs : List ℕ). take (footer_len file) bs) (drop-body pages body size (length file - 8 - footer_len file) start)
    ∙ take_at body (size ++ codes "PAR1") (footer_len file) (sym len) in
    let piece : footer_piece file (footer_len file) ≡ record { bytes = body; start = length pages + 4 }
    = ap (λ (bs : List ℕ). let p : Piece = record { bytes = bs; start = length file - 8 - footer_len file } in p) bytes ∙ ap (λ k. let p : Piece = record { bytes = body; start = k } in p) start in
    guards (is_size (length file)) (has_magic file) (ltb (length file) (footer_len file + 12)) (footer_piece file (footer_len file)) big magic fits ∙ ap Ok piece
  where
    guards : (a b c : Bool) (piece : Piece) → a ≡ true → b ≡ true → c ≡ false
        → cond (not a) (Err faults.Short) (cond (not b) (Err faults.Magic) (cond c (Err faults.Footer) (Ok piece))) ≡ Ok piece
    guards a b c piece p q r = rw (p, q, r) refl

pub joined_taken : (pages text rest size : List ℕ) (meta : FileMeta) → SpellsFile text meta → length size ≡ 4 → from_le_bytes w32 size ≡ length text + length rest
    → length (joined pages (text ++ rest) size) ≤ MAX_OBJECT_BYTES → footer_of (joined pages (text ++ rest) size) ≡ Ok meta
unfolding footer_of
joined_taken pages text rest size meta spelled four counted small =
    let piece : Piece = record { bytes = text ++ rest; start = length pages + 4 } in
    let stands : Stands (text ++ rest) 0 text (length text) = stands_make (text ++ rest) 0 text rest (length text) (omega arith) refl (omega arith) in
    bind_from (footer_found (joined pages (text ++ rest) size)) (λ p. file_in p 0 0 >>= λ m. Ok m.0) piece
    (joined_found pages (text ++ rest) size four (counted ∙ sym (length-append text rest)) small)
    ∙ bind_from (file_in piece 0 0) (λ m. Ok m.0) (meta, length text) (file_takes piece 0 0 meta (length text) text spelled stands)

pub footers_taken : (file : List ℕ) (meta : FileMeta) → IsFile file meta → footer_of file ≡ Ok meta
footers_taken file meta h =
    ap footer_of h.whole ∙ joined_taken h.pages h.text h.rest h.size meta h.spelled h.four h.counted (subst (λ (bs : List ℕ). length bs ≤ MAX_OBJECT_BYTES) h.whole h.small)
