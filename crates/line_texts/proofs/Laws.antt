-- Texts read back, and nothing else reads.
use Rattle.std.proofs.Common.{◌≡◌, ℕ, suc, ◌<◌, ◌≤◌, ◌^◌, ◌==◌, not, Bool, true, false, if◌then◌else◌, nat_lt, nat_eq, List, [], ◌∷◌, ◌++◌, length, map, drop, get_or, codes, All, Option, Some, None, option_map, ℤ, pos, negsuc, refl, sym, ap, ◌∙◌, append_assoc, lit<, lit≤, arith, inl, inr}
use Rattle.std.specs.List.{flat_map, list_all, join_with_byte, starts_with}
use Rattle.std.specs.Str.{bytes_eq, is_utf8}
use Rattle.std.specs.Str.Parse.{AllDigits}
use Rattle.std.specs.Fmt.{decimal, signed_decimal}
use Rattle.std.proofs.lemmas.Bool.{and_parts, and_from, cases_lt, not_from_false, ltb-true, eq-eqb, ne_eqb, eqb-true, not-true, cond-true}
use Rattle.std.proofs.lemmas.List.{get_or_default, get_or_past}
use Rattle.std.proofs.lemmas.List.Elements.{All-cons, All-append, All-head, All-tail}
use Rattle.std.proofs.lemmas.List.Splits.{slice_split_none, slice_split_at, join_with_byte-slice_split}
use Rattle.std.proofs.lemmas.Slice.Eq.{bytes_eq-Decides, starts_is}
use Rattle.std.proofs.lemmas.Bool.Decides.{Decides-eqb}
use Rattle.std.proofs.lemmas.Str.{is_utf8-from_IsUtf8, IsUtf8-from_ascii}
use Rattle.std.proofs.lemmas.Str.Parse.{digit_at}
use Rattle.std.proofs.lemmas.Fmt.{decimal_is_IsNumeral}
use Rattle.row_base.specs.declared.row.Datum.{Datum}
use Rattle.row_base.specs.declared.row.Datum.TheVariants.{Null, Long, Integer, Boolean, Text, Date}
use Rattle.line_texts.specs.Pieces.{pieces, both, each, each_line, only_line}
use Rattle.line_texts.specs.Numbers.{fits, long_of_text}
use Rattle.line_texts.specs.Texts.{text_of_columns, columns_of_text, names_of_line, names_of_pieces, text_of_utf8, is_word, text_of_add, path_of_text, path_of_line, is_path, text_of_rows, rows_of_text, row_of_line, line_of_row, text_of_row, text_of_datum, datum_of_text, is_long, is_long_row}
use Rattle.line_texts.specs.Laws.{ColumnsReadBack, PathReadsBack, RowsReadBack, ColumnsAreWritten, PathIsWritten, RowsAreWritten}
use Rattle.line_texts.proofs.Cuts.{line_first, some_piece}
use Rattle.line_texts.proofs.Spellings.{long_reads_back, long_is_written, some_then}

-- a byte that doesn't stand in a text
abbrev Lacks : ℕ → List ℕ → Type 0
Lacks c text = All (λ b. (b == c) ≡ false) text

abbrev AllLack : ℕ → List (List ℕ) → Type 0
AllLack c [] = Unit {0}
AllLack c (x ∷ xs) = Lacks c x × AllLack c xs

-- joined pieces are cut apart again
split_join : (c : ℕ) (x : List ℕ) (xs : List (List ℕ)) → AllLack c (x ∷ xs) → pieces c (join_with_byte c (x ∷ xs)) ≡ x ∷ xs
split_join c x [] a = slice_split_none (λ b. b == c) x a.0
split_join c x (y ∷ ys) a =
    slice_split_at (λ b. b == c) x c (join_with_byte c (y ∷ ys)) a.0 (eq-eqb c c refl) ∙ ap (λ ps. x ∷ ps) (split_join c y ys a.1)

join_lacks : (c d : ℕ) → (d == c) ≡ false → (x : List ℕ) (xs : List (List ℕ)) → AllLack c (x ∷ xs) → Lacks c (join_with_byte d (x ∷ xs))
join_lacks c d apart x [] a = a.0
join_lacks c d apart x (y ∷ ys) a =
    All-append (λ b. (b == c) ≡ false) x (d ∷ join_with_byte d (y ∷ ys)) a.0 (All-cons (λ b. (b == c) ≡ false) d (join_with_byte d (y ∷ ys)) apart (join_lacks c d apart y ys a.1))

-- a line with its end, before other text
split_line : (line rest : List ℕ) → Lacks 10 line → pieces 10 ((line ++ 10 ∷ []) ++ rest) ≡ line ∷ pieces 10 rest
split_line line rest lacks = ap (pieces 10) (append_assoc line (10 ∷ []) rest) ∙ slice_split_at (λ b. b == 10) line 10 rest lacks refl

split_only : (line : List ℕ) → Lacks 10 line → pieces 10 (line ++ 10 ∷ []) ≡ line ∷ [] ∷ []
split_only line lacks = slice_split_at (λ b. b == 10) line 10 [] lacks refl

-- numbers have digits and a minus alone
digits_lack : (c : ℕ) (ds : List ℕ) → c < 45 → AllDigits 10 ds → Lacks c ds
digits_lack c ds low digits = λ i d within.
    let at = digit_at ds i digits within in
    ne_eqb (get_or ds i d) c (λ e. omega (arith, at, e, get_or_default ds i d 0 within))

number_lacks : (c : ℕ) (z : ℤ) → c < 45 → fits z ≡ true → Lacks c (signed_decimal z)
number_lacks c (pos n) low f = digits_lack c (decimal n) low (decimal_is_IsNumeral n (omega (arith, ltb-true n (2 ^ 63) f))).0.1
number_lacks c (negsuc n) low f =
    All-cons (λ b. (b == c) ≡ false) 45 (decimal (suc n)) (ne_eqb 45 c (λ e. omega arith)) (digits_lack c (decimal (suc n)) low (decimal_is_IsNumeral (suc n) (omega (arith, ltb-true n (2 ^ 63) f))).0.1)

datum_lacks : (c : ℕ) (d : Datum) → c < 45 → is_long d ≡ true → Lacks c (text_of_datum d)
datum_lacks c Null low h = cc
datum_lacks c (Long n) low h = number_lacks c n low h
datum_lacks c (Integer n) low h = cc
datum_lacks c (Boolean b) low h = cc
datum_lacks c (Text t) low h = cc
datum_lacks c (Date n) low h = cc

data_lack : (c : ℕ) (ds : List Datum) → c < 45 → list_all is_long ds ≡ true → AllLack c (map text_of_datum ds)
data_lack c [] low h = tt
data_lack c (d ∷ ds) low h =
    let p = and_parts (is_long d) (list_all is_long ds) h in (datum_lacks c d low p.0, data_lack c ds low p.1)

datum_back : (d : Datum) → is_long d ≡ true → datum_of_text (text_of_datum d) ≡ Some d
datum_back Null h = cc
datum_back (Long n) h = ap (option_map Long) (long_reads_back n h)
datum_back (Integer n) h = cc
datum_back (Boolean b) h = cc
datum_back (Text t) h = cc
datum_back (Date n) h = cc

data_back : (ds : List Datum) → list_all is_long ds ≡ true → each datum_of_text (map text_of_datum ds) ≡ Some ds
data_back [] h = refl
data_back (d ∷ ds) h =
    let p = and_parts (is_long d) (list_all is_long ds) h in
    ap (λ o. both o (each datum_of_text (map text_of_datum ds))) (datum_back d p.0) ∙ ap (λ o. both (Some d) o) (data_back ds p.1)

row_back : (row : List Datum) → is_long_row row ≡ true → row_of_line (text_of_row row) ≡ Some row
row_back [] h = cc
row_back (d ∷ ds) h =
    let longs = (and_parts (nat_lt 0 (length (d ∷ ds))) (list_all is_long (d ∷ ds)) h).1 in
    ap (each datum_of_text) (split_join 44 (text_of_datum d) (map text_of_datum ds) (data_lack 44 (d ∷ ds) (lit< tt) longs)) ∙ data_back (d ∷ ds) longs

row_lacks : (row : List Datum) → is_long_row row ≡ true → Lacks 10 (text_of_row row)
row_lacks [] h = cc
row_lacks (d ∷ ds) h =
    let longs = (and_parts (nat_lt 0 (length (d ∷ ds))) (list_all is_long (d ∷ ds)) h).1 in
    join_lacks 10 44 refl (text_of_datum d) (map text_of_datum ds) (data_lack 10 (d ∷ ds) (lit< tt) longs)

lines_back : (rows : List (List Datum)) → list_all is_long_row rows ≡ true → each_line row_of_line (pieces 10 (flat_map line_of_row rows)) ≡ Some rows
lines_back [] h = refl
lines_back (r ∷ rs) h =
    let p = and_parts (is_long_row r) (list_all is_long_row rs) h in
    let rest : List ℕ = flat_map line_of_row rs in
    ap (each_line row_of_line) (split_line (text_of_row r) rest (row_lacks r p.0)) ∙ line_first row_of_line (text_of_row r) (pieces 10 rest) (some_piece 10 rest)
    ∙ ap (λ o. both o (each_line row_of_line (pieces 10 rest))) (row_back r p.0) ∙ ap (λ o. both (Some r) o) (lines_back rs p.1)

pub rows_read_back : RowsReadBack
unfolding rows_of_text text_of_rows
rows_read_back rows h = lines_back rows h

-- words
lacks_by : (c : ℕ) (text : List ℕ) → list_all (λ b. not (b == c)) text ≡ true → Lacks c text
lacks_by c [] h = λ i d within. absurd (omega arith)
lacks_by c (b ∷ bs) h =
    let p = and_parts (not (b == c)) (list_all (λ b. not (b == c)) bs) h in
    All-cons (λ b. (b == c) ≡ false) b bs (not-true (b == c) p.0) (lacks_by c bs p.1)

utf8_back : (text : List ℕ) → is_utf8 text ≡ true → text_of_utf8 text ≡ Some text
utf8_back text h = cond-true (is_utf8 text) (Some text) None h

words_back : (names : List (List ℕ)) → list_all is_word names ≡ true → (each text_of_utf8 names ≡ Some names) × AllLack 32 names × AllLack 10 names
words_back [] h = (refl, tt, tt)
words_back (n ∷ ns) h =
    let p = and_parts (is_word n) (list_all is_word ns) h in
    let q = and_parts (is_path n) (list_all (λ b. not (b == 32)) n) p.0 in
    let r = and_parts (is_utf8 n) (list_all (λ b. not (b == 10)) n) q.0 in
    let rest = words_back ns p.1 in
    (ap (λ o. both o (each text_of_utf8 ns)) (utf8_back n r.0) ∙ ap (λ o. both (Some n) o) rest.0, (lacks_by 32 n q.1, rest.1), (lacks_by 10 n r.1, rest.2))

pub columns_read_back : ColumnsReadBack
unfolding columns_of_text text_of_columns
columns_read_back names h =
    let w = words_back names h in
    let head_space : Lacks 32 (codes "columns") = lacks_by 32 (codes "columns") refl in
    let head_end : Lacks 10 (codes "columns") = lacks_by 10 (codes "columns") refl in
    ap (only_line names_of_line) (split_only (join_with_byte 32 (codes "columns" ∷ names)) (join_lacks 10 32 refl (codes "columns") names (head_end, w.2)))
    ∙ ap names_of_pieces (split_join 32 (codes "columns") names (head_space, w.1)) ∙ w.0

-- a path
pub path_reads_back : PathReadsBack
unfolding path_of_text text_of_add
path_reads_back path h =
    let p = and_parts (is_utf8 path) (list_all (λ b. not (b == 10)) path) h in
    let lacks : Lacks 10 (codes "add " ++ path) = All-append (λ b. (b == 10) ≡ false) (codes "add ") path (lacks_by 10 (codes "add ") refl) (lacks_by 10 path p.1) in
    ap (only_line path_of_line) (split_only (codes "add " ++ path) lacks) ∙ utf8_back path p.0

-- what reads is what is written
both_parts : {A : Type 0} (o : Option A) (os : Option (List A)) (zs : List A) → both o os ≡ Some zs → (y : A) × (ys : List A) × (o ≡ Some y) × (os ≡ Some ys) × (zs ≡ y ∷ ys)
both_parts None os zs e = cc
both_parts (Some y) None zs e = cc
both_parts (Some y) (Some ys) zs e = (y, ys, refl, refl, cc)

each_written : {A : Type 0} (read : List ℕ → Option A) (text : A → List ℕ) → ((p : List ℕ) (x : A) → read p ≡ Some x → text x ≡ p) → (ps : List (List ℕ)) (xs : List A) → each read ps ≡ Some xs → map text xs ≡ ps
each_written read text h [] xs e = let none : [] ≡ xs = cc in ap (map text) (sym none)
each_written read text h (p ∷ ps) xs e =
    let b = both_parts (read p) (each read ps) xs e in
    ap (map text) b.4 ∙ ap (λ t. t ∷ map text b.1) (h p b.0 b.2) ∙ ap (λ ts. p ∷ ts) (each_written read text h ps b.1 b.3)

mapped : (o : Option ℤ) (d : Datum) → option_map Long o ≡ Some d → (z : ℤ) × (o ≡ Some z) × (Long z ≡ d)
mapped None d e = cc
mapped (Some z) d e = (z, refl, cc)

datum_written : (text : List ℕ) (d : Datum) → datum_of_text text ≡ Some d → text_of_datum d ≡ text
datum_written text d e =
    let m = mapped (long_of_text text) d e in ap text_of_datum (sym m.2) ∙ long_is_written text m.0 m.1

row_written : (line : List ℕ) (row : List Datum) → row_of_line line ≡ Some row → text_of_row row ≡ line
row_written line row e = ap (join_with_byte 44) (each_written datum_of_text text_of_datum datum_written (pieces 44 line) row e) ∙ join_with_byte-slice_split 44 line

no_bytes : (l : List ℕ) → (length l == 0) ≡ true → l ≡ []
no_bytes [] h = refl
no_bytes (b ∷ bs) h = absurd (omega (arith, eqb-true (length (b ∷ bs)) 0 h))

none_behind : (l : List ℕ) (rows : List (List Datum)) → (if length l == 0 then Some [] else None) ≡ Some rows → (l ≡ []) × (rows ≡ [])
none_behind l rows e = let p = some_then (length l == 0) [] rows e in (no_bytes l p.0, sym p.1)

lines_written : (ps : List (List ℕ)) (rows : List (List Datum)) → each_line row_of_line ps ≡ Some rows → flat_map line_of_row rows ≡ join_with_byte 10 ps
lines_written [] rows e = cc
lines_written (l ∷ []) rows e = let n = none_behind l rows e in ap (flat_map line_of_row) n.1 ∙ sym n.0
lines_written (l ∷ m ∷ ls) rows e =
    let b = both_parts (row_of_line l) (each_line row_of_line (m ∷ ls)) rows e in
    ap (flat_map line_of_row) b.4 ∙ append_assoc (text_of_row b.0) (10 ∷ []) (flat_map line_of_row b.1)
    ∙ ap (λ t. t ++ (10 ∷ flat_map line_of_row b.1)) (row_written l b.0 b.2) ∙ ap (λ t. l ++ (10 ∷ t)) (lines_written (m ∷ ls) b.1 b.3)

pub rows_are_written : RowsAreWritten
unfolding rows_of_text text_of_rows
rows_are_written text rows e = lines_written (pieces 10 text) rows e ∙ join_with_byte-slice_split 10 text

-- the only line
only_written : {A : Type 0} (read : List ℕ → Option A) (ps : List (List ℕ)) (x : A) → only_line read ps ≡ Some x → (line : List ℕ) × (read line ≡ Some x) × (join_with_byte 10 ps ≡ line ++ 10 ∷ [])
only_written read [] x e = cc
only_written read (l ∷ []) x e = cc
only_written read (l ∷ [] ∷ []) x e = (l, e, refl)
only_written read (l ∷ [] ∷ m ∷ ls) x e = cc
only_written read (l ∷ (b ∷ bs) ∷ ls) x e = cc

utf8_written : (text t : List ℕ) → text_of_utf8 text ≡ Some t → t ≡ text
utf8_written text t e = sym (some_then (is_utf8 text) text t e).1

texts_written : (ps names : List (List ℕ)) → each text_of_utf8 ps ≡ Some names → names ≡ ps
texts_written [] names e = cc
texts_written (p ∷ ps) names e =
    let b = both_parts (text_of_utf8 p) (each text_of_utf8 ps) names e in
    b.4 ∙ ap (λ t. t ∷ b.1) (utf8_written p b.0 b.2) ∙ ap (λ ts. p ∷ ts) (texts_written ps b.1 b.3)

then_some : {A : Type 0} (b : Bool) (o : Option A) (x : A) → (if b then o else None) ≡ Some x → (b ≡ true) × (o ≡ Some x)
then_some true o x e = (refl, e)
then_some false o x e = cc

names_written : (ps names : List (List ℕ)) → names_of_pieces ps ≡ Some names → codes "columns" ∷ names ≡ ps
names_written [] names e = cc
names_written (p ∷ ps) names e =
    let t = then_some (bytes_eq p (codes "columns")) (each text_of_utf8 ps) names e in
    ap (λ ns. codes "columns" ∷ ns) (texts_written ps names t.1) ∙ ap (λ q. q ∷ ps) (sym ((bytes_eq-Decides p (codes "columns")).0 t.0))

pub columns_are_written : ColumnsAreWritten
unfolding columns_of_text text_of_columns
columns_are_written text names e =
    let o = only_written names_of_line (pieces 10 text) names e in
    ap (λ xs. xs ++ 10 ∷ []) (ap (join_with_byte 32) (names_written (pieces 32 o.0) names o.1) ∙ join_with_byte-slice_split 32 o.0) ∙ sym o.2 ∙ join_with_byte-slice_split 10 text

path_line : (line path : List ℕ) → path_of_line line ≡ Some path → codes "add " ++ path ≡ line
path_line line path e =
    let t = then_some (starts_with nat_eq line (codes "add ")) (text_of_utf8 (drop 4 line)) path e in
    ap (λ xs. codes "add " ++ xs) (utf8_written (drop 4 line) path t.1) ∙ sym ((starts_is Decides-eqb line (codes "add ") (starts_with nat_eq line (codes "add ")) refl).0 t.0)

pub path_is_written : PathIsWritten
unfolding path_of_text text_of_add
path_is_written text path e =
    let o = only_written path_of_line (pieces 10 text) path e in
    ap (λ xs. xs ++ 10 ∷ []) (path_line o.0 path o.1) ∙ sym o.2 ∙ join_with_byte-slice_split 10 text

-- texts of graphic characters of ASCII are words and paths
graphic_lacks : (c : ℕ) (text : List ℕ) → c ≤ 32 → All (λ b. (32 < b) × (b < 127)) text → list_all (λ b. not (b == c)) text ≡ true
graphic_lacks c [] low h = refl
graphic_lacks c (b ∷ bs) low h =
    let first = All-head (λ b. (32 < b) × (b < 127)) b bs h in
    and_from (not (b == c)) (list_all (λ b. not (b == c)) bs) (not_from_false (b == c) (ne_eqb b c (λ e. omega (arith, first)))) (graphic_lacks c bs low (All-tail (λ b. (32 < b) × (b < 127)) b bs h))

graphic_utf8 : (text : List ℕ) → All (λ b. (32 < b) × (b < 127)) text → is_utf8 text ≡ true
graphic_utf8 text h =
    is_utf8-from_IsUtf8 text (IsUtf8-from_ascii text (λ i. elim (cases_lt i (length text)) [
      | inl within ↦ omega (arith, h i 0 within)
      | inr past ↦ omega (arith, get_or_past text i 0 past)
    ]))

pub graphic_is_path : (text : List ℕ) → All (λ b. (32 < b) × (b < 127)) text → is_path text ≡ true
graphic_is_path text h = and_from (is_utf8 text) (list_all (λ b. not (b == 10)) text) (graphic_utf8 text h) (graphic_lacks 10 text (lit≤ tt) h)

pub graphic_is_word : (text : List ℕ) → All (λ b. (32 < b) × (b < 127)) text → is_word text ≡ true
graphic_is_word text h = and_from (is_path text) (list_all (λ b. not (b == 32)) text) (graphic_is_path text h) (graphic_lacks 32 text (lit≤ tt) h)
