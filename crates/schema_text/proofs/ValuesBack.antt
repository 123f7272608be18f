-- The values that are written read as the row's data.
use Rattle.std.proofs.Common.{◌≡◌, ◌≢◌, ℕ, suc, ◌+◌, ◌<◌, ◌==◌, ◌&&◌, Bool, true, false, if◌then◌else◌, List, [], ◌∷◌, length, get_or, codes, Option, Some, None, option_map, option_and_then, Result, Ok, ℤ, refl, sym, ap, ◌∙◌, subst, arith, nat_le}
use Rattle.std.specs.BTreeMap.{insert_entry}
use Rattle.std.specs.Cmp.Lexicographic.{pointwise, slice_cmp, bytes_decides}
use Rattle.std.specs.Fmt.{signed_decimal}
use Rattle.std.specs.List.{list_any, AllPairs}
use Rattle.std.specs.Ordering.{nat_cmp, match_ordering, is_eq}
use Rattle.std.specs.Str.Parse.{signed_digits_value}
use Rattle.std.specs.declared.cmp.Ordering.{Ordering}
use Rattle.std.specs.declared.cmp.Ordering.TheVariants.{Less, Equal, Greater}
use Rattle.std.proofs.lemmas.Bool.{true≢false, false_from_ne_true, and_parts}
use Rattle.std.proofs.lemmas.Slice.Eq.{bytes_eq-Decides}
use Rattle.std.specs.Str.{bytes_eq}
use Rattle.schema_text.specs.declared.fault.SchemaTextFault.{SchemaTextFault}
use Rattle.std.proofs.lemmas.Map.Text.{is_eq-slice_cmp}
use Rattle.row_base.specs.declared.limits.TheConstants.{MAX_TEXT_BYTES}
use Rattle.row_base.specs.declared.row.Datum.{Datum}
use Rattle.row_base.specs.declared.row.Datum.TheVariants as datum
use Rattle.row_base.specs.declared.row.Kind.{Kind}
use Rattle.row_base.specs.declared.row.Kind.TheVariants as kind
use Rattle.row_base.specs.declared.schema.Column.{Column}
use Rattle.row_base.specs.Dates.{date_in}
use Rattle.row_base.specs.Schema.{TableSchema, IsSchema, is_i32}
use Rattle.row_base.proofs.DateLemmas.{read_is, text_given_back}
use Rattle.row_base.specs.Faults.{◌>>=◌}
use Rattle.row_base.specs.Numbers.{is_number, is_i64, long_in}
use Rattle.schema_text.specs.Partition.{if_i32, datum_of, datum_by, null_datum, filled, text_of, or_value, datum_in, cells, partition_row}
use Rattle.schema_text.specs.PartitionWritten.{datum_text, datum_at, Texts, texts_from, values_of, partition_values, HasValue, HasValues, data_from, partition_data}
use Rattle.row_base.proofs.Numerals.{long_written}

-- ---- one datum

some_if : {A : Type 0} (b : Bool) (x y : A) → (if b then Some x else None) ≡ Some y → (b ≡ true) × (x ≡ y)
some_if true x y e = (refl, cc)
some_if false x y e = cc

fits : (text : List ℕ) (z : ℤ) → long_in text ≡ Some z → is_i64 z ≡ true
unfolding long_in
fits text z e =
    let p = some_if (is_number text && is_i64 (signed_digits_value 10 text)) (signed_digits_value 10 text) z e in
    subst (λ y. is_i64 y ≡ true) p.1 (and_parts (is_number text) (is_i64 (signed_digits_value 10 text)) p.0).1

number_filled : (text : List ℕ) (z : ℤ) → long_in text ≡ Some z → filled (Some text) ≡ Some text
unfolding long_in
number_filled [] z e = cc
number_filled (b ∷ bs) z e = refl

written_filled : (text : List ℕ) (z : ℤ) → long_in text ≡ Some z → filled (Some (signed_decimal z)) ≡ Some (signed_decimal z)
written_filled text z e = number_filled (signed_decimal z) z (long_written z (fits text z e))

long_back : (o : Option ℤ) (text : List ℕ) (c : Column) (d : Datum) → c.kind ≡ kind.Long → long_in text ≡ o → option_map datum.Long o ≡ Some d → datum_by c (filled (Some (datum_text d))) ≡ Some d
long_back None text c d k e some = cc
long_back (Some z) text c d k e some =
    let is : datum.Long z ≡ d = cc in
    subst (λ x. datum_by c (filled (Some (datum_text x))) ≡ Some x) is
    (ap (datum_by c) (written_filled text z e) ∙ ap (λ m. datum_of m (signed_decimal z)) k ∙ ap (option_map datum.Long) (long_written z (fits text z e)))

integer_back : (o : Option ℤ) (text : List ℕ) (c : Column) (d : Datum) → c.kind ≡ kind.Integer → long_in text ≡ o → option_map datum.Integer (option_and_then if_i32 o) ≡ Some d
    → datum_by c (filled (Some (datum_text d))) ≡ Some d
integer_back None text c d k e some = cc
integer_back (Some z) text c d k e some = by (is_i32 z) refl
  where
    by : (b : Bool) → is_i32 z ≡ b → datum_by c (filled (Some (datum_text d))) ≡ Some d
    by true narrow =
        let read : option_and_then if_i32 (Some z) ≡ Some z = ap (λ b. if b then Some z else None) narrow in
        let same : Some (datum.Integer z) ≡ Some d = sym (ap (option_map datum.Integer) read) ∙ some in
        let is : datum.Integer z ≡ d = cc in
        subst (λ x. datum_by c (filled (Some (datum_text x))) ≡ Some x) is
        (ap (datum_by c) (written_filled text z e) ∙ ap (λ m. datum_of m (signed_decimal z)) k
        ∙ ap (λ o. option_map datum.Integer (option_and_then if_i32 o)) (long_written z (fits text z e)) ∙ ap (option_map datum.Integer) read)
    by false wide =
        let read : option_and_then if_i32 (Some z) ≡ None = ap (λ b. if b then Some z else None) wide in
        let same : None ≡ Some d = sym (ap (option_map datum.Integer) read) ∙ some in
        cc

boolean_back : (p q : Bool) (c : Column) (d : Datum) → c.kind ≡ kind.Boolean → (if p then Some (datum.Boolean true) else (if q then Some (datum.Boolean false) else None)) ≡ Some d
    → datum_by c (filled (Some (datum_text d))) ≡ Some d
boolean_back true q c d k e =
    let is : datum.Boolean true ≡ d = cc in
    subst (λ x. datum_by c (filled (Some (datum_text x))) ≡ Some x) is (ap (λ m. datum_of m (codes "true")) k)
boolean_back false true c d k e =
    let is : datum.Boolean false ≡ d = cc in
    subst (λ x. datum_by c (filled (Some (datum_text x))) ≡ Some x) is (ap (λ m. datum_of m (codes "false")) k)
boolean_back false false c d k e = cc

text_back : (b : ℕ) (bs : List ℕ) (c : Column) (d : Datum) → c.kind ≡ kind.String → datum_of kind.String (b ∷ bs) ≡ Some d → datum_by c (filled (Some (datum_text d))) ≡ Some d
text_back b bs c d k e =
    let is = (some_if (nat_le (length (b ∷ bs)) MAX_TEXT_BYTES) (datum.Text (b ∷ bs)) d e).1 in
    subst (λ x. datum_by c (filled (Some (datum_text x))) ≡ Some x) is (ap (λ m. datum_of m (b ∷ bs)) k ∙ e ∙ ap Some (sym is))

date_back : (o : Option ℤ) (b : ℕ) (bs : List ℕ) (c : Column) (d : Datum) → c.kind ≡ kind.Date → date_in (b ∷ bs) ≡ o → option_map datum.Date o ≡ Some d → datum_by c (filled (Some (datum_text d))) ≡ Some d
date_back None b bs c d k e some = cc
date_back (Some n) b bs c d k e some =
    let is : datum.Date n ≡ d = cc in
    subst (λ x. datum_by c (filled (Some (datum_text x))) ≡ Some x) is
    (ap (λ t. datum_by c (filled (Some t))) (text_given_back (b ∷ bs) n (read_is (b ∷ bs) n e)) ∙ ap (λ m. datum_of m (b ∷ bs)) k ∙ ap (option_map datum.Date) e)

some_back : (m : Kind) (b : ℕ) (bs : List ℕ) (c : Column) (d : Datum) → c.kind ≡ m → datum_of m (b ∷ bs) ≡ Some d → datum_by c (filled (Some (datum_text d))) ≡ Some d
some_back kind.Long b bs c d k e = long_back (long_in (b ∷ bs)) (b ∷ bs) c d k refl e
some_back kind.Integer b bs c d k e = integer_back (long_in (b ∷ bs)) (b ∷ bs) c d k refl e
some_back kind.Boolean b bs c d k e = boolean_back (bytes_eq (b ∷ bs) (codes "true")) (bytes_eq (b ∷ bs) (codes "false")) c d k e
some_back kind.String b bs c d k e = text_back b bs c d k e
some_back kind.Date b bs c d k e = date_back (date_in (b ∷ bs)) b bs c d k refl e

null_back : (b : Bool) (c : Column) (d : Datum) → c.nullable ≡ b → null_datum b ≡ Some d → datum_by c (filled (Some (datum_text d))) ≡ Some d
null_back true c d n e =
    let is : datum.Null ≡ d = cc in
    subst (λ x. datum_by c (filled (Some (datum_text x))) ≡ Some x) is (ap null_datum n)
null_back false c d n e = cc

-- a datum that some text stands for is what its own text stands for
datum_back : (c : Column) (d : Datum) (text : Option (List ℕ)) → datum_by c (filled text) ≡ Some d → datum_by c (filled (Some (datum_text d))) ≡ Some d
datum_back c d None e = null_back c.nullable c d refl e
datum_back c d (Some []) e = null_back c.nullable c d refl e
datum_back c d (Some (b ∷ bs)) e = some_back c.kind b bs c d refl e

-- ---- the texts of columns

-- the text that is found for a column
abbrev found : List ℕ → Texts → Option (List ℕ)
found q ts = text_of (values_of ts) q

covers : {A : Type 0} (b : Bool) (x y z : A) → (if b then x else y) ≡ (if b then x else (if b then z else y))
covers true x y z = refl
covers false x y z = refl

swaps : {A : Type 0} (a b : Bool) (x y z : A) → (a ≡ true → b ≡ true → ⊥) → (if b then y else (if a then x else z)) ≡ (if a then x else (if b then y else z))
swaps true true x y z apart = absurd (apart refl refl)
swaps true false x y z apart = refl
swaps false true x y z apart = refl
swaps false false x y z apart = refl

found_at : (o : Ordering) (q k l t u : List ℕ) (ts more : Texts) → is_eq o ≡ bytes_eq k l
    → found q more ≡ (if pointwise ◌==◌ k q then filled (Some t) else found q ts)
    → found q (match_ordering o ((k, t) ∷ (l, u) ∷ ts) ((l, t) ∷ ts) ((l, u) ∷ more)) ≡ (if pointwise ◌==◌ k q then filled (Some t) else found q ((l, u) ∷ ts))
found_at Less q k l t u ts more e rest = refl
found_at Equal q k l t u ts more e rest =
    let is : k ≡ l = (bytes_eq-Decides k l).0 (sym e) in
    subst (λ n. found q ((l, t) ∷ ts) ≡ (if pointwise ◌==◌ n q then filled (Some t) else found q ((l, u) ∷ ts))) (sym is)
    (covers (pointwise ◌==◌ l q) (filled (Some t)) (found q ts) (filled (Some u)))
found_at Greater q k l t u ts more e rest =
    ap (λ o. if pointwise ◌==◌ l q then filled (Some u) else o) rest
    ∙ swaps (pointwise ◌==◌ k q) (pointwise ◌==◌ l q) (filled (Some t)) (filled (Some u)) (found q ts)
    (λ a b. true≢false (sym ((bytes_eq-Decides k l).1 ((bytes_decides k q).0 a ∙ sym ((bytes_decides l q).0 b))) ∙ sym e))

found-insert : (q k t : List ℕ) (ts : Texts) → found q (insert_entry (slice_cmp nat_cmp) ts k t) ≡ (if pointwise ◌==◌ k q then filled (Some t) else found q ts)
found-insert q k t [] = refl
found-insert q k t (e ∷ ts) =
    found_at (slice_cmp nat_cmp k e.0) q k e.0 t e.1 ts (insert_entry (slice_cmp nat_cmp) ts k t) (is_eq-slice_cmp k e.0) (found-insert q k t ts)

-- none of the columns has this name
abbrev Without : List ℕ → List Column → Type 0
Without q [] = Unit {0}
Without q (c ∷ cs) = (c.name ≢ q) × Without q cs

without_from : (q : List ℕ) (cs : List Column) → ((j : ℕ) (d : Column) → j < length cs → (get_or cs j d).name ≢ q) → Without q cs
without_from q [] h = tt
without_from q (c ∷ cs) h = (h 0 c (omega arith), without_from q cs (λ j d within. h (suc j) d (omega arith)))

abbrev Apart : List Column → Type 0
Apart [] = Unit {0}
Apart (c ∷ cs) = Without c.name cs × Apart cs

apart_from : (cs : List Column) → AllPairs (λ c d. c.name ≢ d.name) cs → Apart cs
apart_from [] h = tt
apart_from (c ∷ cs) h = (
  without_from c.name cs (λ j d within is. h 0 (suc j) d (omega arith) (omega arith) (sym is)),
  apart_from cs (λ i j d before within. h (suc i) (suc j) d (omega arith) (omega arith)),
)

passes : (b : Bool) {A : Type 0} (x y : A) → b ≡ false → (if b then x else y) ≡ y
passes true x y e = absurd (true≢false e)
passes false x y e = refl

differ : (k q : List ℕ) → k ≢ q → pointwise ◌==◌ k q ≡ false
differ k q apart = false_from_ne_true (pointwise ◌==◌ k q) (λ e. apart ((bytes_decides k q).0 e))

-- columns of other names change nothing
found_past : (p : List ℕ) (row : List Datum) (k : ℕ) (q : List ℕ) (cs : List Column) (ts : Texts) → Without q cs → found q (texts_from p row k cs ts) ≡ found q ts
found_past p row k q [] ts h = refl
found_past p row k q (c ∷ cs) ts h = found_past p row (k + 1) q cs _ h.1 ∙ by (list_any (λ n. n == k) p)
  where
    by : (b : Bool) → found q (if b then insert_entry (slice_cmp nat_cmp) ts c.name (datum_text (datum_at row k)) else ts) ≡ found q ts
    by true = found-insert q c.name (datum_text (datum_at row k)) ts ∙ passes (pointwise ◌==◌ c.name q) (filled (Some (datum_text (datum_at row k)))) (found q ts) (differ c.name q h.0)
    by false = refl

found_here : (k t : List ℕ) (ts : Texts) → found k (insert_entry (slice_cmp nat_cmp) ts k t) ≡ filled (Some t)
found_here k t ts = found-insert k k t ts ∙ ap (λ b. if b then filled (Some t) else found k ts) ((bytes_decides k k).1 refl)

-- ---- all columns

onto : (d : Datum) (r : Result (List Datum) SchemaTextFault) (ds : List Datum) → r ≡ Ok ds → (r >>= λ xs. Ok (d ∷ xs)) ≡ Ok (d ∷ ds)
onto d r ds e = ap (λ x. x >>= λ xs. Ok (d ∷ xs)) e

one_cell : (p : List ℕ) (row : List Datum) (k : ℕ) (c : Column) (cs : List Column) (whole : Texts)
    → (list_any (λ n. n == k) p ≡ true → found c.name whole ≡ filled (Some (datum_text (datum_at row k))))
    → (list_any (λ n. n == k) p ≡ true → HasValue c (datum_at row k))
    → cells p (values_of whole) (k + 1) cs ≡ Ok (data_from p row (k + 1) cs)
    → cells p (values_of whole) k (c ∷ cs) ≡ Ok (data_from p row k (c ∷ cs))
unfolding datum_in
one_cell p row k c cs whole text has rest = by (list_any (λ n. n == k) p) refl
  where
    by : (b : Bool) → list_any (λ n. n == k) p ≡ b → cells p (values_of whole) k (c ∷ cs) ≡ Ok (data_from p row k (c ∷ cs))
    by true is =
        let d : Datum = datum_at row k in
        let value = has is in
        let read : or_value c.name (datum_by c (found c.name whole)) ≡ Ok d =
        ap (λ o. or_value c.name (datum_by c o)) (text is) ∙ ap (or_value c.name) (datum_back c d value.0 value.1) in
        rw (is, read) (onto d _ _ rest)
    by false is = rw is (onto datum.Null _ _ rest)

cells_back : (p : List ℕ) (row : List Datum) (k : ℕ) (cs : List Column) (ts : Texts) → Apart cs → HasValues p row k cs
    → cells p (values_of (texts_from p row k cs ts)) k cs ≡ Ok (data_from p row k cs)
cells_back p row k [] ts apart has = refl
cells_back p row k (c ∷ cs) ts apart has =
    let t : List ℕ = datum_text (datum_at row k) in
    let more : Texts = if list_any (λ n. n == k) p then insert_entry (slice_cmp nat_cmp) ts c.name t else ts in
    one_cell p row k c cs (texts_from p row (k + 1) cs more)
    (λ is. found_past p row (k + 1) c.name cs more apart.0 ∙ ap (λ b. found c.name (if b then insert_entry (slice_cmp nat_cmp) ts c.name t else ts)) is ∙ found_here c.name t ts)
    has.0 (cells_back p row (k + 1) cs more apart.1 has.1)

pub returned : (s : TableSchema) (row : List Datum) → IsSchema s → HasValues s.partition row 0 s.columns → partition_row s (partition_values s row) ≡ Ok (partition_data s row)
unfolding partition_row partition_values
returned s row is has = cells_back s.partition row 0 s.columns [] (apart_from s.columns is.names) has
