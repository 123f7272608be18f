-- The rows of a table, one by one, and that their file is read as so many.
use Rattle.std.proofs.Common.{◌≡◌, ◌⊎◌, inl, inr, ℕ, zero, suc, ◌+◌, ◌/◌, ◌%◌, ◌^◌, ◌<◌, ◌≤◌, true, false, List, [], ◌∷◌, ◌++◌, length, map, get_or, refl, sym, ap, ◌∙◌, arith, rules, zero-add, codes, lit<, Ok, None, length-append}
use Rattle.std.specs.Prelude.{pos, ◌==◌, FitsSigned}
use Rattle.std.specs.Int.{w64}
use Rattle.std.specs.Fmt.{decimal}
use Rattle.std.specs.List.{All, range_with_len}
use Rattle.std.proofs.lemmas.Bool.{cond_both, cases_lt}
use Rattle.std.proofs.lemmas.Fmt.{length-decimal-le}
use Rattle.std.proofs.lemmas.List.{length-map}
use Rattle.std.proofs.lemmas.List.Elements.{All-nil, All-cons}
use Rattle.std.proofs.lemmas.List.FromFn.{map-range_with_len_more, length-map-range_with_len, get_or-map-range_with_len}
use Rattle.row_base.specs.Schema.{TableSchema, IsSchema, FitsSchema, datum_fault}
use Rattle.row_base.specs.declared.row.Datum.{Datum}
use Rattle.row_base.specs.declared.row.Datum.TheVariants as datum
use Rattle.row_base.specs.declared.row.Kind.TheVariants as kind
use Rattle.row_base.specs.declared.schema.Column.{Column}
use Rattle.row_base.proofs.SchemaLemmas.{schema_sound}
use Rattle.parquet_meta.specs.Faults.{FaultOf}
use Rattle.parquet_meta.specs.Laws as meta
use Rattle.parquet_meta.specs.declared.fault.FileFault.{FileFault}
use Rattle.parquet_meta.specs.declared.fault.FileFault.TheVariants as faults
use Rattle.parquet_pages.specs.Grammar.{IsText}
use Rattle.parquet_pages.specs.ReadBack.{CanReturn}
use Rattle.parquet_plain.specs.Reading.{file_rows}
use Rattle.parquet_plain.specs.ReadBack.{nulled, Returns}
use Rattle.parquet_plain.specs.Written.{file_text}
use Rattle.parquet_plain.proofs.FileBack.{files_read_back}
use Rattle.parquet_plain.proofs.FilesRead.{files_are_read}
use Rattle.format_kernels.specs.Register.{next_state, state_after}
use Rattle.format_kernels.specs.Tables.{column, columns_of, schema_of, word_of, words, flag_of, text_of, row_of, numbered_row, rows_of, IsFailure}
use Rattle.format_kernels.specs.declared.fault.KernelFault.{KernelFault}
use Rattle.format_kernels.specs.declared.fault.KernelFault.TheVariants as failed
use Rattle.format_kernels.specs.declared.kernel.Table.{Table}
use Rattle.format_kernels.specs.declared.kernel.Table.TheVariants as tables
use Rattle.format_kernels.proofs.Plain.{plain_both, plain_decimal, plain_utf8}
use Rattle.format_kernels.proofs.States.{state_below}

pub rows_more : (table : Table) (n state : ℕ) (row : List Datum) (rows : List (List Datum)) → rows ≡ rows_of table n → state ≡ state_after n
    → row ≡ row_of table n (next_state state) → rows ++ row ∷ [] ≡ rows_of table (n + 1)
unfolding rows_of state_after
rows_more table n state row rows e s r =
    let same : row ≡ numbered_row table n = r ∙ ap (λ k. row_of table n (next_state k)) s in
    rw (e, same) (sym (map-range_with_len_more (numbered_row table) 0 n n (zero-add n)))

pub length-rows_of : (table : Table) (count : ℕ) → length (rows_of table count) ≡ count
unfolding rows_of
length-rows_of table count = length-map-range_with_len (numbered_row table) 0 count

-- so many words
abbrev pub words_to : ℕ → List (List ℕ)
words_to n = map word_of (range_with_len 0 n)

pub words_next : (n : ℕ) (word : List ℕ) (old new : List (List ℕ)) → old ≡ words_to n → word ≡ word_of n → new ≡ old ++ word ∷ [] → new ≡ words_to (n + 1)
words_next n word old new before is e = e ∙ (rw (before, is) (sym (map-range_with_len_more word_of 0 n n (zero-add n))))

pub words_done : (n : ℕ) (all : List (List ℕ)) → n ≡ 100 → all ≡ words_to n → all ≡ words
unfolding words
words_done n all done e = e ∙ ap (λ (k : ℕ). words_to k) done

pub word_here : (place : ℕ) (other : List ℕ) → place < 100 → get_or words place other ≡ word_of place
unfolding words
word_here place other low = get_or-map-range_with_len word_of 0 100 place place other low (zero-add place)

pub length-words : length words ≡ 100
unfolding words
length-words = length-map-range_with_len word_of 0 100

-- ---- what a row holds can be read back

word_is_text : (n : ℕ) → n < 2 ^ 64 → IsText (word_of n)
word_is_text n low = record {
  short = simp length-append (omega (arith, length-decimal-le 20 n (lit< tt) (omega arith) low));
  utf8 = plain_utf8 (word_of n) (plain_both (codes "word ") (decimal n) refl (plain_decimal n low));
}

row_is_text : (n state : ℕ) → n < 2 ^ 64 → state < 2 ^ 64 → IsText (text_of n state)
row_is_text n state low small = record {
  short = simp length-append (omega (arith, length-decimal-le 20 n (lit< tt) (omega arith) low, length-decimal-le 20 state (lit< tt) (omega arith) small));
  utf8 = plain_utf8 (text_of n state) (plain_both (codes "text ") (decimal n ++ (codes " " ++ decimal state)) refl
      (plain_both (decimal n) (codes " " ++ decimal state) (plain_decimal n low) (plain_both (codes " ") (decimal state) refl (plain_decimal state small))));
}

flag_returns : (n : ℕ) → CanReturn (flag_of n)
flag_returns n = cond_both (n == 0) datum.Null (datum.Boolean (n == 1)) CanReturn (λ _. tt) (λ _. tt)

one_returns : (d : Datum) → CanReturn d → All CanReturn (d ∷ [])
one_returns d h = All-cons CanReturn d [] h (All-nil CanReturn)

row_returns : (table : Table) (n state : ℕ) → n < 2 ^ 32 → state < 2 ^ 64 → All CanReturn (row_of table n state)
row_returns tables.Longs n state low small =
    let first : FitsSigned w64 (pos n) = search rules in
    let second : FitsSigned w64 (pos (state / 2)) = search rules in
    All-cons CanReturn (datum.Long (pos n)) (datum.Long (pos (state / 2)) ∷ []) first (one_returns (datum.Long (pos (state / 2))) second)
row_returns tables.Words n state low small = one_returns (datum.Text (word_of (state % 100))) (word_is_text (state % 100) (omega arith))
row_returns tables.Texts n state low small = one_returns (datum.Text (text_of n state)) (row_is_text n state (omega arith) small)
row_returns tables.Booleans n state low small = one_returns (flag_of (state % 3)) (flag_returns (state % 3))

states_below : (n : ℕ) → state_after n < 2 ^ 64
unfolding state_after
states_below zero = lit< tt
states_below (suc n) = state_below (state_after n) (states_below n)

rows_return : (table : Table) (from count : ℕ) → from + count ≤ 2 ^ 32 → All (All CanReturn) (map (numbered_row table) (range_with_len from count))
rows_return table from zero few = All-nil (All CanReturn)
rows_return table from (suc count) few =
    All-cons (All CanReturn) (numbered_row table from) (map (numbered_row table) (range_with_len (from + 1) count))
    (row_returns table from (state_after (suc from)) (omega arith) (states_below (suc from))) (rows_return table (from + 1) count (omega arith))

-- and so each datum outside the partition columns, and what a row lacks, which is null
any_returns : (row : List Datum) (place : ℕ) → All CanReturn row → CanReturn (get_or row place datum.Null)
any_returns [] place all = tt
any_returns (d ∷ ds) zero all = all 0 d (omega arith)
any_returns (d ∷ ds) (suc place) all = any_returns ds place (λ i e lt. all (suc i) e (omega (arith, lt)))

all_return : (s : TableSchema) (table : Table) (count : ℕ) → count < 2 ^ 32 → All (Returns s) (rows_of table count)
unfolding rows_of
all_return s table count few = λ i row lt place written. any_returns (get_or (map (numbered_row table) (range_with_len 0 count)) i row) place (rows_return table 0 count (omega arith) i row lt)

-- ---- the schema

schema_is : (table : Table) → IsSchema (schema_of table)
schema_is tables.Longs = schema_sound (columns_of tables.Longs) [] refl
schema_is tables.Words = schema_sound (columns_of tables.Words) [] refl
schema_is tables.Texts = schema_sound (columns_of tables.Texts) [] refl
schema_is tables.Booleans = schema_sound (columns_of tables.Booleans) [] refl

abbrev IsNamed : Column → Type 0
IsNamed c = meta.IsText c.name

named : (table : Table) → All IsNamed (columns_of table)
named tables.Longs =
    All-cons IsNamed (column (codes "k") kind.Long false) (column (codes "v") kind.Long false ∷ []) (record { short = lit< tt; utf8 = plain_utf8 (codes "k") refl })
    (All-cons IsNamed (column (codes "v") kind.Long false) [] (record { short = lit< tt; utf8 = plain_utf8 (codes "v") refl }) (All-nil IsNamed))
named tables.Words = All-cons IsNamed (column (codes "text") kind.String false) [] (record { short = lit< tt; utf8 = plain_utf8 (codes "text") refl }) (All-nil IsNamed)
named tables.Texts = All-cons IsNamed (column (codes "text") kind.String false) [] (record { short = lit< tt; utf8 = plain_utf8 (codes "text") refl }) (All-nil IsNamed)
named tables.Booleans = All-cons IsNamed (column (codes "flag") kind.Boolean true) [] (record { short = lit< tt; utf8 = plain_utf8 (codes "flag") refl }) (All-nil IsNamed)

-- ---- each row fits it

longs_fit : (n state k : ℕ) (c : Column) (d : Datum) → k < 2 → datum_fault [] k (get_or (columns_of tables.Longs) k c) (get_or (row_of tables.Longs n state) k d) ≡ None
longs_fit n state zero c d within = refl
longs_fit n state (suc zero) c d within = refl
longs_fit n state (suc (suc k)) c d within = absurd (omega arith)

one_fits : (column : Column) (datum : Datum) → datum_fault [] 0 column datum ≡ None → FitsSchema (record { columns = column ∷ []; partition = [] }) (datum ∷ [])
one_fits column datum fine = record { count = refl; each = each }
  where
    each : (k : ℕ) (c : Column) (d : Datum) → k < 1 → datum_fault [] k (get_or (column ∷ []) k c) (get_or (datum ∷ []) k d) ≡ None
    each zero c d within = fine
    each (suc k) c d within = absurd (omega arith)

flag_fits : (n : ℕ) → datum_fault [] 0 (column (codes "flag") kind.Boolean true) (flag_of n) ≡ None
flag_fits n = cond_both (n == 0) datum.Null (datum.Boolean (n == 1)) (λ (d : Datum). datum_fault [] 0 (column (codes "flag") kind.Boolean true) d ≡ None) (λ _. refl) (λ _. refl)

row_fits : (table : Table) (n state : ℕ) → FitsSchema (schema_of table) (row_of table n state)
row_fits tables.Longs n state = record { count = refl; each = longs_fit n state }
row_fits tables.Words n state = one_fits (column (codes "text") kind.String false) (datum.Text (word_of (state % 100))) refl
row_fits tables.Texts n state = one_fits (column (codes "text") kind.String false) (datum.Text (text_of n state)) refl
row_fits tables.Booleans n state = one_fits (column (codes "flag") kind.Boolean true) (flag_of (state % 3)) (flag_fits (state % 3))

rows_fit : (table : Table) (from count : ℕ) → All (FitsSchema (schema_of table)) (map (numbered_row table) (range_with_len from count))
rows_fit table from zero = All-nil (FitsSchema (schema_of table))
rows_fit table from (suc count) =
    All-cons (FitsSchema (schema_of table)) (numbered_row table from) (map (numbered_row table) (range_with_len (from + 1) count))
    (row_fits table from (state_after (suc from))) (rows_fit table (from + 1) count)

all_fit : (table : Table) (count : ℕ) → All (FitsSchema (schema_of table)) (rows_of table count)
unfolding rows_of
all_fit table count = rows_fit table 0 count

pub rows_here : (table : Table) (count : ℕ) (schema : TableSchema) (made : List (List Datum)) → schema ≡ schema_of table → made ≡ rows_of table count
    → All (FitsSchema schema) made
rows_here table count schema made s m = rw (s, m) (all_fit table count)

-- ---- the file is read as so many rows

file_back : (table : Table) (count : ℕ) → count < 2 ^ 32 → count ≤ 16777216 → length (file_text (schema_of table) (rows_of table count)) ≤ 67108864
    → file_rows (schema_of table) (file_text (schema_of table) (rows_of table count)) ≡ Ok (map (nulled (schema_of table)) (rows_of table count))
file_back table count low few small =
    let made = rows_of table count in
    files_read_back (schema_of table) made (schema_is table) (named table) (all_fit table count) (all_return (schema_of table) table count low) (rw (length-rows_of table count) few) small

pub back_count : (table : Table) (count : ℕ) (rows : List (List Datum)) (file : List ℕ) → count < 2 ^ 32 → count ≤ 16777216
    → file ≡ file_text (schema_of table) (rows_of table count) → file_rows (schema_of table) file ≡ Ok rows → length rows ≡ count
back_count table count rows file low few e found =
    let schema = schema_of table in
    let made = rows_of table count in
    let here : file_rows schema (file_text schema made) ≡ Ok rows = ap (λ (bs : List ℕ). file_rows schema bs) (sym e) ∙ found in
    let small : length (file_text schema made) ≤ 67108864 = ((files_are_read schema (file_text schema made) rows).0 here).footer.small in
    let back : file_rows schema (file_text schema made) ≡ Ok (map (nulled schema) made) = file_back table count low few small in
    let same : rows ≡ map (nulled schema) made = cc in
    ap (λ (rs : List (List Datum)). length rs) same ∙ length-map made (nulled schema) ∙ length-rows_of table count

-- a file that isn't too long is read, unless memory ran out
fault_found : (fault : FileFault) (rows : List (List Datum)) → FaultOf fault (Ok rows) → fault ≡ faults.NoMemory
fault_found faults.Short rows h = cc
fault_found faults.Magic rows h = cc
fault_found faults.Footer rows h = cc
fault_found (faults.Thrift at) rows h = cc
fault_found (faults.Shape column) rows h = cc
fault_found (faults.Page at) rows h = cc
fault_found (faults.Codec codec) rows h = cc
fault_found (faults.Encoding encoding) rows h = cc
fault_found (faults.PageKind kind) rows h = cc
fault_found (faults.Physical column) rows h = cc
fault_found faults.Nested rows h = cc
fault_found faults.NoMemory rows h = refl

back_fault : (table : Table) (count : ℕ) (fault : FileFault) (file : List ℕ) → count < 2 ^ 32 → count ≤ 16777216
    → file ≡ file_text (schema_of table) (rows_of table count) → FaultOf fault (file_rows (schema_of table) file) → IsFailure table count (failed.Parquet fault)
back_fault table count fault file low few e h = elim (cases_lt 67108864 (length (file_text (schema_of table) (rows_of table count)))) [
  | inl long ↦ inr long
  | inr small ↦ inl (fault_found fault (map (nulled (schema_of table)) (rows_of table count)) (rw (e, file_back table count low few small) at h))
]

-- why reading gives nothing
pub read_fails : (table : Table) (count : ℕ) (e : KernelFault) (file : List ℕ) → count < 2 ^ 32 → count ≤ 16777216
    → file ≡ file_text (schema_of table) (rows_of table count)
    → (e ≡ failed.NoMemory) ⊎ ((fault : FileFault) × (e ≡ failed.Parquet fault) × FaultOf fault (file_rows (schema_of table) file)) → IsFailure table count e
read_fails table count e file low few is h = elim h [
  | inl wanting ↦ rw wanting tt
  | inr found ↦ rw found.1 (back_fault table count found.0 file low few is found.2)
]
