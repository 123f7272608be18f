-- What is written is read back.
use Rattle.std.specs.Prelude.{◌≡◌, ℕ, ◌+◌, ◌≤◌, false, if◌then◌else◌, List, [], ◌∷◌, length, map, slice_index_or, Ok}
use Rattle.std.specs.List.{All}
use Rattle.row_base.specs.declared.limits.TheConstants.{MAX_FILE_ROWS, MAX_OBJECT_BYTES}
use Rattle.row_base.specs.declared.row.Datum.{Datum}
use Rattle.row_base.specs.declared.row.Datum.TheVariants as datum
use Rattle.row_base.specs.declared.schema.Column.{Column}
use Rattle.row_base.specs.Schema.{TableSchema, IsSchema, FitsSchema}
use Rattle.parquet_meta.specs.Laws.{IsText}
use Rattle.parquet_pages.specs.ReadBack.{CanReturn}
use Rattle.parquet_plain.specs.Tree.{is_partition}
use Rattle.parquet_plain.specs.Reading.{file_rows}
use Rattle.parquet_plain.specs.Written.{file_text}

-- a row's data from a place on, with null in the partition columns
abbrev pub nulled_from : List ℕ → List Datum → ℕ → List Column → List Datum
nulled_from partition row place [] = []
nulled_from partition row place (c ∷ cs) =
    (if is_partition partition place then datum.Null else slice_index_or row place datum.Null) ∷ nulled_from partition row (place + 1) cs

-- a row as it is read back: partition columns are null
abbrev pub nulled : TableSchema → List Datum → List Datum
nulled s row = nulled_from s.partition row 0 s.columns

-- each datum of a row outside the partition columns is one that some bytes read as
abbrev pub Returns : TableSchema → List Datum → Type 0
Returns s row = (place : ℕ) → is_partition s.partition place ≡ false → CanReturn (slice_index_or row place datum.Null)

-- A file that is written is read as its rows, with null in the partition columns: rows that fit the schema, of values that,
-- outside the partition columns, some bytes read as, for a schema whose names are texts, where the file has at most MAX_OBJECT_BYTES.
abbrev pub FilesReadBack : Type 0
FilesReadBack = (s : TableSchema) (rows : List (List Datum)) → IsSchema s → All (λ c. IsText c.name) s.columns → All (FitsSchema s) rows → All (Returns s) rows
    → length rows ≤ MAX_FILE_ROWS → length (file_text s rows) ≤ MAX_OBJECT_BYTES → file_rows s (file_text s rows) ≡ Ok (map (nulled s) rows)
