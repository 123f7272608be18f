-- What holds of the new files.
use Rattle.std.specs.Prelude.{◌≡◌, ◌≢◌, ℕ, ◌+◌, ◌<◌, ◌≤◌, ◌^◌, ◌⊎◌, Bool, List, length, map, Ok, IsSorted}
use Rattle.std.specs.declared.cmp.Ordering.TheVariants.{Less}
use Rattle.std.specs.List.{All, AllPairs}
use Rattle.edge_api.specs.declared.call.Tag.{Tag}
use Rattle.row_base.specs.declared.limits.TheConstants.{MAX_OBJECT_BYTES}
use Rattle.row_base.specs.declared.row.Datum.{Datum}
use Rattle.row_base.specs.Bags.{SameRows}
use Rattle.row_base.specs.RowOrder.{row_cmp}
use Rattle.row_base.specs.Schema.{TableSchema, IsSchema, FitsSchema}
use Rattle.schema_text.specs.PartitionWritten.{partition_values}
use Rattle.table_rules.specs.Told.{IsTag}
use Rattle.parquet_meta.specs.Laws.{IsText}
use Rattle.parquet_plain.specs.Reading.{file_rows}
use Rattle.parquet_plain.specs.ReadBack.{Returns, nulled}
use Rattle.parquet_plain.specs.Written.{file_text}
use Rattle.write_files.specs.declared.limits.TheConstants.{MAX_NEW_FILE_ROWS, MAX_NEW_FILE_SIZE}
use Rattle.write_files.specs.Order.{values_of}
use Rattle.write_files.specs.Pieces.{first_row, groups_of, joined, rows_size, pieces_of}
use Rattle.write_files.specs.Files.{add_of, files_from}

-- rows of one list of partition values, in order
pub record IsGroup (s : TableSchema) (rows : List (List Datum)) : Type 0 where
  pub some : 0 < length rows
  pub values : All (λ r. values_of s r ≡ values_of s (first_row rows)) rows
  pub sorted : IsSorted row_cmp rows

-- the rows by groups, in order of their partition values as data, of which each list has one group
pub record AreGroups (s : TableSchema) (rows : List (List Datum)) (groups : List (List (List Datum))) : Type 0 where
  pub same : SameRows rows (joined groups)
  pub each : All (IsGroup s) groups
  pub order : AllPairs (λ g h. row_cmp (values_of s (first_row g)) (values_of s (first_row h)) ≡ Less) groups

abbrev pub GroupsAreOrdered : Type 0
GroupsAreOrdered = (s : TableSchema) (rows : List (List Datum)) → AreGroups s rows (groups_of s rows)

-- the rows of all files together are the new rows
abbrev pub RowsAreKept : Type 0
RowsAreKept = (s : TableSchema) (rows : List (List Datum)) → SameRows rows (joined (pieces_of s rows))

-- the rows of a file are within the limits: only one row alone may pass the limit of the size
pub record IsWithin (rows : List (List Datum)) : Type 0 where
  pub some : 0 < length rows
  pub few : length rows ≤ MAX_NEW_FILE_ROWS
  pub small : (rows_size rows ≤ MAX_NEW_FILE_SIZE) ⊎ (length rows ≡ 1)

abbrev pub FilesAreWithin : Type 0
FilesAreWithin = (s : TableSchema) (rows : List (List Datum)) → All IsWithin (pieces_of s rows)

-- each row of a file has the partition values of the file's add
abbrev pub ValuesAreOne : Type 0
ValuesAreOne = (s : TableSchema) (rows : List (List Datum)) (tag : Tag) (start : ℕ) (change : Bool) (part : ℕ)
    → All (λ p. All (λ r. partition_values s r ≡ (add_of s tag start change part p).partition_values) p) (pieces_of s rows)

-- the files of a statement have different names, where their parts' numbers have 32 bits
abbrev pub NamesDiffer : Type 0
NamesDiffer = (s : TableSchema) (tag : Tag) (start first : ℕ) (pieces : List (List (List Datum))) → IsTag tag → first + length pieces ≤ 2 ^ 32
    → AllPairs (λ f g. f.name ≢ g.name) (files_from s tag start first pieces)

-- a file that is not too long to be read is read as its rows, with null in the partition columns (for rows and schemas of which
-- parquet_plain says that they are read back)
abbrev pub FilesAreRead : Type 0
FilesAreRead = (s : TableSchema) (rows : List (List Datum)) → IsSchema s → All (λ c. IsText c.name) s.columns → All (FitsSchema s) rows → All (Returns s) rows
    → All (λ p. length (file_text s p) ≤ MAX_OBJECT_BYTES → file_rows s (file_text s p) ≡ Ok (map (nulled s) p)) (pieces_of s rows)
