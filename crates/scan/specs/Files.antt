-- Which of a table's live files a scan gets, and what it reads of each.
use Rattle.std.specs.Prelude.{ℕ, ◌+◌, if◌then◌else◌, List, [], ◌∷◌, ◌++◌, map, length, Option, Some, None, Result, Ok}
use Rattle.log_actions.specs.declared.action.AddFile.{AddFile}
use Rattle.row_base.specs.Faults.{◌>>=◌}
use Rattle.row_base.specs.Schema.{TableSchema, is_partition_column}
use Rattle.row_base.specs.declared.row.Datum.{Datum}
use Rattle.row_base.specs.declared.row.ScannedFile.{ScannedFile}
use Rattle.predicates.specs.Truths.{cell}
use Rattle.predicates.specs.declared.pred.Pred.{Pred}
use Rattle.schema_text.specs.Partition.{partition_row}
use Rattle.prune.specs.declared.column.ColumnFacts.{ColumnFacts}
use Rattle.prune.specs.Facts.{possible_in}
use Rattle.prune.specs.Known.{facts_in}
use Rattle.parquet_meta.specs.declared.fault.FileFault.{FileFault}
use Rattle.parquet_plain.specs.Reading.{file_rows}
use Rattle.scan.specs.declared.fault.ScanFault.{ScanFault}
use Rattle.scan.specs.declared.wanted.WantedFile.{WantedFile}
use Rattle.scan.specs.Faults.{or_values, or_facts}

-- a live file with a row of its values of the partition columns
abbrev pub with_values : TableSchema → AddFile → Result (Option WantedFile) ScanFault
with_values schema f = or_values f.name (partition_row schema f.partition_values) >>= λ values. Ok (Some (record { path = f.path; name = f.name; values = values }))

-- what the log says of its rows
abbrev pub facts_of : TableSchema → AddFile → Result (List ColumnFacts) ScanFault
facts_of schema f = or_facts f.name (facts_in schema f.partition_values f.stats)

-- the file, if it may have a row of the scope by that
abbrev pub if_wanted : TableSchema → Pred ℕ → AddFile → Result (Option WantedFile) ScanFault
if_wanted schema pred f =
    facts_of schema f >>= λ facts.
    if (possible_in facts pred).yes then with_values schema f else Ok None

-- a file before others, where there is one
abbrev pub before : Option WantedFile → List WantedFile → List WantedFile
before None more = more
before (Some f) more = f ∷ more

-- those live files that may, or why the first of all can't be looked at whose values of the partition columns don't read
unfoldable pub wanted_in : TableSchema → Pred ℕ → List AddFile → Result (List WantedFile) ScanFault
wanted_in schema pred [] = Ok []
wanted_in schema pred (f ∷ fs) = if_wanted schema pred f >>= λ first. wanted_in schema pred fs >>= λ more. Ok (before first more)

-- a row with the values of the partition columns in their places
unfoldable pub filled_from : TableSchema → List Datum → ℕ → List Datum → List Datum
filled_from schema values place [] = []
filled_from schema values place (d ∷ ds) = (if is_partition_column schema place then cell values place else d) ∷ filled_from schema values (place + 1) ds

abbrev pub filled : TableSchema → List Datum → List Datum → List Datum
filled schema values row = filled_from schema values 0 row

-- what is got of a table: the files still wanted, and those got with their rows
pub record Files : Type 0 where
  pub schema : TableSchema
  pub wanted : List WantedFile
  pub got : List ScannedFile

-- the rows of a file by its body
abbrev pub rows_of : TableSchema → WantedFile → List ℕ → Result (List (List Datum)) FileFault
rows_of schema w body = file_rows schema body >>= λ rows. Ok (map (filled schema w.values) rows)

-- a file behind others, where there is one
abbrev pub with_last : List WantedFile → Option WantedFile → List WantedFile
with_last files None = files
with_last files (Some f) = files ++ f ∷ []

-- the first file, and those behind it
abbrev pub first_of : List WantedFile → Option WantedFile
first_of [] = None
first_of (w ∷ ws) = Some w

abbrev pub behind_first : List WantedFile → List WantedFile
behind_first [] = []
behind_first (w ∷ ws) = ws

-- the name of the first file, if there is one
abbrev pub first_name : List WantedFile → Option (List ℕ)
first_name [] = None
first_name (w ∷ ws) = Some w.name

abbrev pub next_file : Files → Option (List ℕ)
next_file f = first_name f.wanted

abbrev pub files_left : Files → ℕ
files_left f = length f.wanted

-- the body of the first file came
abbrev pub read_first : TableSchema → List WantedFile → List ScannedFile → List ℕ → Result Files FileFault
read_first schema [] got body = Ok (record { schema = schema; wanted = []; got = got })
read_first schema (w ∷ ws) got body =
    rows_of schema w body >>= λ rows. Ok (record { schema = schema; wanted = ws; got = got ++ record { path = w.path; rows = rows } ∷ [] })

abbrev pub read_next : Files → List ℕ → Result Files FileFault
read_next f body = read_first f.schema f.wanted f.got body
