-- What the log says of a file: of a data column what the statistics say, and of a partition column its value.
use Rattle.std.specs.Prelude.{ℕ, ◌==◌, ◌&&◌, not, if◌then◌else◌, List, [], Bool, true, false, Option, Some, None, option_and_then, Result, Ok, Err}
use Rattle.json_lines.specs.Kinds.{NullableEntry}
use Rattle.row_base.specs.declared.row.Datum.{Datum}
use Rattle.row_base.specs.Faults.{◌>>=◌}
use Rattle.row_base.specs.Schema.{TableSchema, is_partition_column}
use Rattle.predicates.specs.Truths.{is_null, cell}
use Rattle.schema_text.specs.declared.fault.SchemaTextFault.{SchemaTextFault}
use Rattle.schema_text.specs.declared.fault.SchemaTextFault.TheVariants as text
use Rattle.schema_text.specs.Partition.{partition_row}
use Rattle.file_stats.specs.declared.stats.ColumnStats.{ColumnStats}
use Rattle.file_stats.specs.declared.stats.Stats.{Stats}
use Rattle.file_stats.specs.Columns.{each_from, stats_at}
use Rattle.file_stats.specs.Reading.{stats_in}
use Rattle.prune.specs.declared.column.ColumnFacts.{ColumnFacts}
use Rattle.prune.specs.declared.fault.PartitionFault.{PartitionFault}
use Rattle.prune.specs.declared.fault.PartitionFault.TheVariants as fault

-- memory ran out
abbrev pub is_memory : PartitionFault → Bool
is_memory (fault.Value name) = false
is_memory fault.NoMemory = true

-- a count that is known to be n
abbrev pub is_count : Option ℕ → ℕ → Bool
is_count None n = false
is_count (Some m) n = m == n

-- two counts that are known to be the same
abbrev pub are_same : Option ℕ → Option ℕ → Bool
are_same None n = false
are_same (Some m) n = is_count n m

-- a data column: it can be null unless no row is known to be, and a value unless each row is known to be null; in a file
-- without rows it can be neither
abbrev pub known_of : Option ℕ → ColumnStats → ColumnFacts
known_of count c =
    record {
      can_be_null = not (is_count count 0) && not (is_count c.nulls 0);
      can_be_value = not (is_count count 0) && not (are_same count c.nulls);
      least = c.least;
      greatest = c.greatest;
    }

-- a partition column, which has the same value in each row
abbrev pub exact_facts : Datum → ColumnFacts
exact_facts d = record { can_be_null = is_null d; can_be_value = not (is_null d); least = Some d; greatest = Some d }

-- the column at this place, by the values of the partition columns and the statistics
abbrev pub column_facts : TableSchema → List Datum → Stats → ℕ → ColumnFacts
column_facts s values st k =
    if is_partition_column s k then exact_facts (cell values k) else known_of st.count (stats_at st k)

-- each column
abbrev pub facts_of : TableSchema → List Datum → Stats → List ColumnFacts
facts_of s values st = each_from (λ k c. column_facts s values st k) 0 s.columns

-- statistics that say nothing
abbrev pub nothing_said : Stats
nothing_said = record { count = None; columns = [] }

-- what there is, or nothing
abbrev pub or_nothing : Option Stats → Stats
or_nothing None = nothing_said
or_nothing (Some st) = st

-- what the statistics of an added file say; where there are none, or they are no JSON object, nothing
abbrev pub stats_said : TableSchema → Option (List ℕ) → Stats
stats_said s text = or_nothing (option_and_then (stats_in s) text)

-- the fault of partition values; they have no other than that of a value
abbrev pub fault_of : SchemaTextFault → PartitionFault
fault_of text.Shape = fault.NoMemory
fault_of (text.Kind name) = fault.NoMemory
fault_of (text.Invariant name) = fault.NoMemory
fault_of (text.Value name) = fault.Value name
fault_of text.NoMemory = fault.NoMemory

-- the same row, or its fault
abbrev pub values_or_fault : Result (List Datum) SchemaTextFault → Result (List Datum) PartitionFault
values_or_fault (Ok row) = Ok row
values_or_fault (Err e) = Err (fault_of e)

-- a row with the values of the partition columns
abbrev pub values_in : TableSchema → List NullableEntry → Result (List Datum) PartitionFault
values_in s values = values_or_fault (partition_row s values)

-- the facts of an added file, or the first partition column whose value has no reading
abbrev pub facts_in : TableSchema → List NullableEntry → Option (List ℕ) → Result (List ColumnFacts) PartitionFault
facts_in s values text = values_in s values >>= λ row. Ok (facts_of s row (stats_said s text))
