-- Why a scan has no result, by what went wrong with a file.
use Rattle.std.specs.Prelude.{Bool, true, false, ℕ, List, Result, Ok, Err}
use Rattle.log_actions.specs.declared.fault.Feature.TheVariants as feature
use Rattle.parquet_meta.specs.declared.fault.FileFault.{FileFault}
use Rattle.parquet_meta.specs.declared.fault.FileFault.TheVariants as file
use Rattle.schema_text.specs.declared.fault.SchemaTextFault.{SchemaTextFault}
use Rattle.schema_text.specs.declared.fault.SchemaTextFault.TheVariants as text
use Rattle.prune.specs.declared.fault.PartitionFault.{PartitionFault}
use Rattle.prune.specs.declared.fault.PartitionFault.TheVariants as partition
use Rattle.call_phases.specs.declared.gets.GetFault.{GetFault}
use Rattle.call_phases.specs.declared.gets.GetFault.TheVariants as get
use Rattle.scan.specs.declared.fault.ScanBad.TheVariants as bad
use Rattle.scan.specs.declared.fault.ScanFault.{ScanFault}
use Rattle.scan.specs.declared.fault.ScanFault.TheVariants as fault

-- memory ran out
abbrev pub is_memory : ScanFault → Bool
is_memory (fault.FileGone name) = false
is_memory (fault.BadObject name f) = false
is_memory (fault.Unsupported f) = false
is_memory (fault.Fault call) = false
is_memory fault.NoMemory = true

-- the values of a file's partition columns have no other fault than that of a value
abbrev pub of_values : List ℕ → SchemaTextFault → ScanFault
of_values name text.Shape = fault.NoMemory
of_values name (text.Kind column) = fault.NoMemory
of_values name (text.Invariant column) = fault.NoMemory
of_values name (text.Value column) = fault.BadObject name (bad.Value column)
of_values name text.NoMemory = fault.NoMemory

abbrev pub of_facts : List ℕ → PartitionFault → ScanFault
of_facts name (partition.Value column) = fault.BadObject name (bad.Value column)
of_facts name partition.NoMemory = fault.NoMemory

-- what a file's bytes ask for and isn't supported is named, else their fault
abbrev pub of_file : List ℕ → FileFault → ScanFault
of_file name (file.Codec codec) = fault.Unsupported (feature.Codec codec)
of_file name (file.Encoding encoding) = fault.Unsupported (feature.Encoding encoding)
of_file name (file.PageKind kind) = fault.Unsupported (feature.PageKind kind)
of_file name (file.Physical column) = fault.Unsupported (feature.ColumnType column)
of_file name file.Nested = fault.Unsupported feature.NestedColumns
of_file name file.NoMemory = fault.NoMemory
of_file name f = fault.BadObject name (bad.File f)

abbrev pub of_get : GetFault FileFault → ScanFault
of_get (get.Fault call) = fault.Fault call
of_get (get.Missing name) = fault.FileGone name
of_get (get.Bad name f) = of_file name f
of_get get.NoMemory = fault.NoMemory

-- what there is, or why there is none for the file of this name
abbrev pub or_values : {A : Type 0} → List ℕ → Result A SchemaTextFault → Result A ScanFault
or_values name (Ok x) = Ok x
or_values name (Err f) = Err (of_values name f)

abbrev pub or_facts : {A : Type 0} → List ℕ → Result A PartitionFault → Result A ScanFault
or_facts name (Ok x) = Ok x
or_facts name (Err f) = Err (of_facts name f)
