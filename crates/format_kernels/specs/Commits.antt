-- Commits of added files.
use Rattle.std.specs.Prelude.{ℕ, ◌-◌, true, List, [], ◌++◌, length, map, replicate, codes, Some, None}
use Rattle.std.specs.List.{range_with_len}
use Rattle.std.specs.Fmt.{decimal}
use Rattle.log_actions.specs.declared.action.Action.{Action}
use Rattle.log_actions.specs.declared.action.Action.TheVariants as actions
use Rattle.log_actions.specs.declared.action.AddFile.{AddFile}
use Rattle.log_actions.specs.declared.fault.LogFault.{LogFault}
use Rattle.log_actions.specs.declared.fault.LogFaultKind.{LogFaultKind}
use Rattle.log_actions.specs.declared.fault.LogFaultKind.TheVariants as kinds
use Rattle.format_kernels.specs.declared.fault.KernelFault.{KernelFault}
use Rattle.format_kernels.specs.declared.fault.KernelFault.TheVariants as failed

-- a number in five decimal digits or more
abbrev pub five_or_more : ℕ → List ℕ
five_or_more n = replicate (5 - length (decimal n)) 48 ++ decimal n

-- the path of a number
unfoldable pub path_of : ℕ → List ℕ
path_of number = codes "part-" ++ (five_or_more number ++ codes "-018bcfe5-6800-8000-8000-000100000001-c000.parquet")

-- the statistics of one row, whose only datum is the number
unfoldable pub statistics_of : ℕ → List ℕ
statistics_of number =
    codes "{\"maxValues\":{\"id\":" ++ (decimal number ++ (codes "},\"minValues\":{\"id\":" ++ (decimal number ++ codes "},\"nullCount\":{\"id\":0},\"numRecords\":1}")))

-- the added file of a number
unfoldable pub file_of : ℕ → AddFile
file_of number = record {
  path = path_of number;
  name = path_of number;
  partition_values = [];
  size = 99;
  modification_time = 1700000000000;
  data_change = true;
  stats = Some (statistics_of number);
  tags = None;
}

-- so many added files, numbered from 0
abbrev pub adds : ℕ → List Action
adds count = map (λ number. actions.Add (file_of number)) (range_with_len 0 count)

-- why a commit has no reading: its first wrong line, or want of memory
abbrev pub fault_by : ℕ → LogFaultKind → KernelFault
fault_by line kinds.Json = failed.Line line
fault_by line kinds.Shape = failed.Line line
fault_by line kinds.Twice = failed.Line line
fault_by line (kinds.Unsupported feature) = failed.Line line
fault_by line kinds.NoMemory = failed.NoMemory

abbrev pub fault_of : LogFault → KernelFault
fault_of fault = fault_by fault.line fault.kind
