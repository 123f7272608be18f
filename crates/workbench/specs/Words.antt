-- Which words name which kernel and format, and what the words ask for.
use Rattle.std.specs.Prelude.{ℕ, ◌^◌, ◌&&◌, Bool, if◌then◌else◌, nat_lt, nat_le, List, length, take, drop, codes, Option, Some, None, option_map, Result, Ok, Err}
use Rattle.std.specs.Option.{option_and_then}
use Rattle.std.specs.List.{list_all}
use Rattle.std.specs.Char.{is_ascii_digit}
use Rattle.std.specs.Str.{bytes_eq}
use Rattle.std.specs.Str.Parse.{digits_value}
use Rattle.format_kernels.specs.declared.kernel.Kernel.{Kernel}
use Rattle.format_kernels.specs.declared.kernel.Kernel.TheVariants.{Unpack, Pack, LogWrite, LogRead}
use Rattle.format_kernels.specs.declared.kernel.Kernel.TheVariants as kernels
use Rattle.format_kernels.specs.declared.kernel.Step.{Step}
use Rattle.format_kernels.specs.declared.kernel.Step.TheVariants as steps
use Rattle.format_kernels.specs.declared.kernel.Table.{Table}
use Rattle.format_kernels.specs.declared.kernel.Table.TheVariants as tables
use Rattle.row_kernels.specs.declared.kernel.RowChange.TheVariants as changes
use Rattle.row_kernels.specs.declared.kernel.RowKernel.{RowKernel}
use Rattle.row_kernels.specs.declared.kernel.RowKernel.TheVariants as rows
use Rattle.workbench.specs.declared.words.Timed.{Timed}
use Rattle.workbench.specs.declared.words.Timed.TheVariants as timed
use Rattle.workbench.specs.declared.words.Format.{Format}
use Rattle.workbench.specs.declared.words.Format.TheVariants.{Hybrid, Thrift, Parquet}
use Rattle.workbench.specs.declared.words.Command.{Command}
use Rattle.workbench.specs.declared.words.Command.TheVariants.{Time, Read}
use Rattle.workbench.specs.declared.words.WordsFault.{WordsFault}
use Rattle.workbench.specs.declared.words.WordsFault.TheVariants as faults

-- what stands behind a front
abbrev pub after : List ℕ → List ℕ → Option (List ℕ)
after front text = if bytes_eq (take (length front) text) front then Some (drop (length front) text) else None

-- one decimal digit or more
abbrev pub are_digits : List ℕ → Bool
are_digits text = nat_lt 0 (length text) && list_all is_ascii_digit text

-- a number of 32 bits in decimal digits
abbrev pub number_of : List ℕ → Option ℕ
number_of text = if are_digits text && nat_lt (digits_value 10 text) (2 ^ 32) then Some (digits_value 10 text) else None

-- a width of at most 32 bits
abbrev pub within_width : ℕ → Option ℕ
within_width width = if nat_le width 32 then Some width else None

abbrev pub width_of : List ℕ → Option ℕ
width_of digits = option_and_then within_width (number_of digits)

-- the first of two kernels that is there
infixr 4 ◌or◌
abbrev pub ◌or◌ : Option Kernel → Option Kernel → Option Kernel
(Some kernel) or others = Some kernel
None or others = others

-- `longs`, `words`, `texts` and `booleans` name the tables
abbrev pub table_of : List ℕ → Option Table
table_of name =
    if bytes_eq name (codes "longs") then Some tables.Longs
    else if bytes_eq name (codes "words") then Some tables.Words
    else if bytes_eq name (codes "texts") then Some tables.Texts
    else if bytes_eq name (codes "booleans") then Some tables.Booleans
    else None

-- the kernel of a step that stands before the table's name
abbrev pub step_kernel : Step → List ℕ → List ℕ → Option Kernel
step_kernel step front name = option_map (λ table. kernels.Parquet step table) (option_and_then table_of (after front name))

abbrev pub parquet_kernel : List ℕ → Option Kernel
parquet_kernel name =
    step_kernel steps.Rows (codes "rows-") name or step_kernel steps.Write (codes "write-") name
    or step_kernel steps.Copy (codes "copy-") name or step_kernel steps.Read (codes "read-") name

-- `unpack-W` and `pack-W` name the kernels of the width W, `parquet-STEP-TABLE` those of a step and a table
abbrev pub fronted_kernel : List ℕ → Option Kernel
fronted_kernel name =
    option_map (λ width. Unpack width) (option_and_then width_of (after (codes "unpack-") name))
    or option_map (λ width. Pack width) (option_and_then width_of (after (codes "pack-") name))
    or option_and_then parquet_kernel (after (codes "parquet-") name)

-- and `log-write` and `log-read` those of commits
abbrev pub kernel_of : List ℕ → Option Kernel
kernel_of name = if bytes_eq name (codes "log-write") then Some LogWrite else if bytes_eq name (codes "log-read") then Some LogRead else fronted_kernel name

-- `hybrid`, `thrift` and `parquet` name the formats
abbrev pub format_of : List ℕ → Option Format
format_of name =
    if bytes_eq name (codes "hybrid") then Some Hybrid
    else if bytes_eq name (codes "thrift") then Some Thrift
    else if bytes_eq name (codes "parquet") then Some Parquet
    else None

-- `files-asked`, `files-known` and `files-keys` name the kernels over what is known of files
abbrev pub file_kernel_of : List ℕ → Option RowKernel
file_kernel_of name =
    if bytes_eq name (codes "files-asked") then Some rows.Asked
    else if bytes_eq name (codes "files-known") then Some rows.Known
    else if bytes_eq name (codes "files-keys") then Some rows.Keys
    else None

-- `rows-made`, `rows-truth`, `rows-plain`, `rows-delete`, `rows-update` and `rows-merge` name the kernels over rows in memory
abbrev pub row_kernel_of : List ℕ → Option RowKernel
row_kernel_of name =
    if bytes_eq name (codes "rows-made") then Some rows.Made
    else if bytes_eq name (codes "rows-truth") then Some rows.Truth
    else if bytes_eq name (codes "rows-plain") then Some rows.Plain
    else if bytes_eq name (codes "rows-delete") then Some (rows.Change changes.Delete)
    else if bytes_eq name (codes "rows-update") then Some (rows.Change changes.Update)
    else if bytes_eq name (codes "rows-merge") then Some rows.Merge
    else file_kernel_of name

abbrev pub format_timed : Option Kernel → Option Timed
format_timed (Some kernel) = Some (timed.Format kernel)
format_timed None = None

-- the kernel over rows where there is one, else that of the formats
abbrev pub first_timed : Option RowKernel → Option Kernel → Option Timed
first_timed (Some kernel) others = Some (timed.Rows kernel)
first_timed None kernel = format_timed kernel

abbrev pub timed_of : List ℕ → Option Timed
timed_of name = first_timed (row_kernel_of name) (kernel_of name)

-- the kernel's fault comes first
abbrev pub time_command : Option Timed → Option ℕ → Result Command WordsFault
time_command None runs = Err faults.Kernel
time_command (Some kernel) None = Err faults.Runs
time_command (Some kernel) (Some runs) = Ok (Time kernel runs)

abbrev pub read_command : Option Format → Result Command WordsFault
read_command (Some format) = Ok (Read format)
read_command None = Err faults.Format

-- `time KERNEL N` and `read FORMAT FILE`
abbrev pub command_of : List ℕ → List ℕ → List ℕ → Result Command WordsFault
command_of word name last =
    if bytes_eq word (codes "time") then time_command (timed_of name) (number_of last)
    else if bytes_eq word (codes "read") then read_command (format_of name)
    else Err faults.Command
