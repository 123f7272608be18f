-- What the kernels that are timed give.
use Rattle.std.specs.Prelude.{◌≡◌, ◌⊎◌, ℕ, zero, suc, ◌<◌, ◌≤◌, ◌+◌, ◌*◌, ◌/◌, ◌%◌, ◌^◌, List, length, map, slice_get, min, Option, Some, None}
use Rattle.std.specs.List.{range_with_len}
use Rattle.bit_pack.specs.Numbers.{packed_number, bytes_of}
use Rattle.bit_pack.specs.declared.fault.PackFault.TheVariants as packs
use Rattle.log_actions.specs.Commit.{max_bytes}
use Rattle.log_actions.specs.Written.{text_of}
use Rattle.format_kernels.specs.declared.fault.KernelFault.{KernelFault}
use Rattle.format_kernels.specs.declared.fault.KernelFault.TheVariants as failed
use Rattle.format_kernels.specs.declared.kernel.Kernel.{Kernel}
use Rattle.format_kernels.specs.declared.kernel.Kernel.TheVariants as kernels
use Rattle.format_kernels.specs.Commits.{adds}
use Rattle.format_kernels.specs.Register.{state_after}
use Rattle.format_kernels.specs.Tables as tables

-- how many values a kernel runs over
abbrev pub value_count : ℕ
value_count = 2 ^ 22

-- the value at a place: the low bits of the shift register, at most 32
abbrev pub value_at : ℕ → ℕ → ℕ
value_at width place = state_after (suc place) % 2 ^ min width 32

-- so many values of a width
unfoldable pub values_of : ℕ → ℕ → List ℕ
values_of width count = map (value_at width) (range_with_len 0 count)

-- the fewest bytes that hold values of a width
unfoldable pub packed : ℕ → List ℕ → List ℕ
packed width values = bytes_of ((length values * width + 7) / 8) (packed_number width values)

-- the checksum with one item more, in 64 bits
abbrev pub summed : ℕ → Option ℕ → ℕ
summed sum None = sum
summed sum (Some item) = (sum * 31 + item) % 2 ^ 64

-- the checksum over so many runs: each takes the item whose place is the run's number, which is counted round; where
-- there is none, it takes nothing
unfoldable pub checksum_of : List ℕ → ℕ → ℕ
checksum_of items zero = 0
checksum_of items (suc run) = summed (checksum_of items run) (slice_get items (run % value_count))

-- what a kernel gives for a number of runs, rows or added files
abbrev pub answer_of : Kernel → ℕ → ℕ
answer_of (kernels.Unpack width) runs = checksum_of (values_of width value_count) runs
answer_of (kernels.Pack width) runs = checksum_of (packed width (values_of width value_count)) runs
answer_of kernels.LogWrite count = length (text_of (adds count))
answer_of kernels.LogRead count = count
answer_of (kernels.Parquet step table) count = tables.answer_of step table count

-- why a kernel gives nothing: memory ran out, or a commit or a file is too long
abbrev pub IsFailure : Kernel → ℕ → KernelFault → Type 0
IsFailure (kernels.Unpack width) runs e = width ≤ 32 → e ≡ failed.Pack packs.NoMemory
IsFailure (kernels.Pack width) runs e = width ≤ 32 → e ≡ failed.Pack packs.NoMemory
IsFailure kernels.LogWrite count e = e ≡ failed.NoMemory
IsFailure kernels.LogRead count e = (e ≡ failed.NoMemory) ⊎ ((e ≡ failed.Line 1) × (max_bytes < length (text_of (adds count))))
IsFailure (kernels.Parquet step table) count e = tables.IsFailure table count e
