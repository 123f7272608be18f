-- What the kernels that are timed give.
use Rattle.std.specs.Prelude.{ℕ, ◌*◌, ◌%◌, ◌^◌, Bool, true, length, Result, Ok, Err}
use Rattle.dml_ops.specs.Changes.{passes}
use Rattle.dml_ops.specs.Outcomes.{is_op_memory}
use Rattle.merge_op.specs.Merges.{is_merge_memory}
use Rattle.prune.specs.Known as prune
use Rattle.row_kernels.specs.declared.fault.RowKernelFault.{RowKernelFault}
use Rattle.row_kernels.specs.declared.fault.RowKernelFault.TheVariants as fault
use Rattle.row_kernels.specs.declared.kernel.RowKernel.{RowKernel}
use Rattle.row_kernels.specs.declared.kernel.RowKernel.TheVariants as kernels
use Rattle.row_kernels.specs.Files.{match_count}
use Rattle.row_kernels.specs.Rows.{rows_of}
use Rattle.row_kernels.specs.Scopes.{scope, file_scope, keys, is_counted, count_where, op_of, changed_count, merged_count}

-- the same, or its fault as one of a kernel
abbrev pub with_fault : {E : Type 0} → (E → RowKernelFault) → Result ℕ E → Result ℕ RowKernelFault
with_fault f (Ok n) = Ok n
with_fault f (Err e) = Err (f e)

-- what a kernel counts over so many rows, rounds or keys
abbrev pub answer_of : RowKernel → ℕ → Result ℕ RowKernelFault
answer_of kernels.Made count = Ok (length (rows_of 1 count))
answer_of kernels.Truth count = Ok (count_where (passes scope) (rows_of 1 count) % 2 ^ 64)
answer_of kernels.Plain count = Ok (count_where is_counted (rows_of 1 count) % 2 ^ 64)
answer_of (kernels.Change change) count = with_fault fault.Change (changed_count (op_of change) count)
answer_of kernels.Merge count = with_fault fault.Merge (merged_count count)
answer_of kernels.Asked rounds = Ok (rounds * match_count file_scope 50000 % 2 ^ 64)
answer_of kernels.Known rounds = Ok (rounds * match_count file_scope 50000 % 2 ^ 64)
answer_of kernels.Keys count = Ok (match_count (keys count) 100 % 2 ^ 64)

-- want of memory, which may always come
abbrev pub is_memory : RowKernelFault → Bool
is_memory (fault.Change f) = is_op_memory f
is_memory (fault.Merge f) = is_merge_memory f
is_memory (fault.File f) = prune.is_memory f
is_memory (fault.Memory f) = true
