-- What a reader returned, beside what there is to read.
use Rattle.std.specs.Prelude.{ℕ, ◌+◌, Bool, true, false, Result, Ok, Err}
use Rattle.row_base.specs.Faults as base
use Rattle.thrift_compact.specs.declared.fault.ThriftFault.{ThriftFault}
use Rattle.thrift_compact.specs.declared.fault.ThriftFault.TheVariants as thrift
use Rattle.parquet_meta.specs.declared.fault.FileFault.{FileFault}
use Rattle.parquet_meta.specs.declared.fault.FileFault.TheVariants as faults

-- want of memory, which any call that takes memory may answer
abbrev pub is_memory : FileFault → Bool
is_memory faults.Short = false
is_memory faults.Magic = false
is_memory faults.Footer = false
is_memory (faults.Thrift at) = false
is_memory (faults.Shape column) = false
is_memory (faults.Page at) = false
is_memory (faults.Codec codec) = false
is_memory (faults.Encoding encoding) = false
is_memory (faults.PageKind kind) = false
is_memory (faults.Physical column) = false
is_memory faults.Nested = false
is_memory faults.NoMemory = true

-- a fault is the one that reading gives, or want of memory
abbrev pub FaultOf : {X : Type 0} → FileFault → Result X FileFault → Type 0
FaultOf fault read = base.FaultOf is_memory fault read

-- what a call returned is what reading gives, or want of memory
abbrev pub Reads : {X : Type 0} → Result X FileFault → Result X FileFault → Type 0
Reads result read = base.Reads is_memory result read

-- the place that a fault of the Thrift compact protocol names
abbrev pub place_of : ThriftFault → ℕ
place_of (thrift.Short at) = at
place_of (thrift.Wire at) = at
place_of (thrift.Long at) = at
place_of (thrift.Deep at) = at

-- what is read of bytes whose first one has a place in the file
abbrev pub located : {X : Type 0} → ℕ → Result X ThriftFault → Result X FileFault
located start (Ok x) = Ok x
located start (Err f) = Err (faults.Thrift (start + place_of f))
