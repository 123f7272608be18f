-- What a reader of a page's body returned, beside what there is to read.
use Rattle.std.specs.Prelude.{ℕ, Bool, true, false, Option, Some, None, Result, Ok, Err}
use Rattle.row_base.specs.Readings as base
use Rattle.parquet_meta.specs.declared.fault.FileFault.{FileFault}
use Rattle.parquet_meta.specs.declared.fault.FileFault.TheVariants as faults
use Rattle.parquet_pages.specs.declared.fault.BodyFault.{BodyFault}
use Rattle.parquet_pages.specs.declared.fault.BodyFault.TheVariants as body

-- want of memory, which any call that takes memory may answer
abbrev pub is_memory : BodyFault → Bool
is_memory body.Damaged = false
is_memory body.NoMemory = true

-- bytes are damaged where there is nothing to read
abbrev pub Fails : {X : Type 0} → BodyFault → Option X → Type 0
Fails fault read = base.Fails is_memory fault read

-- what a reader returned, seen by `view`, is what there is to read
abbrev pub Gives : {X Y : Type 0} → Result X BodyFault → (X → Y) → Option Y → Type 0
Gives result view read = base.Gives is_memory view result read

-- what was read of the body at this place, or that it can't be read
abbrev pub or_page : {X : Type 0} → ℕ → Option X → Result X FileFault
or_page at None = Err (faults.Page at)
or_page at (Some x) = Ok x

-- what a fault of the body at this place is for the file
abbrev pub fault_at : ℕ → BodyFault → FileFault
fault_at at body.Damaged = faults.Page at
fault_at at body.NoMemory = faults.NoMemory
