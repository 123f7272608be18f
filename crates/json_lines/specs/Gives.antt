-- Which fault of a reader says that memory ran out.
use Rattle.std.specs.Prelude.{Bool, true, false}
use Rattle.json_lines.specs.declared.fault.ShapeFault.{ShapeFault}
use Rattle.json_lines.specs.declared.fault.ShapeFault.TheVariants as faults

-- memory ran out
abbrev pub is_memory : ShapeFault → Bool
is_memory faults.Shape = false
is_memory faults.NoMemory = true
