-- Faults of a schema's text.
use Rattle.std.specs.Prelude.{Bool, true, false}
use Rattle.json_lines.specs.declared.fault.ShapeFault.{ShapeFault}
use Rattle.json_lines.specs.declared.fault.ShapeFault.TheVariants as shape
use Rattle.schema_text.specs.declared.fault.SchemaTextFault.{SchemaTextFault}
use Rattle.schema_text.specs.declared.fault.SchemaTextFault.TheVariants as faults

-- what the fault of a JSON value is for a schema's text
abbrev pub fault_of : ShapeFault → SchemaTextFault
fault_of shape.Shape = faults.Shape
fault_of shape.NoMemory = faults.NoMemory

-- memory ran out
abbrev pub is_memory : SchemaTextFault → Bool
is_memory faults.Shape = false
is_memory (faults.Kind name) = false
is_memory (faults.Invariant name) = false
is_memory (faults.Value name) = false
is_memory faults.NoMemory = true
