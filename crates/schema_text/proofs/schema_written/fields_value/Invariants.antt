-- The values so far are those of the columns so far.
use Rattle.std.proofs.Common.{◌≡◌, take, map}
use Rattle.serde_json.specs.View.{view}
use Rattle.schema_text.specs.SchemaWritten.{field_data}
use Rattle.schema_text.proofs.schema_written.fields_value.Given as goal

abbrev pub invariant-loop-column : goal.invariant-loop-column
invariant-loop-column l = map view l.fields.items ≡ map field_data (take l.column-index l.columns)
