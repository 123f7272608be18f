-- The columns so far, with the fields that are left, are those of all fields; and they are MAX_COLUMNS at most.
use Rattle.std.proofs.Common.{◌≡◌, ◌≤◌, [], length, drop}
use Rattle.row_base.specs.declared.limits.TheConstants.{MAX_COLUMNS}
use Rattle.serde_json.specs.View.{items_view}
use Rattle.schema_text.specs.Schema.{columns_from}
use Rattle.schema_text.proofs.schema.columns_of.Given as goal

abbrev pub invariant-loop-value : goal.invariant-loop-value
invariant-loop-value l =
    (columns_from l.columns.items (items_view (drop l.value-index l.fields)) ≡ columns_from [] (items_view l.fields))
    × (length l.columns.items ≤ MAX_COLUMNS)
