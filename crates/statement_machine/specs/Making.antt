-- The making of a table.
use Rattle.std.specs.Prelude.{◌≡◌, ℕ, Result, Ok, Err}
use Rattle.edge_api.specs.declared.call.Tag.{Tag}
use Rattle.row_base.specs.Schema.{TableSchema}
use Rattle.table_rules.specs.Properties.{rules_of}
use Rattle.table_rules.specs.declared.fault.FeatureFault.{FeatureFault}
use Rattle.table_rules.specs.declared.fault.FeatureFault.TheVariants as fault
use Rattle.statement_types.specs.declared.statement.TableSpec.{TableSpec}
use Rattle.statement_steps.specs.Answered.{metadata_of, making_of, SchemaReads}
use Rattle.statement_machine.specs.declared.table.Making.{Making}

-- what isn't supported is what the metadata asks for
abbrev pub IsAsked : Tag → ℕ → TableSpec → TableSchema → FeatureFault → Type 0
IsAsked tag start spec schema (fault.Unsupported f) = rules_of (metadata_of tag start spec schema) ≡ Err f
IsAsked tag start spec schema fault.NoMemory = Unit {0}

-- the rules are those of the table's metadata, the plan is that of its making under these, and the schema's text says the schema again
pub record IsMade (tag : Tag) (start : ℕ) (spec : TableSpec) (schema : TableSchema) (m : Making) : Type 0 where
  pub rules : rules_of (metadata_of tag start spec schema) ≡ Ok m.rules
  pub commit : m.commit ≡ (making_of tag start spec schema m.rules).plan
  pub reads : SchemaReads spec schema

-- the making of a table of this schema, or why there is none
abbrev pub IsMaking : Tag → ℕ → TableSpec → TableSchema → Result Making FeatureFault → Type 0
IsMaking tag start spec schema (Ok m) = IsMade tag start spec schema m
IsMaking tag start spec schema (Err f) = IsAsked tag start spec schema f
