-- The schema and the rules of a table, by its protocol and its metadata.
use Rattle.std.specs.Prelude.{◌≡◌, MatchBool, ℕ, Bool, true, false, List, Option, Some, None, Result, Ok, Err, codes}
use Rattle.log_actions.specs.declared.action.MetaData.{MetaData}
use Rattle.log_actions.specs.declared.action.Protocol.{Protocol}
use Rattle.log_actions.specs.declared.fault.Feature.{Feature}
use Rattle.log_actions.specs.declared.fault.Feature.TheVariants as feature
use Rattle.row_base.specs.Faults.{◌>>=◌}
use Rattle.row_base.specs.Schema.{TableSchema}
use Rattle.schema_text.specs.Schema.{schema_of}
use Rattle.schema_text.specs.declared.fault.SchemaTextFault.{SchemaTextFault}
use Rattle.schema_text.specs.declared.fault.SchemaTextFault.TheVariants as text
use Rattle.table_rules.specs.Properties.{rules_of}
use Rattle.table_rules.specs.Protocols.{unsupported}
use Rattle.table_rules.specs.declared.fault.FeatureFault.{FeatureFault}
use Rattle.table_rules.specs.declared.fault.FeatureFault.TheVariants as asked
use Rattle.table_rules.specs.declared.rules.Rules.{Rules}
use Rattle.table_definition.specs.declared.definition.Definition.{Definition}
use Rattle.table_definition.specs.declared.fault.DefinitionFault.{DefinitionFault}
use Rattle.table_definition.specs.declared.fault.DefinitionFault.TheVariants as fault

-- memory ran out
abbrev pub is_memory : DefinitionFault → Bool
is_memory fault.Table = false
is_memory (fault.Unsupported f) = false
is_memory fault.NoMemory = true

-- a fault is the one that there is, unless memory ran out
abbrev pub IsFault : DefinitionFault → DefinitionFault → Type 0
IsFault f there = MatchBool (is_memory f) (Unit {0}) (f ≡ there)

-- the feature that a column's invariant asks for
unfoldable pub invariants : List ℕ
invariants = codes "invariants"

abbrev pub asked_by_invariants : DefinitionFault
asked_by_invariants = fault.Unsupported (feature.Named invariants)

-- why a table can't be used whose schema's text has this fault
abbrev pub of_text : SchemaTextFault → DefinitionFault
of_text text.Shape = fault.Table
of_text (text.Kind name) = fault.Unsupported (feature.ColumnType name)
of_text (text.Invariant name) = asked_by_invariants
of_text (text.Value name) = fault.Table
of_text text.NoMemory = fault.NoMemory

-- what there is, or why the table can't be used
abbrev pub or_text : {A : Type 0} → Result A SchemaTextFault → Result A DefinitionFault
or_text (Ok x) = Ok x
or_text (Err f) = Err (of_text f)

-- why it can't be used where it asks for a feature
abbrev pub of_feature : FeatureFault → DefinitionFault
of_feature (asked.Unsupported f) = fault.Unsupported f
of_feature asked.NoMemory = fault.NoMemory

abbrev pub or_asked : {A : Type 0} → Result A Feature → Result A DefinitionFault
or_asked (Ok x) = Ok x
or_asked (Err f) = Err (fault.Unsupported f)

abbrev pub unless_asked : Option Feature → Result (Unit {0}) DefinitionFault
unless_asked None = Ok tt
unless_asked (Some f) = Err (fault.Unsupported f)

-- the schema that metadata says
abbrev pub schema_said : MetaData → Result TableSchema DefinitionFault
schema_said m = or_text (schema_of m.schema_string m.partition_columns)

-- of a protocol and metadata: first what the protocol asks for, then the text of the schema, then the properties
abbrev pub defined_by : Protocol → MetaData → Result Definition DefinitionFault
defined_by p m =
    unless_asked (unsupported p) >>= λ u.
    schema_said m >>= λ schema.
    or_asked (rules_of m) >>= λ rules.
    Ok (record { schema = schema; rules = rules })

-- a table without a protocol or without metadata is none
abbrev pub definition_of : Option Protocol → Option MetaData → Result Definition DefinitionFault
definition_of None meta = Err fault.Table
definition_of (Some p) None = Err fault.Table
definition_of (Some p) (Some m) = defined_by p m
