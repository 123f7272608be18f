-- What each statement does to the rows of a table, as an operation (table_changes): the law says of each version that it is its statement's. A further
-- statement is one more case here and one more proof that its operation is sound, and nothing else of the law changes.
-- The crate above cites each_run_is_lawful, which holds of these operations, and each_operation_is_sound.
use Rattle.std.specs.Prelude.{◌≡◌, Bool, false, Option, Some, None}
use Rattle.row_base.specs.Schema.{TableSchema}
use Rattle.op_types.specs.declared.statement.Statement.{Statement}
use Rattle.op_types.specs.declared.statement.Statement.TheVariants as statement
use Rattle.statement_calls.specs.Answered.{names_of}
use Rattle.table_changes.specs.Rows.{Row}
use Rattle.table_changes.specs.Table.{File}
use Rattle.table_changes.specs.Operations.{Operation, IsSound}
use Rattle.table_changes.specs.Statements.{insert_of, making_of}
use Rattle.table_laws.specs.Commits.{meta_of}

-- the rows that a statement names. No statement of today names any
pub data Scope : Type 0 where
  NoRow : Scope

abbrev pub passes : Scope → Row → Bool
passes NoRow x = false

-- whether a file may hold rows of a scope, by what its add says of them
abbrev pub may : Scope → File → Bool
may NoRow a = false

-- the operation of a statement, by the schema of the version that it reads: where there is no table one is made, whose metadata names its columns, and
-- where there is one rows are appended. A statement without an operation commits nothing
abbrev pub operation_of : Option TableSchema → Statement → Option (Operation Scope)
operation_of None (statement.Table spec) = Some (making_of NoRow (λ meta. Some (meta_of (names_of spec.columns))))
operation_of None (statement.Insert rows) = None
operation_of None statement.Select = None
operation_of (Some schema) (statement.Table spec) = None
operation_of (Some schema) (statement.Insert rows) = Some (insert_of NoRow rows)
operation_of (Some schema) statement.Select = None

-- each statement's operation is sound, whatever the schema is
abbrev pub EachOperationIsSound : Type 0
EachOperationIsSound = (schema : Option TableSchema) (statement : Statement) (op : Operation Scope) → operation_of schema statement ≡ Some op → IsSound passes may op
