-- The operations of statements are sound, and what the scopes of today say of files and rows.
use Rattle.std.proofs.Common.{◌≡◌, ℕ, true, false, List, [], ◌∷◌, refl, sym, ◌∙◌, ap, subst}
use Rattle.std.specs.Prelude.{Option, Some, None, option_map}
use Rattle.std.specs.List.{filter}
use Rattle.row_base.specs.Bags.{count_of}
use Rattle.row_base.specs.Schema.{TableSchema}
use Rattle.op_types.specs.declared.statement.Statement.{Statement}
use Rattle.op_types.specs.declared.statement.Statement.TheVariants.{Table, Insert, Select}
use Rattle.op_types.specs.declared.statement.TableSpec.{TableSpec}
use Rattle.statement_calls.specs.Answered.{names_of}
use Rattle.snapshot_replay.specs.Table.{Snapshot}
use Rattle.table_changes.specs.Rows.{Row}
use Rattle.table_changes.specs.Table.{File, MetaData}
use Rattle.table_changes.specs.Operations.{Operation, IsSound}
use Rattle.table_changes.specs.Statements.{insert_of, making_of}
use Rattle.table_changes.proofs.Statements.{insert_sound, making_sound}
use Rattle.table_laws.specs.Commits.{meta_of, schema_said, schema_of, schema_in}
use Rattle.table_laws.specs.Operations.{Scope, NoRow, passes, may, operation_of, EachOperationIsSound}

same_op : (a b : Operation Scope) → Some a ≡ Some b → a ≡ b
same_op a b h = cc

sound_as : (a op : Operation Scope) → IsSound passes may a → Some a ≡ Some op → IsSound passes may op
sound_as a op sound is = subst (IsSound passes may) (same_op a op is) sound

abbrev made : TableSpec → Option MetaData → Option MetaData
made spec meta = Some (meta_of (names_of spec.columns))

pub each_operation_is_sound : EachOperationIsSound
each_operation_is_sound None (Table spec) op is = sound_as (making_of NoRow (made spec)) op (making_sound Scope passes may NoRow (made spec) (λ x. refl)) is
each_operation_is_sound None (Insert rows) op is = cc
each_operation_is_sound None Select op is = cc
each_operation_is_sound (Some schema) (Table spec) op is = cc
each_operation_is_sound (Some schema) (Insert rows) op is = sound_as (insert_of NoRow rows) op (insert_sound Scope passes may NoRow rows (λ x. refl)) is
each_operation_is_sound (Some schema) Select op is = cc

-- what a file says of its rows is true of them
pub says_truly : (a : File) (rows : List Row) (s : Scope) → may s a ≡ false → (x : Row) → passes s x ≡ true → count_of x rows ≡ 0
says_truly a rows NoRow out x has = cc

-- a table that was loaded has a schema, over which a statement that makes a table has no operation, and an insert has its own
abbrev operation_in : Option (List (List ℕ)) → Statement → Option (Operation Scope)
operation_in columns statement = operation_of (schema_of (option_map meta_of columns)) statement

pub makes_none : (s : Snapshot) (columns : List (List ℕ)) → s.columns ≡ Some columns → (spec : TableSpec) (op : Operation Scope) → operation_of (schema_in s) (Table spec) ≡ Some op → ⊥
makes_none s columns there spec op is = let bad : None ≡ Some op = sym (ap (λ (o : Option (List (List ℕ))). operation_in o (Table spec)) there) ∙ is in no_some op bad
  where
    no_some : (op : Operation Scope) → None ≡ Some op → ⊥
    no_some op h = cc

pub inserts_rows : (s : Snapshot) (columns : List (List ℕ)) → s.columns ≡ Some columns → (rows : List Row) → operation_of (schema_in s) (Insert rows) ≡ Some (insert_of NoRow rows)
inserts_rows s columns there rows = ap (λ (o : Option (List (List ℕ))). operation_in o (Insert rows)) there

-- and none of its statements sets metadata
pub sets_none : (s : Snapshot) (columns : List (List ℕ)) → s.columns ≡ Some columns → (statement : Statement) (op : Operation Scope) → operation_of (schema_in s) statement ≡ Some op → (meta : Option MetaData) → op.sets meta ≡ meta
sets_none s columns there statement op is = by (schema_said (meta_of columns)) statement (sym (ap (λ (o : Option (List (List ℕ))). operation_in o statement) there) ∙ is)
  where
    by : (schema : TableSchema) (statement : Statement) → operation_of (Some schema) statement ≡ Some op → (meta : Option MetaData) → op.sets meta ≡ meta
    by schema (Table spec) is meta = cc
    by schema (Insert rows) is meta = ap (λ (o : Operation Scope). o.sets meta) (sym (same_op (insert_of NoRow rows) op is))
    by schema Select is meta = cc

-- nothing is picked of files, and nothing that is picked is removed
pub none_picked : (fs : List File) → filter (λ a. false) fs ≡ []
none_picked [] = refl
none_picked (a ∷ fs) = none_picked fs
