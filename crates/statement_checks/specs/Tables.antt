-- The schema of a table that is to be made, or the first fault from the left.
use Rattle.std.specs.Prelude.{◌==◌, ℕ, ◌+◌, List, [], ◌∷◌, ◌++◌, length, Result, Ok, Err, if◌then◌else◌}
use Rattle.std.specs.Option.{option_map_or}
use Rattle.row_base.specs.Faults.{◌>>=◌}
use Rattle.row_base.specs.Schema.{TableSchema, first_after, repeats_name, is_column_count}
use Rattle.row_base.specs.declared.schema.Column.{Column}
use Rattle.predicates.specs.declared.fault.BindFault.{BindFault}
use Rattle.predicates.specs.declared.fault.BindFault.TheVariants as fault
use Rattle.op_types.specs.declared.statement.Property.{Property}
use Rattle.statement_checks.specs.Names.{new_place_in}
use Rattle.statement_checks.specs.Properties.{properties_in}

-- the first column whose name stood before
abbrev pub names_in : List Column → Result (Unit {0}) BindFault
names_in columns = option_map_or (λ x. Err (fault.Twice x.1.name)) (first_after repeats_name [] columns) (Ok tt)

-- 1 to 64 columns, which stands before the first of them, with a name each
abbrev pub columns_in : List Column → Result (Unit {0}) BindFault
columns_in columns = if is_column_count (length columns) then names_in columns else Err fault.Count

-- a partition column after those before, with which a column is left for data
abbrev pub partition_place_in : List Column → List ℕ → List ℕ → Result ℕ BindFault
partition_place_in columns before name =
    new_place_in columns before name >>= λ p. if length before + 1 == length columns then Err fault.Count else Ok p

-- partition columns after those before
unfoldable pub partition_in : List Column → List ℕ → List (List ℕ) → Result (List ℕ) BindFault
partition_in columns before [] = Ok []
partition_in columns before (n ∷ ns) =
    partition_place_in columns before n >>= λ p. partition_in columns (before ++ p ∷ []) ns >>= λ ps. Ok (p ∷ ps)

-- a table: its columns, the names of its partition columns, and then its properties
abbrev pub table_in : List Column → List (List ℕ) → List Property → Result TableSchema BindFault
table_in columns partition properties =
    columns_in columns >>= λ u. partition_in columns [] partition >>= λ ps.
    properties_in properties >>= λ v. Ok (record { columns = columns; partition = ps })
