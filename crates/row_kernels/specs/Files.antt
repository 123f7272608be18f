-- Files of a table with the columns `id` and `name`, of which it is known what their statistics say.
use Rattle.std.specs.Prelude.{ℕ, ◌+◌, ◌*◌, Bool, true, false, List, [], ◌∷◌, ◌++◌, map, Some, codes}
use Rattle.std.specs.List.{range_with_len}
use Rattle.std.specs.Fmt.{decimal}
use Rattle.row_base.specs.Schema.{TableSchema}
use Rattle.row_base.specs.declared.row.Datum.TheVariants as datum
use Rattle.row_base.specs.declared.row.Kind.TheVariants as kind
use Rattle.predicates.specs.declared.pred.Pred.{Pred}
use Rattle.prune.specs.declared.column.ColumnFacts.{ColumnFacts}
use Rattle.prune.specs.Known.{facts_of, stats_said}
use Rattle.prune.specs.Facts.{possible_in}
use Rattle.row_kernels.specs.Rows.{column, schema_with}
use Rattle.row_kernels.specs.Scopes.{count_where}

-- the schema of the table
abbrev pub schema : TableSchema
schema = schema_with (column (codes "name") kind.String true)

-- the statistics of ten rows, from the first `id` to the last: each name is an `n` and the `id`, but for three without
abbrev pub statistics : ℕ → ℕ → List ℕ
statistics first last =
    codes "{\"maxValues\":{\"id\":" ++ (decimal last ++ (codes ",\"name\":\"n" ++ (decimal last
    ++ (codes "\"},\"minValues\":{\"id\":" ++ (decimal first ++ (codes ",\"name\":\"n" ++ (decimal first
    ++ codes "\"},\"nullCount\":{\"id\":0,\"name\":3},\"numRecords\":10}")))))))

-- those of the file of a number
unfoldable pub statistics_of : ℕ → List ℕ
statistics_of number = statistics (number * 10) (number * 10 + 9)

-- those of so many files
unfoldable pub texts_of : ℕ → List (List ℕ)
texts_of count = map statistics_of (range_with_len 0 count)

-- what is known of a file by its statistics
unfoldable pub facts_by : List ℕ → List ColumnFacts
facts_by text = facts_of schema (datum.Null ∷ datum.Null ∷ []) (stats_said schema (Some text))

-- a file may match a predicate
abbrev pub may : Pred ℕ → List ColumnFacts → Bool
may p facts = (possible_in facts p).yes

-- how many of so many files may match
abbrev pub match_count : Pred ℕ → ℕ → ℕ
match_count p count = count_where (may p) (map facts_by (texts_of count))
