-- Which rows of a table match which rows of a source.
use Rattle.std.specs.Prelude.{ℕ, Bool, not, List, map, filter}
use Rattle.std.specs.List.{list_all, list_any}
use Rattle.row_base.specs.declared.row.Datum.{Datum}
use Rattle.predicates.specs.Truths.{cell, is_null, compared}
use Rattle.predicates.specs.declared.pred.Op.TheVariants as op
use Rattle.dml_ops.specs.Changes.{is_yes}

-- a row of the table matches one of the source: each key column is equal, and null in neither
abbrev pub is_match : List ℕ → List Datum → List Datum → Bool
is_match keys row source = list_all (λ c. is_yes (compared op.Eq (cell row c) (cell source c))) keys

-- the rows of the source that match a row of the table
abbrev pub matches : List ℕ → List (List Datum) → List Datum → List (List Datum)
matches keys source row = filter (is_match keys row) source

-- the rows of the source that match no row of these
abbrev pub unmatched : List ℕ → List (List Datum) → List (List Datum) → List (List Datum)
unmatched keys source rows = filter (λ s. not (list_any (λ x. is_match keys x s) rows)) source

-- ---- reading

-- the data of the key columns
abbrev pub key_data : List ℕ → List Datum → List Datum
key_data keys row = map (cell row) keys

-- a key column is null
abbrev pub has_null : List ℕ → List Datum → Bool
has_null keys row = list_any (λ c. is_null (cell row c)) keys
