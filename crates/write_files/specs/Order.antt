-- The order of new rows.
use Rattle.std.specs.Prelude.{ℕ, List, [], ◌∷◌, map, slice_index_or, if◌then◌else◌}
use Rattle.std.specs.Ordering.{on, then_cmp, is_gt}
use Rattle.std.specs.declared.cmp.Ordering.{Ordering}
use Rattle.row_base.specs.declared.row.Datum.{Datum}
use Rattle.row_base.specs.declared.row.Datum.TheVariants as datum
use Rattle.row_base.specs.RowOrder.{row_cmp}
use Rattle.row_base.specs.Schema.{TableSchema}

-- the datum at a place of a row, which is null where the row lacks it
abbrev pub datum_at : List Datum → ℕ → Datum
datum_at row place = slice_index_or row place datum.Null

-- the values of a row's partition columns, in the order in which the table is partitioned
abbrev pub values_of : TableSchema → List Datum → List Datum
values_of s row = map (datum_at row) s.partition

-- by these values, column by column and null first, and then by the rows
abbrev pub group_cmp : TableSchema → List Datum → List Datum → Ordering
group_cmp s = then_cmp (on (values_of s) row_cmp) row_cmp

-- a value put in its place among values in order
unfoldable pub placed : {A : Type 0} → (A → A → Ordering) → A → List A → List A
placed order x [] = x ∷ []
placed order x (y ∷ ys) = if is_gt (order x y) then y ∷ placed order x ys else x ∷ y ∷ ys

-- values in order
unfoldable pub in_order : {A : Type 0} → (A → A → Ordering) → List A → List A
in_order order [] = []
in_order order (x ∷ xs) = placed order x (in_order order xs)
