-- Rows that fit a schema have values that can stand in the columns' pages.
use Rattle.std.proofs.Common.{◌≡◌, ℕ, ◌<◌, Bool, true, false, List, length, Some, None, if◌then◌else◌, not, ◌&&◌, get_or, refl, ap, ◌∙◌, arith}
use Rattle.std.specs.List.{All, list_any}
use Rattle.std.specs.Prelude.{◌==◌}
use Rattle.std.proofs.lemmas.List.Elements.{All-map}
use Rattle.row_base.specs.declared.row.Datum.{Datum}
use Rattle.row_base.specs.declared.row.Datum.TheVariants as datum
use Rattle.row_base.specs.declared.schema.Column.{Column}
use Rattle.row_base.specs.declared.schema.RowFault.TheVariants as fault
use Rattle.row_base.specs.Schema.{TableSchema, FitsSchema, datum_fault, is_of_kind, is_empty_text}
use Rattle.parquet_pages.specs.Written.{CanStand}
use Rattle.parquet_plain.specs.Written.{column_values}

null_stands : (b : Bool) (place : ℕ) → (if b then None else Some (fault.Null place)) ≡ None → b ≡ true
null_stands true place e = refl
null_stands false place e = cc

kind_stands : (b e : Bool) (place : ℕ) → (if not b then Some (fault.Kind place) else (if e then Some (fault.EmptyPartition place) else None)) ≡ None → b ≡ true
kind_stands true e place h = refl
kind_stands false e place h = cc

stands : (partition : List ℕ) (place : ℕ) (c : Column) (d : Datum) → datum_fault partition place c d ≡ None → CanStand c.kind c.nullable d
stands partition place c datum.Null e = null_stands c.nullable place e
stands partition place c (datum.Long n) e = kind_stands (is_of_kind c.kind (datum.Long n)) (is_empty_text (datum.Long n) && list_any (λ p. p == place) partition) place e
stands partition place c (datum.Integer n) e = kind_stands (is_of_kind c.kind (datum.Integer n)) (is_empty_text (datum.Integer n) && list_any (λ p. p == place) partition) place e
stands partition place c (datum.Boolean b) e = kind_stands (is_of_kind c.kind (datum.Boolean b)) (is_empty_text (datum.Boolean b) && list_any (λ p. p == place) partition) place e
stands partition place c (datum.Text t) e = kind_stands (is_of_kind c.kind (datum.Text t)) (is_empty_text (datum.Text t) && list_any (λ p. p == place) partition) place e
stands partition place c (datum.Date n) e = kind_stands (is_of_kind c.kind (datum.Date n)) (is_empty_text (datum.Date n) && list_any (λ p. p == place) partition) place e

row_stands : (s : TableSchema) (k : ℕ) (c : Column) (row : List Datum) → k < length s.columns → c ≡ get_or s.columns k c → FitsSchema s row → CanStand c.kind c.nullable (get_or row k datum.Null)
row_stands s k c row within is fits =
    stands s.partition k c (get_or row k datum.Null)
    (ap (λ x. datum_fault s.partition k x (get_or row k datum.Null)) is ∙ fits.each k c datum.Null (omega (arith, fits.count)))

-- the values of a column of rows that fit
pub column_stands : (s : TableSchema) (k : ℕ) (c : Column) (rows : List (List Datum)) → k < length s.columns → c ≡ get_or s.columns k c → All (FitsSchema s) rows
    → All (CanStand c.kind c.nullable) (column_values k rows)
column_stands s k c rows within is fits =
    All-map (CanStand c.kind c.nullable) (λ r. get_or r k datum.Null) rows (λ i r here. row_stands s k c (get_or rows i r) within is (fits i r here))
