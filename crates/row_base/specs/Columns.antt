-- Rows made of columns of data side by side.
use Rattle.std.specs.Prelude.{List, [], ◌∷◌}
use Rattle.row_base.specs.declared.row.Datum.{Datum}
use Rattle.row_base.specs.declared.row.Datum.TheVariants as datum

-- the first of these values, or null where there is none
abbrev pub head_or_null : List Datum → Datum
head_or_null [] = datum.Null
head_or_null (v ∷ vs) = v
