-- Rows as statements have them.
use Rattle.std.specs.Prelude.{◌≤◌, List, length, FitsSigned, IsUtf8}
use Rattle.std.specs.Int.{w32, w64}
use Rattle.std.specs.List.{All}
use Rattle.row_base.specs.Dates.{IsDayNumber}
use Rattle.row_base.specs.declared.limits.TheConstants.{MAX_TEXT_BYTES}
use Rattle.row_base.specs.declared.row.Datum.{Datum}
use Rattle.row_base.specs.declared.row.Datum.TheVariants as datum

-- a number of its kind's width, a text that isn't too long, or a day of the years 1 to 9999
abbrev pub IsLiteral : Datum → Type 0
IsLiteral datum.Null = Unit {0}
IsLiteral (datum.Long n) = FitsSigned w64 n
IsLiteral (datum.Integer n) = FitsSigned w32 n
IsLiteral (datum.Boolean b) = Unit {0}
IsLiteral (datum.Text t) = IsUtf8 t × (length t ≤ MAX_TEXT_BYTES)
IsLiteral (datum.Date n) = FitsSigned w32 n × IsDayNumber n

-- each datum of each row is one
abbrev pub AreLiterals : List (List Datum) → Type 0
AreLiterals rows = All (All IsLiteral) rows
