-- Definition levels of a column that may be null (README.md, "Nulls"; Encodings.md, RLE = 3): level 1 for a value that is
-- there, 0 for null. In a version 1 data page the hybrid has its number of bytes in front.
use Rattle.std.specs.Prelude.{ℕ, ◌+◌, ◌==◌, Bool, if◌then◌else◌, List, [], ◌∷◌, Option, option_map}
use Rattle.std.specs.List.{list_any}
use Rattle.row_base.specs.declared.row.Datum.{Datum}
use Rattle.row_base.specs.declared.row.Datum.TheVariants as datum
use Rattle.row_base.specs.Readings.{◌>>=◌}
use Rattle.parquet_pages.specs.Hybrids.{hybrid_values}
use Rattle.parquet_pages.specs.Plain.{block_in}

-- so many levels at the front of a page's body, and what is behind them
unfoldable pub levels_in : ℕ → List ℕ → Option (List ℕ × List ℕ)
levels_in count bytes = block_in bytes >>= λ b. option_map (λ levels. (levels, b.1)) (hybrid_values 1 b.0 count)

-- how many values are there
abbrev pub there : List ℕ → ℕ
there [] = 0
there (level ∷ levels) = (if level == 0 then 0 else 1) + there levels

-- null stands somewhere
abbrev pub has_null : List ℕ → Bool
has_null levels = list_any (λ level. level == 0) levels

-- the values that are there, each at its place, and null at the others
abbrev pub spread : List ℕ → List Datum → List Datum
spread [] values = []
spread (level ∷ levels) [] = datum.Null ∷ spread levels []
spread (level ∷ levels) (v ∷ values) =
    if level == 0 then datum.Null ∷ spread levels (v ∷ values) else v ∷ spread levels values
