-- Which rows go into which new file.
use Rattle.std.specs.Prelude.{ℕ, ◌+◌, nat_lt, nat_le, Bool, ◌&&◌, if◌then◌else◌, ◌-◌, List, [], ◌∷◌, ◌++◌, length, map, Option, Some, None}
use denote.Ref.{Bor}
use Rattle.row_base.specs.declared.row.Datum.{Datum}
use Rattle.row_base.specs.declared.row.Datum.TheVariants as datum
use Rattle.row_base.specs.RowOrder.{row_eq}
use Rattle.row_base.specs.Schema.{TableSchema}
use Rattle.write_files.specs.declared.limits.TheConstants.{MAX_NEW_FILE_ROWS, MAX_NEW_FILE_SIZE}
use Rattle.write_files.specs.Order.{values_of, group_cmp, in_order}

-- a list cut where an element doesn't go with those before it: the first part begins with these
unfoldable pub cut_after : {A : Type 0} → (List A → A → Bool) → List A → List A → List (List A)
cut_after goes part [] = part ∷ []
cut_after goes part (x ∷ xs) = if goes part x then cut_after goes (part ++ x ∷ []) xs else part ∷ cut_after goes (x ∷ []) xs

-- the whole list cut so; no part is empty
unfoldable pub cut : {A : Type 0} → (List A → A → Bool) → List A → List (List A)
cut goes [] = []
cut goes (x ∷ xs) = cut_after goes (x ∷ []) xs

-- ---- groups

-- the first row
abbrev pub first_row : List (List Datum) → List Datum
first_row [] = []
first_row (r ∷ rs) = r

-- a row has the values of the first of these in the partition columns
abbrev pub has_values : TableSchema → List (List Datum) → List Datum → Bool
has_values s rows r = row_eq (values_of s (first_row rows)) (values_of s r)

-- the groups of rows by the values of the partition columns: groups in order of these values, rows of a group in order
abbrev pub groups_of : TableSchema → List (List Datum) → List (List (List Datum))
groups_of s rows = cut (has_values s) (in_order (group_cmp s) rows)

-- ---- files

-- the plain size of a datum in bytes
abbrev pub datum_size : Datum → ℕ
datum_size datum.Null = 1
datum_size (datum.Long n) = 9
datum_size (datum.Integer n) = 5
datum_size (datum.Boolean b) = 2
datum_size (datum.Text t) = 5 + length t
datum_size (datum.Date n) = 5

-- .. of a row
abbrev pub row_size : List Datum → ℕ
row_size [] = 0
row_size (d ∷ ds) = datum_size d + row_size ds

-- .. of rows
abbrev pub rows_size : List (List Datum) → ℕ
rows_size [] = 0
rows_size (r ∷ rs) = row_size r + rows_size rs

-- the bytes that are left of so many behind a row, where it has room in them
abbrev pub room_after : ℕ → List Datum → Option ℕ
room_after room row = if nat_le (row_size row) room then Some (room - row_size row) else None

-- .. in a file of so many rows
abbrev pub room_behind : ℕ → ℕ → List Datum → Option ℕ
room_behind count room row = if nat_lt count MAX_NEW_FILE_ROWS then room_after room row else None

-- a file of these rows has room for one more
abbrev pub has_room : List (List Datum) → List Datum → Bool
has_room rows r = nat_lt (length rows) MAX_NEW_FILE_ROWS && nat_le (rows_size rows + row_size r) MAX_NEW_FILE_SIZE

-- the rows of each file, by groups
unfoldable pub pieces_in : List (List (List Datum)) → List (List (List Datum))
pieces_in [] = []
pieces_in (g ∷ gs) = cut has_room g ++ pieces_in gs

-- all parts together
abbrev pub joined : {A : Type 0} → List (List A) → List A
joined [] = []
joined (p ∷ ps) = p ++ joined ps

-- the rows of each new file
unfoldable pub pieces_of : TableSchema → List (List Datum) → List (List (List Datum))
pieces_of s rows = pieces_in (groups_of s rows)

-- rows that are borrowed
abbrev pub rows_now : List (Bor (List Datum)) → List (List Datum)
rows_now rows = map (λ r. r.now) rows
