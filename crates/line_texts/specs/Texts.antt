-- The texts of commits and data files, line by line. A commit that makes a table has the line 'columns' with a name behind
-- each space; one that appends a file has the line 'add' with the file's path; a data file has a line for each row, its
-- numbers with commas between them.
use Rattle.std.specs.Prelude.{ℕ, ◌==◌, ◌&&◌, not, nat_lt, nat_eq, Bool, false, if◌then◌else◌, List, [], ◌∷◌, ◌++◌, map, length, drop, codes, Option, Some, None, option_map}
use Rattle.std.specs.List.{flat_map, list_all, starts_with, join_with_byte}
use Rattle.std.specs.Str.{bytes_eq, is_utf8}
use Rattle.std.specs.Fmt.{signed_decimal}
use Rattle.row_base.specs.declared.row.Datum.{Datum}
use Rattle.row_base.specs.declared.row.Datum.TheVariants.{Null, Long, Integer, Boolean, Text, Date}
use Rattle.line_texts.specs.Pieces.{pieces, each, each_line, first_bad, only_line, bad_only}
use Rattle.line_texts.specs.Numbers.{fits, long_of_text}

-- the commit that makes a table
unfoldable pub text_of_columns : List (List ℕ) → List ℕ
text_of_columns names = join_with_byte 32 (codes "columns" ∷ names) ++ 10 ∷ []

abbrev pub text_of_utf8 : List ℕ → Option (List ℕ)
text_of_utf8 text = if is_utf8 text then Some text else None

abbrev pub names_of_pieces : List (List ℕ) → Option (List (List ℕ))
names_of_pieces [] = None
names_of_pieces (p ∷ ps) = if bytes_eq p (codes "columns") then each text_of_utf8 ps else None

abbrev pub names_of_line : List ℕ → Option (List (List ℕ))
names_of_line line = names_of_pieces (pieces 32 line)

unfoldable pub columns_of_text : List ℕ → Option (List (List ℕ))
columns_of_text text = only_line names_of_line (pieces 10 text)

unfoldable pub bad_line_of_columns : List ℕ → ℕ
bad_line_of_columns text = bad_only names_of_line (pieces 10 text)

-- the commit that appends a file
unfoldable pub text_of_add : List ℕ → List ℕ
text_of_add path = codes "add " ++ path ++ 10 ∷ []

abbrev pub path_of_line : List ℕ → Option (List ℕ)
path_of_line line = if starts_with nat_eq line (codes "add ") then text_of_utf8 (drop 4 line) else None

unfoldable pub path_of_text : List ℕ → Option (List ℕ)
path_of_text text = only_line path_of_line (pieces 10 text)

unfoldable pub bad_line_of_path : List ℕ → ℕ
bad_line_of_path text = bad_only path_of_line (pieces 10 text)

-- the data file; a datum of another kind has no text
abbrev pub text_of_datum : Datum → List ℕ
text_of_datum Null = []
text_of_datum (Long n) = signed_decimal n
text_of_datum (Integer n) = []
text_of_datum (Boolean b) = []
text_of_datum (Text t) = []
text_of_datum (Date n) = []

abbrev pub text_of_row : List Datum → List ℕ
text_of_row row = join_with_byte 44 (map text_of_datum row)

abbrev pub line_of_row : List Datum → List ℕ
line_of_row row = text_of_row row ++ 10 ∷ []

unfoldable pub text_of_rows : List (List Datum) → List ℕ
text_of_rows rows = flat_map line_of_row rows

abbrev pub datum_of_text : List ℕ → Option Datum
datum_of_text text = option_map Long (long_of_text text)

abbrev pub row_of_line : List ℕ → Option (List Datum)
row_of_line line = each datum_of_text (pieces 44 line)

unfoldable pub rows_of_text : List ℕ → Option (List (List Datum))
rows_of_text text = each_line row_of_line (pieces 10 text)

unfoldable pub bad_line_of_rows : List ℕ → ℕ
bad_line_of_rows text = first_bad row_of_line 1 (pieces 10 text)

-- names and paths that their texts give back, and rows
abbrev pub is_path : List ℕ → Bool
is_path text = is_utf8 text && list_all (λ b. not (b == 10)) text

abbrev pub is_word : List ℕ → Bool
is_word text = is_path text && list_all (λ b. not (b == 32)) text

abbrev pub is_long : Datum → Bool
is_long Null = false
is_long (Long n) = fits n
is_long (Integer n) = false
is_long (Boolean b) = false
is_long (Text t) = false
is_long (Date n) = false

abbrev pub is_long_row : List Datum → Bool
is_long_row row = nat_lt 0 (length row) && list_all is_long row
