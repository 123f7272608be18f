-- Texts read back, and nothing else reads.
use Rattle.std.specs.Prelude.{◌≡◌, ℕ, true, List, Some}
use Rattle.std.specs.List.{list_all}
use Rattle.row_base.specs.declared.row.Datum.{Datum}
use Rattle.line_texts.specs.Texts.{text_of_columns, columns_of_text, is_word, text_of_add, path_of_text, is_path, text_of_rows, rows_of_text, is_long_row}

abbrev pub ColumnsReadBack : Type 0
ColumnsReadBack = (names : List (List ℕ)) → list_all is_word names ≡ true → columns_of_text (text_of_columns names) ≡ Some names

abbrev pub PathReadsBack : Type 0
PathReadsBack = (path : List ℕ) → is_path path ≡ true → path_of_text (text_of_add path) ≡ Some path

abbrev pub RowsReadBack : Type 0
RowsReadBack = (rows : List (List Datum)) → list_all is_long_row rows ≡ true → rows_of_text (text_of_rows rows) ≡ Some rows

abbrev pub ColumnsAreWritten : Type 0
ColumnsAreWritten = (text : List ℕ) (names : List (List ℕ)) → columns_of_text text ≡ Some names → text_of_columns names ≡ text

abbrev pub PathIsWritten : Type 0
PathIsWritten = (text path : List ℕ) → path_of_text text ≡ Some path → text_of_add path ≡ text

abbrev pub RowsAreWritten : Type 0
RowsAreWritten = (text : List ℕ) (rows : List (List Datum)) → rows_of_text text ≡ Some rows → text_of_rows rows ≡ text
