-- Rows as they are printed, each datum in the form of its literal.
use Rattle.std.specs.Prelude.{ℕ, ◌+◌, ◌-◌, ◌/◌, ◌%◌, ◌==◌, ◌&&◌, ◌||◌, nat_lt, Bool, if◌then◌else◌, List, [], ◌∷◌, ◌++◌, codes, ℤ, pos, neg_ℤ, int_le}
use Rattle.std.specs.List.{flat_map}
use Rattle.std.specs.Fmt.{signed_decimal}
use Rattle.row_base.specs.declared.row.Datum.{Datum}
use Rattle.row_base.specs.declared.row.Datum.TheVariants.{Null, Long, Integer, Boolean, Text, Date}
use Rattle.row_base.specs.Dates.{text_of_day}

-- a digit of base 16, in lower case
abbrev pub hex_digit : ℕ → ℕ
hex_digit d = if nat_lt d 10 then 48 + d else 97 + (d - 10)

-- a byte in quotes: a quote and a backslash stand twice, and a control character is written by its number
abbrev pub escaped : ℕ → List ℕ
escaped b =
    if b == 39 then codes "''"
    else if b == 92 then 92 ∷ 92 ∷ []
    else if nat_lt b 32 || (b == 127) then 92 ∷ 120 ∷ hex_digit (b / 16) ∷ hex_digit (b % 16) ∷ []
    else b ∷ []

abbrev pub quoted : List ℕ → List ℕ
quoted text = codes "'" ++ flat_map escaped text ++ codes "'"

-- the days from 0001-01-01 to 9999-12-31
abbrev pub is_day_number : ℤ → Bool
is_day_number n = int_le (neg_ℤ (pos 719162)) n && int_le n (pos 2932896)

-- a date as yyyy-MM-dd; a day outside of these years by its number
abbrev pub day_text : ℤ → List ℕ
day_text n = if is_day_number n then text_of_day n else signed_decimal n

abbrev pub boolean_text : Bool → List ℕ
boolean_text b = if b then codes "true" else codes "false"

abbrev pub literal : Datum → List ℕ
literal Null = codes "null"
literal (Long n) = signed_decimal n
literal (Integer n) = signed_decimal n
literal (Boolean b) = boolean_text b
literal (Text t) = quoted t
literal (Date n) = codes "date '" ++ day_text n ++ codes "'"

abbrev pub behind_comma : Datum → List ℕ
behind_comma d = codes ", " ++ literal d

abbrev pub data_text : List Datum → List ℕ
data_text [] = []
data_text (d ∷ ds) = literal d ++ flat_map behind_comma ds

-- a row
abbrev pub row_text : List Datum → List ℕ
row_text row = codes "(" ++ data_text row ++ codes ")"

-- a row and its line end
abbrev pub row_line : List Datum → List ℕ
row_line row = row_text row ++ codes "\n"
